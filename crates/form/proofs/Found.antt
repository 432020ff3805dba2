-- The first marked place: it lies within, and one place more changes it only where none was found before.
use Rattle.std.proofs.Common.{◌≡◌, ℕ, ◌+◌, ◌<◌, Bool, true, false, cond, ◌||◌, is_some, Some, None, Option, sym, refl, ap, ◌∙◌, ⊎_elim, add-one}
use Rattle.std.proofs.lemmas.Bool.{both_ways, cases_Bool, cond-true, cond-false}
use Rattle.records.specs.First.{first, some}
use Rattle.records.proofs.Firsts.{Found, nowhere, here, found, first_more, some_more}

-- ── None ──
pub none_from : {X : Type 0} (o : Option X) → is_some o ≡ false → o ≡ None
none_from None e = refl
none_from (Some x) e = absurd (both_ways true e refl)

-- ── Within ──
pub within : (f : ℕ → Bool) (n k : ℕ) → first f n ≡ Some k → k < n
within f n k e = by (found f n)
  where
    by : Found f n → k < n
    by (nowhere _ e') = absurd (both_ways (some f n) (ap is_some e') (ap is_some e))
    by (here j l _ _ e') = let same : j ≡ k = cc in rw same at l

-- ── One place more ──
module _ (f : ℕ → Bool) (n : ℕ) where
  more : first f (n + 1) ≡ cond (some f n) (first f n) (cond (f n) (Some n) None)
  more = ap (first f) (add-one n) ∙ first_more f n

  pub first-kept : some f n ≡ true → first f (n + 1) ≡ first f n
  first-kept e = more ∙ cond-true _ _ _ e

  pub first_quiet : f n ≡ false → first f (n + 1) ≡ first f n
  first_quiet t = ⊎_elim first-kept (λ e. more ∙ cond-false _ _ _ e ∙ cond-false _ _ _ t ∙ sym (none_from (first f n) e)) (cases_Bool (some f n))

  pub some_next : some f (n + 1) ≡ (some f n || f n)
  some_next = ap (some f) (add-one n) ∙ some_more f n

  pub some_quiet : f n ≡ false → some f (n + 1) ≡ some f n
  some_quiet t = ap is_some (first_quiet t)
