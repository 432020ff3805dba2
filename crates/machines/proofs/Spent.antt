-- Whether nothing is left in the threads below a number, by threads and by what a table of them tells.
use Rattle.std.proofs.Common.{◌≡◌, ℕ, ◌+◌, ◌<◌, ◌≤◌, Bool, true, false, List, [], ◌∷◌, length, get_or, Decides, MatchBool, refl, sym, ap, ◌∙◌, ⊎_elim, arith, subst}
use Rattle.std.specs.List.{zip, range_with_len, AllWithin, HoldsAt}
use Rattle.std.proofs.lemmas.Bool.{cases_Bool, both_ways}
use Rattle.std.proofs.lemmas.Bool.Decides.{Decides-below_and}
use Rattle.std.proofs.lemmas.List.FromFn.{get_or-range_with_len}
use Rattle.std.proofs.lemmas.Slice.Zip.{length-zip, get_or-zip}
use Rattle.records.specs.declared.action.Action.{Action}
use Rattle.records.specs.Names.{Case, thread}
use Rattle.machines.specs.Run.{isNil, spent}

module _ (f : ℕ → List Action) (n : ℕ) where
  decided : Decides (spent n f) ((k : ℕ) → k < n → isNil (f k) ≡ true)
  decided = Decides-below_and (λ k. isNil (f k)) (λ k. isNil (f k) ≡ true) (λ m. spent m f) (λ k. (λ e. e, λ e. e)) refl (λ _. refl) n

  pub spent_all : ((k : ℕ) → k < n → isNil (f k) ≡ true) → spent n f ≡ true
  spent_all h = decided.1 h

  pub spent_not : (k : ℕ) → k < n → isNil (f k) ≡ false → spent n f ≡ false
  spent_not k l e = ⊎_elim (λ t. absurd (both_ways _ e (decided.0 t k l))) (λ t. t) (cases_Bool (spent n f))

-- ── The entries of a table, each with its thread ──
any-entry : {X : Type 0} (xs : List X) → length xs ≡ 8 → X
any-entry [] e = absurd (omega arith)
any-entry (x ∷ xs) e = x

-- an entry tells by `next` how many of its thread's actions are behind it, and f what is left
module _ {X : Type 0} (next : X → ℕ) (c : Case) (f : ℕ → List Action) (xs : List X) (long : length xs ≡ 8)
    (none : (k : ℕ) (d : X) → k < 8 → length (thread c k) ≤ next (get_or xs k d) → isNil (f k) ≡ true)
    (some : (k : ℕ) (d : X) → k < 8 → next (get_or xs k d) < length (thread c k) → isNil (f k) ≡ false) where
  abbrev pub pairs : List (X × ℕ)
  pairs = zip xs (range_with_len 0 8)

  pair : (k : ℕ) (d : X) → k < 8 → get_or pairs k (d, 0) ≡ (get_or xs k d, k)
  pair k d h =
      let z : 0 + k ≡ k = omega arith in
      get_or-zip xs (range_with_len 0 8) k (d, 0) (omega arith) h ∙ ap (λ n. (get_or xs k d, n)) (get_or-range_with_len 0 8 k 0 h ∙ z)

  pub spent_by : (r : Bool) → MatchBool r (AllWithin (λ p. length (thread c p.1) ≤ next p.0) pairs 0 (length pairs)) ((k : ℕ) × (k < length pairs) × HoldsAt (λ p. next p.0 < length (thread c p.1)) pairs k) → r ≡ spent 8 f
  spent_by true h =
      let d = any-entry xs long in
      sym (spent_all f 8 (λ k l. none k d l (subst (λ p. length (thread c p.1) ≤ next p.0) (pair k d l) (h k (d, 0) (omega arith) (omega (arith, length-zip xs (range_with_len 0 8)))))))
  spent_by false h =
      let d = any-entry xs long in
      let l : h.0 < 8 = omega (arith, length-zip xs (range_with_len 0 8)) in
      sym (spent_not f 8 h.0 l (some h.0 d l (subst (λ p. next p.0 < length (thread c p.1)) (pair h.0 d l) (h.2 (d, 0)))))
