-- How a loop finds the first place that a test marks, and keeps a table of what was marked.
use Rattle.std.proofs.Common.{◌≡◌, ℕ, zero, suc, ◌+◌, ◌<◌, ◌≤◌, Bool, true, false, cond, ◌||◌, is_some, Some, None, Option, sym, refl, ap, ◌∙◌, subst, ⊎_elim, arith, below_more}
use Rattle.std.proofs.lemmas.Bool.{cond-true, cond-false, cases_Bool, both_ways}
use Rattle.records.specs.First.{first_from, first, some, Clear}

none_from : (f : ℕ → Bool) (i n : ℕ) → ((k : ℕ) → i ≤ k → k < i + n → f k ≡ false) → first_from f i n ≡ None
none_from f i zero h = refl
none_from f i (suc n) h =
    cond-false _ _ _ (h i (omega arith) (omega arith))
    ∙ none_from f (suc i) n (λ k a b. h k (omega arith) (omega arith))

some-from : (f : ℕ → Bool) (i n m : ℕ) → m < n → f (i + m) ≡ true → ((k : ℕ) → i ≤ k → k < i + m → f k ≡ false) → first_from f i n ≡ Some (i + m)
some-from f i zero m b t h = absurd (omega arith)
some-from f i (suc n) zero b t h =
    let same : i + 0 ≡ i = omega arith in
    cond-true _ _ _ (ap f (sym same) ∙ t) ∙ ap (λ (k : ℕ). Some k) (sym same)
some-from f i (suc n) (suc m) b t h =
    let same : suc i + m ≡ i + suc m = omega arith in
    cond-false _ _ _ (h i (omega arith) (omega arith))
    ∙ some-from f (suc i) n m (omega arith) (ap f same ∙ t) (λ k p q. h k (omega arith) (omega arith)) ∙ ap (λ (k : ℕ). Some k) same

-- ── A loop over the places ──
pub clear-more : (f : ℕ → Bool) (i : ℕ) → Clear f i → false ≡ f i → Clear f (i + 1)
clear-more f i h e = below_more _ _ h (sym e)

-- a loop that went through finds none
pub first-none : (f : ℕ → Bool) (n i : ℕ) → n ≤ i → Clear f i → None ≡ first f n
first-none f n i le h = sym (none_from f 0 n (λ k a b. h k (omega arith)))

-- a loop that stops at the first marked place finds it
pub first_some : (f : ℕ → Bool) (n j : ℕ) → j < n → true ≡ f j → Clear f j → Some j ≡ first f n
first_some f n j b t h =
    let z : 0 + j ≡ j = omega arith in
    sym (some-from f 0 n j b (ap f z ∙ sym t) (λ k p q. h k (omega arith)) ∙ ap (λ (k : ℕ). Some k) z)

pub some-none : (f : ℕ → Bool) (n i : ℕ) → n ≤ i → Clear f i → false ≡ some f n
some-none f n i le h = ap is_some (first-none f n i le h)

pub some-found : (f : ℕ → Bool) (n j : ℕ) → j < n → true ≡ f j → Clear f j → true ≡ some f n
some-found f n j b t h = ap is_some (first_some f n j b t h)

-- ── What an answer tells ──
-- either no place below n is marked, or a first one is
pub data Found (f : ℕ → Bool) (n : ℕ) : Type 0 where
  nowhere : Clear f n → first f n ≡ None → Found f n
  here : (k : ℕ) → k < n → f k ≡ true → Clear f k → first f n ≡ Some k → Found f n

look : (f : ℕ → Bool) (n i : ℕ) → i ≤ n → Clear f i → (m : ℕ) → i + m ≡ n → Found f n
look f n i le h zero e = nowhere (λ k l. h k (omega arith)) (sym (first-none f n i (omega arith) h))
look f n i le h (suc m) e =
    ⊎_elim (λ t. here i (omega arith) t h (sym (first_some f n i (omega arith) (sym t) h)))
    (λ t. look f n (suc i) (omega arith) (subst (Clear f) (omega arith) (clear-more f i h (sym t))) m (omega arith)) (cases_Bool (f i))

pub found : (f : ℕ → Bool) (n : ℕ) → Found f n
found f n = look f n 0 (omega arith) (λ k l. absurd (omega arith)) n (omega arith)

some≢none : {A : Type 0} (x : A) → Some x ≡ None → ⊥
some≢none x e = both_ways true (ap is_some e) refl

pub none-clear : (f : ℕ → Bool) (n : ℕ) → first f n ≡ None → Clear f n
none-clear f n e = by (found f n)
  where
    by : Found f n → Clear f n
    by (nowhere h _) = h
    by (here k l t h e') = absurd (some≢none k (sym e' ∙ e))

pub some_true : (f : ℕ → Bool) (n : ℕ) → some f n ≡ true → (k : ℕ) × (k < n) × (f k ≡ true)
some_true f n e = by (found f n)
  where
    by : Found f n → (k : ℕ) × (k < n) × (f k ≡ true)
    by (nowhere _ e') = absurd (both_ways (some f n) (ap is_some e') e)
    by (here k l t _ _) = (k, l, t)

pub some-clear : (f : ℕ → Bool) (n : ℕ) → some f n ≡ false → Clear f n
some-clear f n e = by (found f n)
  where
    by : Found f n → Clear f n
    by (nowhere h _) = h
    by (here k l t h e') = absurd (both_ways (some f n) e (ap is_some e'))

pub true_some : (f : ℕ → Bool) (n k : ℕ) → k < n → f k ≡ true → some f n ≡ true
true_some f n k l t = by (found f n)
  where
    by : Found f n → some f n ≡ true
    by (nowhere h _) = absurd (both_ways (f k) (h k l) t)
    by (here j _ _ _ e) = ap is_some e

-- the only place that is marked is the first
pub first-only : (f : ℕ → Bool) (n k : ℕ) → k < n → f k ≡ true → ((j : ℕ) → j < n → f j ≡ true → j ≡ k) → first f n ≡ Some k
first-only f n k l t only = by (found f n)
  where
    by : Found f n → first f n ≡ Some k
    by (nowhere h _) = absurd (both_ways (f k) (h k l) t)
    by (here j m u _ e) = e ∙ ap (λ (x : ℕ). Some x) (only j m u)

-- ── One place more ──
pub first_more : (f : ℕ → Bool) (n : ℕ) → first f (suc n) ≡ cond (some f n) (first f n) (cond (f n) (Some n) None)
first_more f n = by (found f n)
  where
    then : Clear f n → first f (suc n) ≡ cond (f n) (Some n) None
    then h =
        ⊎_elim (λ t. sym (first_some f (suc n) n (omega arith) (sym t) h) ∙ sym (cond-true _ _ _ t))
        (λ t. sym (first-none f (suc n) (n + 1) (omega arith) (clear-more f n h (sym t))) ∙ sym (cond-false _ _ _ t)) (cases_Bool (f n))

    by : Found f n → first f (suc n) ≡ cond (some f n) (first f n) (cond (f n) (Some n) None)
    by (nowhere h e) = then h ∙ sym (cond-false _ _ _ (ap is_some e))
    by (here k l t h e) = sym (first_some f (suc n) k (omega arith) (sym t) h) ∙ sym e ∙ sym (cond-true _ _ _ (ap is_some e))

is_some_cond : (b : Bool) (x y : Option ℕ) → is_some (cond b x y) ≡ cond b (is_some x) (is_some y)
is_some_cond true x y = refl
is_some_cond false x y = refl

or_cond : (a b : Bool) (n : ℕ) → cond a a (is_some (cond b (Some n) None)) ≡ (a || b)
or_cond true b n = refl
or_cond false true n = refl
or_cond false false n = refl

pub some_more : (f : ℕ → Bool) (n : ℕ) → some f (suc n) ≡ (some f n || f n)
some_more f n = ap is_some (first_more f n) ∙ is_some_cond (some f n) (first f n) (cond (f n) (Some n) None) ∙ or_cond (some f n) (f n) n
