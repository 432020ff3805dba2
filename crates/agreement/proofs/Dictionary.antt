-- Dictionary order on lists of numbers.
use Rattle.std.proofs.Common.{◌≡◌, ℕ, ◌<◌, ◌≤◌, true, false, ◌&&◌, eqb, ltb, ◌≢◌, ◌⊎◌, List, [], ◌∷◌, sym, refl, ◌∙◌, subst, ap₂, inl, inr, ⊎_elim, arith}
use Rattle.std.proofs.lemmas.Bool.{true≢false, false≢true, eqb-true, eq-eqb, ne_eqb, lt-ltb, le-ltb, ltb-true, ltb-false, cases_lt, cases_eq, and_parts, and_from, and_left, and_right, or_left, or_right, or_from, or_parts, or_cases}
use Rattle.agreement.specs.Moments.{before}

module _ (x y : ℕ) (xs ys : List ℕ) where
  pub before_head : x < y → before (x ∷ xs) (y ∷ ys) ≡ true
  before_head l = or_left (ltb x y) (eqb x y && before xs ys) (lt-ltb x y l)

  pub before-tail : x ≡ y → before xs ys ≡ true → before (x ∷ xs) (y ∷ ys) ≡ true
  before-tail e h = or_right (ltb x y) (eqb x y && before xs ys) (and_from (eqb x y) (before xs ys) (eq-eqb x y e) h)

  pub before_le : x ≤ y → before xs ys ≡ true → before (x ∷ xs) (y ∷ ys) ≡ true
  before_le l h = ⊎_elim (λ (k : x < y). before_head k) (λ (k : y ≤ x). before-tail (omega arith) h) (cases_lt x y)

  -- the heads differ, or they are equal and the tails decide
  before-cases : before (x ∷ xs) (y ∷ ys) ≡ true → (x < y) ⊎ ((x ≡ y) × (before xs ys ≡ true))
  before-cases h =
      ⊎_elim (λ (l : ltb x y ≡ true). inl (ltb-true x y l))
      (λ (l : (eqb x y && before xs ys) ≡ true). let p = and_parts (eqb x y) (before xs ys) l in inr (eqb-true x y p.0, p.1))
      (or_cases (ltb x y) (eqb x y && before xs ys) h)

  -- it is not before
  before-later : y ≤ x → (x ≡ y → before xs ys ≡ false) → before (x ∷ xs) (y ∷ ys) ≡ false
  before-later l h =
      or_from (ltb x y) (eqb x y && before xs ys) (le-ltb x y l)
      (⊎_elim (λ (e : x ≡ y). and_right (eqb x y) (before xs ys) (h e))
      (λ (n : x ≢ y). and_left (eqb x y) (before xs ys) (ne_eqb x y n)) (cases_eq x y))

pub before_not : (xs ys : List ℕ) → before xs ys ≡ true → before ys xs ≡ false
before_not xs [] h = absurd (false≢true h)
before_not [] (y ∷ ys) h = refl
before_not (x ∷ xs) (y ∷ ys) h =
    ⊎_elim (λ (l : x < y). before-later y x ys xs (omega arith) (λ e. absurd (omega arith)))
    (λ (p : (x ≡ y) × (before xs ys ≡ true)). let e = p.0 in before-later y x ys xs (omega arith) (λ _. before_not xs ys p.1))
    (before-cases x y xs ys h)

pub before_self : (xs : List ℕ) → before xs xs ≡ false
before_self [] = refl
before_self (x ∷ xs) = before-later x x xs xs (omega arith) (λ _. before_self xs)

pub before_trans : (xs ys zs : List ℕ) → before xs ys ≡ true → before ys zs ≡ true → before xs zs ≡ true
before_trans xs ys [] h k = absurd (false≢true k)
before_trans [] ys (z ∷ zs) h k = refl
before_trans (x ∷ xs) [] (z ∷ zs) h k = absurd (false≢true h)
before_trans (x ∷ xs) (y ∷ ys) (z ∷ zs) h k =
    go (before-cases x y xs ys h) (before-cases y z ys zs k) (λ a b. before_trans xs ys zs a b)
  where
    go : (x < y) ⊎ ((x ≡ y) × (before xs ys ≡ true)) → (y < z) ⊎ ((y ≡ z) × (before ys zs ≡ true))
        → (before xs ys ≡ true → before ys zs ≡ true → before xs zs ≡ true) → before (x ∷ xs) (z ∷ zs) ≡ true
    go (inl a) (inl b) rec = before_head x z xs zs (omega arith)
    go (inl a) (inr b) rec = let e = b.0 in before_head x z xs zs (omega arith)
    go (inr a) (inl b) rec = let e = a.0 in before_head x z xs zs (omega arith)
    go (inr a) (inr b) rec = before-tail x z xs zs (a.0 ∙ b.0) (rec a.1 b.1)

pub before_total : (xs ys : List ℕ) → before xs ys ≡ false → (before ys xs ≡ true) ⊎ (xs ≡ ys)
before_total [] [] h = inr refl
before_total (x ∷ xs) [] h = inl refl
before_total [] (y ∷ ys) h = absurd (true≢false h)
before_total (x ∷ xs) (y ∷ ys) h =
    let o = or_parts (ltb x y) (eqb x y && before xs ys) h in
    go o.1 (ltb-false x y o.0) (λ k. before_total xs ys k) (cases_eq x y)
  where
    go : (eqb x y && before xs ys) ≡ false → y ≤ x → (before xs ys ≡ false → (before ys xs ≡ true) ⊎ (xs ≡ ys))
        → (x ≡ y) ⊎ (x ≡ y → ⊥) → (before (y ∷ ys) (x ∷ xs) ≡ true) ⊎ ((x ∷ xs) ≡ (y ∷ ys))
    go b l rec (inr n) = inl (before_head y x ys xs (omega arith))
    go b l rec (inl e) =
        ⊎_elim (λ (k : before ys xs ≡ true). inl (before-tail y x ys xs (sym e) k))
        (λ (k : xs ≡ ys). inr (ap₂ {C = List ℕ} (λ u v. u ∷ v) e k))
        (rec (subst (λ z. (z && before xs ys) ≡ false) (eq-eqb x y e) b))
