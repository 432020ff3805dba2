-- How many elements of a list pass a test: none, at most one, some, or as many as pass two others together.
use Rattle.std.proofs.Common.{◌≡◌, ℕ, suc, ◌+◌, ◌<◌, ◌≤◌, Bool, true, false, cond, ◌⊎◌, List, [], ◌∷◌, length, get_or, filter, sym, refl, ap, ◌∙◌, subst, inl, inr, arith}
use Rattle.std.proofs.lemmas.List.Sums.{length-filter, get_or-le-sum_by, sum_by-cons}
use Rattle.std.proofs.lemmas.Bool.{cond-true, cond-false, cases_Bool}

module _ {X : Type 0} (p : X → Bool) where
  kept_cons : (x : X) (xs : List X) → length (filter p (x ∷ xs)) ≡ cond (p x) 1 0 + length (filter p xs)
  kept_cons x xs =
      let a = length-filter p (x ∷ xs) in
      let b = sum_by-cons (λ y. cond (p y) 1 0) x xs in
      let c = length-filter p xs in
      omega arith

  pub kept-none : (d : X) (xs : List X) → ((k : ℕ) → k < length xs → p (get_or xs k d) ≡ false) → length (filter p xs) ≡ 0
  kept-none d [] h = refl
  kept-none d (x ∷ xs) h =
      ap length (cond-false (p x) _ _ (h 0 (omega arith))) ∙ kept-none d xs (λ k l. h (suc k) (omega arith))

  pub kept-once : (d : X) (xs : List X)
      → ((j k : ℕ) → j < k → k < length xs → p (get_or xs j d) ≡ true → p (get_or xs k d) ≡ false) → length (filter p xs) ≤ 1
  kept-once d [] h = omega arith
  kept-once d (x ∷ xs) h = by (kept-once d xs (λ j k l m. h (suc j) (suc k) (omega arith) (omega arith))) (cases_Bool (p x))
    where
      by : length (filter p xs) ≤ 1 → (p x ≡ true) ⊎ (p x ≡ false) → length (filter p (x ∷ xs)) ≤ 1
      by ih (inl t) =
          let none = kept-none d xs (λ k l. h 0 (suc k) (omega arith) (omega arith) t) in
          subst (λ (ys : List X). length ys ≤ 1) (sym (cond-true (p x) _ _ t)) (omega arith)
      by ih (inr t) = subst (λ (ys : List X). length ys ≤ 1) (sym (cond-false (p x) _ _ t)) ih

  pub kept-some : (d : X) (xs : List X) (k : ℕ) → k < length xs → p (get_or xs k d) ≡ true → 0 < length (filter p xs)
  kept-some d xs k l t =
      let a = get_or-le-sum_by (λ x. cond (p x) 1 0) xs k d l in
      let b = length-filter p xs in
      let c = cond-true {A = ℕ} (p (get_or xs k d)) 1 0 t in
      omega arith

-- each element that passes r passes one of p and q
pub kept-split : {X : Type 0} (p q r : X → Bool) → ((x : X) → cond (r x) 1 0 ≡ cond (p x) 1 0 + cond (q x) 1 0)
    → (xs : List X) → length (filter r xs) ≡ length (filter p xs) + length (filter q xs)
kept-split p q r h [] = omega arith
kept-split p q r h (x ∷ xs) =
    let a = kept_cons p x xs in
    let b = kept_cons q x xs in
    let c = kept_cons r x xs in
    let d = h x in
    let e = kept-split p q r h xs in
    omega arith
