-- A list that is written into another, and more behind it.
use Rattle.std.proofs.Common.{◌≡◌, ℕ, ◌+◌, ◌<◌, ◌≤◌, List, [], ◌∷◌, ◌++◌, length, take, drop, set, sym, ap, ◌∙◌, add-one, arith}
use Rattle.std.proofs.lemmas.List.{append_assoc, length-append, length-drop, length-take-le, take-append-drop, take_at, drop_at, drop-drop, set_split}
use Rattle.conversions.specs.Fronts.{put}

module _ {X : Type 0} where
  pub put-nil : (at : ℕ) (out : List X) → put at [] out ≡ out
  put-nil at out = let z : at + 0 ≡ at = omega arith in ap (λ n. take at out ++ drop n out) z ∙ take-append-drop at out

  pub put_one : (at : ℕ) (x : X) (out : List X) → at < length out → set out at x ≡ put at (x ∷ []) out
  put_one at x out l = set_split out at x l ∙ ap (λ n. take at out ++ (x ∷ drop n out)) (sym (add-one at))

  module _ (at : ℕ) (xs out : List X) (room : at + length xs ≤ length out) where
    head-length : length (take at out ++ xs) ≡ at + length xs
    head-length = length-append (take at out) xs ∙ ap (λ n. n + length xs) (length-take-le at out (omega arith))

    regrouped : put at xs out ≡ (take at out ++ xs) ++ drop (at + length xs) out
    regrouped = sym (append_assoc (take at out) xs (drop (at + length xs) out))

    pub length-put : length (put at xs out) ≡ length out
    length-put =
        ap length regrouped ∙ length-append (take at out ++ xs) (drop (at + length xs) out)
        ∙ (let a = head-length in let b = length-drop (at + length xs) out in omega arith)

    pub put-put : (ys : List X) → put (at + length xs) ys (put at xs out) ≡ put at (xs ++ ys) out
    put-put ys =
        let n = at + length xs in
        let front : take n (put at xs out) ≡ take at out ++ xs =
        ap (take n) regrouped ∙ take_at (take at out ++ xs) (drop n out) n head-length in
        let back : drop (n + length ys) (put at xs out) ≡ drop (at + length (xs ++ ys)) out =
        sym (drop-drop (length ys) n (put at xs out))
        ∙ ap (drop (length ys)) (ap (drop n) regrouped ∙ drop_at (take at out ++ xs) (drop n out) n head-length)
        ∙ drop-drop (length ys) n out
        ∙ (let e : n + length ys ≡ at + length (xs ++ ys) = omega (arith, length-append xs ys) in ap (λ k. drop k out) e) in
        (λ i. front i ++ (ys ++ back i)) ∙ append_assoc (take at out) xs (ys ++ drop (at + length (xs ++ ys)) out)
        ∙ ap (λ l. take at out ++ l) (sym (append_assoc xs ys (drop (at + length (xs ++ ys)) out)))
