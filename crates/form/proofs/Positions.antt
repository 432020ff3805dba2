-- What std's `position` finds: the first place that a test of the elements marks.
use Rattle.std.proofs.Common.{◌≡◌, ℕ, suc, ◌+◌, ◌<◌, Bool, cond, List, [], ◌∷◌, length, get_or, Some, refl, ap, ◌∙◌, add-one, arith}
use Rattle.std.specs.List.{position, position_from}
use Rattle.std.proofs.lemmas.Iterator.Adapters.{position_from-zero}
use Rattle.records.specs.First.{first_from, first}

module _ {X : Type 0} (p : X → Bool) (d : X) (f : ℕ → Bool) where
  from_position : (i : ℕ) (xs : List X) → ((k : ℕ) → k < length xs → p (get_or xs k d) ≡ f (i + k)) → position_from p i xs ≡ first_from f i (length xs)
  from_position i [] h = refl
  from_position i (x ∷ xs) h =
      let z : i + 0 ≡ i = omega arith in
      λ j. cond ((h 0 (omega arith) ∙ ap f z) j) (Some i)
      ((ap (λ m. position_from p m xs) (add-one i) ∙ from_position (suc i) xs (λ k l. h (suc k) (omega arith) ∙ ap f (omega arith))) j)

  pub first-position : (xs : List X) → ((k : ℕ) → k < length xs → p (get_or xs k d) ≡ f k) → position p xs ≡ first f (length xs)
  first-position xs h = position_from-zero p xs ∙ from_position 0 xs (λ k l. h k l ∙ ap f (omega arith))
