-- A list that is written into another from a place on; the rest of that stays as it was.
use Rattle.std.specs.Prelude.{ℕ, ◌+◌, List, ◌++◌, length, take, drop}

abbrev pub put : {X : Type 0} → ℕ → List X → List X → List X
put at xs out = take at out ++ (xs ++ drop (at + length xs) out)
