-- What waits in the part of a table that a window shows.
use Rattle.std.specs.Prelude.{List, [], ◌∷◌, Some, None, Option}
use Rattle.std.specs.List.{between}
use Rattle.machines.specs.declared.rows.Window.{Window}

-- oldest first
abbrev pub waiting : {X : Type 0} → Window → List X → List X
waiting w table = between w.from w.upto table

-- the oldest, and the others
abbrev pub oldest : {X : Type 0} → List X → Option X
oldest [] = None
oldest (x ∷ xs) = Some x

abbrev pub younger : {X : Type 0} → List X → List X
younger [] = []
younger (x ∷ xs) = xs
