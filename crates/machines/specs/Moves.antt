-- What a move asks of single actions, and what it makes of a list.
use Rattle.std.specs.Prelude.{ℕ, suc, Bool, false, not, ◌&&◌, List, ◌++◌, take, drop, ◌==◌}
use Rattle.records.specs.declared.action.Action.{Action}
use Rattle.records.specs.declared.action.Action.TheVariants.{Read, Write, Sync}

-- a read of y that saw the write w
abbrev pub saw : ℕ → ℕ → Action → Bool
saw w y (Read n x s) = s == w && x == y
saw w y (Write n x) = false
saw w y (Sync n k o) = false

-- a read of another location than y
abbrev pub reads_other : ℕ → Action → Bool
reads_other y (Read n x s) = not (x == y)
reads_other y (Write n x) = false
reads_other y (Sync n k o) = false

-- the element at suc c comes first
abbrev pub turned : {X : Type 0} → ℕ → List X → List X
turned c xs = drop (suc c) (take (suc (suc c)) xs) ++ take (suc c) (take (suc (suc c)) xs) ++ drop (suc (suc c)) xs

-- the same behind the first p
abbrev pub shift : {X : Type 0} → ℕ → ℕ → List X → List X
shift p c xs = take p xs ++ turned c (drop p xs)
