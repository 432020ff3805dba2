-- The cases of the executions worked through in docs/EXECUTIONS.md. Each layer says of them what it answers.
use Rattle.std.specs.Prelude.{ℕ, List, [], ◌∷◌, ◌++◌, replicate}
use Prim.Native.String.{String}
use Rattle.records.specs.declared.Record.{Record}
use Rattle.records.specs.Letters.{letter}

-- thread, letter, target, value, seen, turn
abbrev pub row : ℕ → String → ℕ → ℕ → ℕ → ℕ → Record
row t c x v s k = record { letter = letter c; value = v; seen = s; turn = k; thread = t; target = x }

-- thread t begins at turn k
abbrev pub begins : ℕ → ℕ → Record
begins t k = row t "B" 0 0 0 k

-- thread 0 begins and spawns thread 1
abbrev pub opening : List Record
opening = begins 0 1 ∷ row 0 "S" 1 0 0 2 ∷ []

abbrev pub empty_case : List Record
empty_case = []

abbrev pub store_buffering : List Record
store_buffering =
    opening ++ (row 0 "w" 0 1 0 0 ∷ row 0 "r" 1 0 513 0 ∷ begins 1 3 ∷ row 1 "w" 1 1 0 0 ∷ row 1 "r" 0 0 512 0 ∷ [])

-- a read that saw its thread's own write, carried past by the next read
abbrev pub carried_read : List Record
carried_read =
    opening
    ++ (row 0 "w" 0 0 0 0 ∷ row 0 "r" 0 0 2 0 ∷ row 0 "r" 1 0 513 0
    ∷ begins 1 3 ∷ row 1 "w" 1 0 0 0 ∷ row 1 "r" 1 0 65 0 ∷ row 1 "r" 0 0 512 0 ∷ [])

-- the same, where that read saw the default write
abbrev pub carried_other : List Record
carried_other =
    opening
    ++ (row 0 "w" 0 0 0 0 ∷ row 0 "r" 0 0 512 0 ∷ row 0 "r" 1 0 513 0
    ∷ begins 1 3 ∷ row 1 "w" 1 0 0 0 ∷ row 1 "r" 1 0 65 0 ∷ row 1 "r" 0 0 512 0 ∷ [])

-- a message whose flag is seen and whose content is not
abbrev pub stale_message : List Record
stale_message = opening ++ (row 0 "r" 1 0 66 0 ∷ row 0 "r" 0 0 512 0 ∷ begins 1 3 ∷ row 1 "w" 0 0 0 0 ∷ row 1 "w" 1 0 0 0 ∷ [])

-- n plain writes behind a B
abbrev pub writes_of : ℕ → List Record
writes_of n = begins 0 1 ∷ replicate n (row 0 "w" 0 0 0 0)

-- a write to location x behind a B
abbrev pub writes_to : ℕ → List Record
writes_to x = begins 0 1 ∷ row 0 "w" x 0 0 0 ∷ []

abbrev pub volatile_behind_write : List Record
volatile_behind_write = begins 0 1 ∷ row 0 "w" 0 0 0 0 ∷ row 0 "R" 1 0 513 2 ∷ []

abbrev pub equal_values : List Record
equal_values = begins 0 1 ∷ row 0 "w" 0 5 0 0 ∷ row 0 "w" 0 5 0 0 ∷ row 0 "r" 0 0 1 0 ∷ []

-- store buffering, with the turns of the spawn and of the second begin exchanged
abbrev pub turns_exchanged : List Record
turns_exchanged =
    begins 0 1 ∷ row 0 "S" 1 0 0 3 ∷ row 0 "w" 0 1 0 0 ∷ row 0 "r" 1 0 513 0
    ∷ begins 1 2 ∷ row 1 "w" 1 1 0 0 ∷ row 1 "r" 0 0 512 0 ∷ []

abbrev pub locked_twice : List Record
locked_twice = begins 0 1 ∷ row 0 "L" 0 0 0 2 ∷ row 0 "L" 0 0 0 3 ∷ []
