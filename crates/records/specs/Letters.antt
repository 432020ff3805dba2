-- The letters of a case, as the codes of characters.
use Rattle.std.specs.Prelude.{ℕ, Bool, false, ◌||◌, List, [], ◌∷◌, codes, ◌==◌, slice_index}
use Prim.Native.String.{String}

-- the code of a text's first character
abbrev pub letter : String → ℕ
letter s = slice_index (codes s) 0

-- whether c is one of these characters
abbrev pub among : ℕ → List ℕ → Bool
among c [] = false
among c (x ∷ xs) = c == x || among c xs

-- a capital letter: a synchronization action
abbrev pub is_capital : ℕ → Bool
is_capital c = among c (codes "RWLUSJBE")

-- an access to a plain location, and to a volatile one
abbrev pub is_plain : ℕ → Bool
is_plain c = among c (codes "rw")

abbrev pub is_volatile : ℕ → Bool
is_volatile c = among c (codes "RW")

-- a read and a write, of a plain or a volatile location
abbrev pub is_read : ℕ → Bool
is_read c = among c (codes "rR")

abbrev pub is_write : ℕ → Bool
is_write c = among c (codes "wW")
