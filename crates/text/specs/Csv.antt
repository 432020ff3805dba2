-- Comma separated values without quotes: a text is cut into lines and a line into fields, both by one definition.
use Rattle.std.specs.Prelude.{ℕ, cond, List, [], ◌∷◌, ◌++◌, Some, None, Option, ◌==◌}

-- the byte between two fields, and the two that end a line
abbrev pub comma : ℕ
comma = 44

abbrev pub cr : ℕ
cr = 13

abbrev pub lf : ℕ
lf = 10

-- the stretches of a text before, between and after the bytes c
abbrev pub on_first : ℕ → List (List ℕ) → List (List ℕ)
on_first x [] = (x ∷ []) ∷ []
on_first x (p ∷ ps) = (x ∷ p) ∷ ps

abbrev pub split : ℕ → List ℕ → List (List ℕ)
split c [] = [] ∷ []
split c (x ∷ xs) = cond (x == c) ([] ∷ split c xs) (on_first x (split c xs))

-- stretches put together, with a byte c between each two
abbrev pub join : ℕ → List (List ℕ) → List ℕ
join c [] = []
join c (p ∷ []) = p
join c (p ∷ q ∷ ps) = p ++ c ∷ join c (q ∷ ps)

-- the fields of a line: one more than it has commas
abbrev pub fields : List ℕ → List (List ℕ)
fields line = split comma line

-- the first field, and the others; where there is none, an empty one
abbrev pub first_of : List (List ℕ) → List ℕ
first_of [] = []
first_of (p ∷ ps) = p

abbrev pub rest_of : List (List ℕ) → List (List ℕ)
rest_of [] = [] ∷ []
rest_of (p ∷ []) = [] ∷ []
rest_of (p ∷ q ∷ ps) = q ∷ ps

-- a text as it is cut by LF: what stands before each, and what is left after the last
abbrev pub lines : List ℕ → List (List ℕ)
lines text = split lf text

-- the first of two stretches, if the second is empty and there is no third
abbrev pub only_first : List (List ℕ) → Option (List ℕ)
only_first [] = None
only_first (p ∷ []) = None
only_first (p ∷ [] ∷ []) = Some p
only_first (p ∷ [] ∷ r ∷ rs) = None
only_first (p ∷ (x ∷ xs) ∷ rs) = None

-- a line without its end, from what stands before LF: it has CR at its end and nowhere else
abbrev pub line_of : List ℕ → Option (List ℕ)
line_of p = only_first (split cr p)

-- the first line of a text that was cut by LF
abbrev pub first_line : List (List ℕ) → Option (List ℕ)
first_line [] = None
first_line (p ∷ []) = None
first_line (p ∷ q ∷ ps) = line_of p
