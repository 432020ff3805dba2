-- What a text reads as: the cells of its rows, and the refusal that ends the reading, if any.
use Rattle.std.specs.Prelude.{ℕ, suc, ◌-◌, min, Bool, false, cond, List, [], ◌∷◌, ◌++◌, map, length, drop, Some, None, Ok, Err, Option, Result, ◌==◌, nat_lt}
use Rattle.std.specs.Str.{bytes_eq}
use Rattle.text.specs.Csv.{fields, lines, first_of, rest_of, line_of, first_line}
use Rattle.records.specs.Refusals.{Refusal, refusal}
use Rattle.text.specs.Fields.{Kind, kind_of, number_in, letter_in}
use Rattle.text.specs.Sheets.{Column, numbers, letters, Sheet}

-- ── One field, the fields of a line from the left, and one line; k is the line's number ──
abbrev pub ok_or : {X : Type 0} → Option X → Refusal → Result X Refusal
ok_or None e = Err e
ok_or (Some x) e = Ok x

abbrev pub cell_in : ℕ → Column → Kind → Result ℕ Refusal
cell_in k (numbers most) f = ok_or (number_in most f) (refusal 2 k)
cell_in k (letters ls) f = ok_or (letter_in ls f) (refusal 3 k)

abbrev pub cell_of : ℕ → Column → List ℕ → Result ℕ Refusal
cell_of k c s = cell_in k c (kind_of s)

-- the first refusal counts
abbrev pub then : {X Y : Type 0} → Result X Refusal → (X → Result Y Refusal) → Result Y Refusal
then (Ok x) f = f x
then (Err e) f = Err e

abbrev pub cells_of : ℕ → List Column → List (List ℕ) → Result (List ℕ) Refusal
cells_of k [] ps = Ok []
cells_of k (c ∷ cs) ps = then (cell_of k c (first_of ps)) (λ n. then (cells_of k cs (rest_of ps)) (λ ns. Ok (n ∷ ns)))

-- 1 comes first, then 4 where there is no room, then the fields
abbrev pub row_of : List Column → ℕ → ℕ → Option (List ℕ) → Result (List ℕ) Refusal
row_of cs room k None = Err (refusal 1 k)
row_of cs room k (Some line) =
    cond (length (fields line) == length cs)
    (cond (room == 0) (Err (refusal 4 k)) (cells_of k cs (fields line)))
    (Err (refusal 1 k))

-- ── The whole text ──
pub record Reading : Type 0 where
  pub rows : List (List ℕ)
  pub end : Option Refusal

abbrev pub finished : Reading
finished = record { rows = []; end = None }

abbrev pub refused : Refusal → Reading
refused e = record { rows = []; end = Some e }

-- a row, and what is read after it
abbrev pub ahead : List (List ℕ) → Reading → Reading
ahead rows rd = record { rows = rows ++ rd.rows; end = rd.end }

abbrev pub on_row : Result (List ℕ) Refusal → Reading → Reading
on_row (Ok r) rd = ahead (r ∷ []) rd
on_row (Err e) rd = refused e

-- the rows from line k on, in a text that was cut by LF: nothing may be left after the last line
abbrev pub rows_from : List Column → ℕ → ℕ → List (List ℕ) → Reading
rows_from cs room k [] = finished
rows_from cs room k ([] ∷ []) = finished
rows_from cs room k ((x ∷ xs) ∷ []) = refused (refusal 1 k)
rows_from cs room k (p ∷ q ∷ ps) = on_row (row_of cs room k (line_of p)) (rows_from cs (room - 1) (suc k) (q ∷ ps))

-- whether a text that was cut by LF begins with this line
abbrev pub begins : List ℕ → Option (List ℕ) → Bool
begins header None = false
begins header (Some line) = bytes_eq line header

-- a text read into a list with so much room
abbrev pub reading : Sheet → ℕ → List ℕ → Reading
reading sh room text =
    cond (nat_lt 65535 (length text)) (refused (refusal 5 0))
    (cond (begins sh.header (first_line (lines text)))
    (rows_from sh.columns (min room sh.most) 2 (drop 1 (lines text)))
    (refused (refusal 1 1)))

-- how many rows, or the refusal
abbrev pub ends_as : Option Refusal → ℕ → Result ℕ Refusal
ends_as None n = Ok n
ends_as (Some e) n = Err e

abbrev pub answer_of : Reading → Result ℕ Refusal
answer_of rd = ends_as rd.end (length rd.rows)

-- a list after xs was written over its front
abbrev pub at_front : {X : Type 0} → List X → List X → List X
at_front xs out = xs ++ drop (length xs) out

-- the caller's list after the reading: the rows that were read, then what it held
abbrev pub filled : {X : Type 0} → (List ℕ → X) → Reading → List X → List X
filled row rd out = at_front (map row rd.rows) out
