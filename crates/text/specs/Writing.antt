-- What writing answers, and what the caller's bytes are then.
use Rattle.std.specs.Prelude.{◌≡◌, ℕ, ◌+◌, ◌≤◌, cond, List, ◌++◌, length, take, drop, Ok, Err, Result, nat_lt}
use Rattle.records.specs.Refusals.{Refusal, refusal}
use Rattle.text.specs.declared.put.Writer.{Writer}
use Rattle.text.specs.Reading.{reading, answer_of, at_front, filled}
use Rattle.text.specs.Sheets.{Sheet, text_of, rows_known}

-- how many bytes the text of rows has, or 3 for a letter that is none of its column
abbrev pub measured : Sheet → List (List ℕ) → Result ℕ Refusal
measured sh rows = cond (rows_known sh rows) (Ok (length (text_of sh rows))) (Err (refusal 3 0))

-- the length of a text that fits into so much room, or 6
abbrev pub fitting : List ℕ → ℕ → Result ℕ Refusal
fitting text room = cond (nat_lt room (length text)) (Err (refusal 6 0)) (Ok (length text))

-- 4 for too many rows, then 3 for a letter that is none of its column, then 6 where there is no room
abbrev pub writing : Sheet → List (List ℕ) → ℕ → Result ℕ Refusal
writing sh rows room =
    cond (nat_lt sh.most (length rows)) (Err (refusal 4 0))
    (cond (rows_known sh rows)
    (cond (nat_lt room (length (text_of sh rows))) (Err (refusal 6 0)) (Ok (length (text_of sh rows))))
    (Err (refusal 3 0)))

-- the text stands at the front, and nothing is touched where the writing was refused
abbrev pub written : Result ℕ Refusal → List ℕ → List ℕ → List ℕ
written (Ok n) text out = at_front text out
written (Err e) text out = out

-- read into any list with room for them, a text gives just these rows
abbrev pub ReadsAs : {X : Type 0} → Sheet → (List ℕ → X) → List ℕ → List X → Type 0
ReadsAs {X} sh row text xs =
    (out : List X) → length xs ≤ length out
    → (answer_of (reading sh (length out) text) ≡ Ok (length xs)) × (filled row (reading sh (length out) text) out ≡ at_front xs out)

-- bytes after ds was written over them from a place on
abbrev pub placed : List ℕ → ℕ → List ℕ → List ℕ
placed s at ds = take at s ++ ds ++ drop (at + length ds) s

-- these bytes have room behind what a writer has written
abbrev pub HasRoom : Writer → List ℕ → Type 0
HasRoom w text = w.end + length text ≤ length w.out.now

-- a writer wrote these bytes behind what it had written, and is still over the same bytes of its caller
pub record Wrote (before after : Writer) (text : List ℕ) : Type 0 where
  pub bytes : after.out.now ≡ placed before.out.now before.end text
  pub end : after.end ≡ before.end + length text
  pub room : length after.out.now ≡ length before.out.now
  pub same : after.out.ghost_name ≡ before.out.ghost_name
