-- The executions worked through, as far as the two machines answer them: which evidence is complete, and which is refused by
-- which number after how many items.
use Rattle.std.specs.Prelude.{ℕ, Bool, true, false, cond, ◌&&◌, List, [], ◌∷◌, ◌++◌, map, length, Some, None, Option, ◌==◌}
use Prim.Native.String.{String}
use Rattle.records.specs.declared.Item.{Item}
use Rattle.records.specs.declared.Record.{Record}
use Rattle.records.specs.Executions.{empty_case, store_buffering, carried_read, carried_other, stale_message, writes_of, volatile_behind_write, equal_values}
use Rattle.records.specs.Letters.{letter}
use Rattle.records.specs.Names.{threads_of}
use Rattle.records.specs.Refusals.{Refusal}
use Rattle.machines.specs.Machine.{Machine, refusal_of, completes}
use Rattle.machines.specs.Run.{run_machine}
use Rattle.machines.specs.Certificate.{certificate_machine}

-- ── Items ──
-- an item of this letter for each of these threads
abbrev pub items : String → List ℕ → List Item
items c ts = map (λ t. record { letter = letter c; thread = t; place = 0; count = 0 }) ts

abbrev pub move : ℕ → ℕ → ℕ → Item
move t p c = record { letter = letter "M"; thread = t; place = p; count = c }

-- ── Answers ──
pub data Outcome : Type 0 where
  allowed : ℕ → Outcome
  unfinished : ℕ → Outcome
  refused : ℕ → ℕ → Outcome

abbrev pub judged : Option Refusal → Bool → ℕ → Outcome
judged (Some r) complete n = refused r.number r.place
judged None complete n = cond complete (allowed n) (unfinished n)

abbrev pub outcome : {S : Type 0} → Machine S → List Item → Outcome
outcome m is = judged (refusal_of m is) (completes m is) (length is)

abbrev pub same : Outcome → Outcome → Bool
same (allowed m) (allowed n) = m == n
same (allowed m) (unfinished n) = false
same (allowed m) (refused k n) = false
same (unfinished m) (allowed n) = false
same (unfinished m) (unfinished n) = m == n
same (unfinished m) (refused k n) = false
same (refused j m) (allowed n) = false
same (refused j m) (unfinished n) = false
same (refused j m) (refused k n) = j == k && m == n

-- ── The table ──
pub data Example : Type 0 where
  run : List Record → List Item → Outcome → Example
  certificate : List Record → List Item → Outcome → Example

abbrev pub stands : Example → Bool
stands (run xs is o) = same (outcome (run_machine (threads_of xs)) is) o
stands (certificate xs js o) = same (outcome (certificate_machine (threads_of xs)) js) o

abbrev pub stand : List Example → Bool
stand [] = true
stand (e ∷ es) = stands e && stand es

-- the threads of store buffering, in turn
abbrev pub in_turn : List ℕ
in_turn = 0 ∷ 0 ∷ 1 ∷ 0 ∷ 1 ∷ 0 ∷ 1 ∷ []

abbrev pub examples : List Example
examples =
    run empty_case [] (allowed 0)
    ∷ certificate empty_case [] (allowed 0)
    ∷ run store_buffering (items "A" in_turn) (allowed 7)
    ∷ certificate store_buffering (move 0 2 0 ∷ move 1 1 0 ∷ items "O" in_turn) (allowed 9)
    ∷ certificate store_buffering (items "O" (0 ∷ 0 ∷ 1 ∷ 0 ∷ 1 ∷ 0 ∷ [])) (refused 38 5)
    ∷ certificate carried_read (move 0 2 1 ∷ []) (unfinished 1)
    ∷ certificate carried_read (move 0 2 0 ∷ []) (refused 35 0)
    ∷ certificate carried_read (move 0 2 1 ∷ move 1 1 1 ∷ items "O" (0 ∷ 0 ∷ 1 ∷ 0 ∷ 1 ∷ 0 ∷ 0 ∷ 1 ∷ 1 ∷ [])) (allowed 11)
    ∷ certificate carried_other (move 0 2 1 ∷ []) (refused 34 0)
    ∷ run stale_message (items "A" (0 ∷ 0 ∷ 1 ∷ 1 ∷ 1 ∷ []) ++ (items "D" (1 ∷ 1 ∷ []) ++ items "A" (0 ∷ 0 ∷ []))) (refused 25 8)
    ∷ run (writes_of 63) [] (unfinished 0)
    ∷ run volatile_behind_write (items "A" (0 ∷ 0 ∷ 0 ∷ [])) (refused 23 2)
    ∷ run volatile_behind_write (items "A" (0 ∷ 0 ∷ []) ++ (items "D" (0 ∷ []) ++ items "A" (0 ∷ []))) (allowed 4)
    ∷ run volatile_behind_write (items "D" (0 ∷ [])) (refused 22 0)
    ∷ run equal_values (items "A" (0 ∷ 0 ∷ 0 ∷ 0 ∷ [])) (refused 25 3) ∷ []
