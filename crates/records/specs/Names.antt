-- Threads, places and names of the actions in a list of records.
use Rattle.std.specs.Prelude.{ℕ, suc, ◌+◌, ◌*◌, List, [], ◌∷◌, map, length, take, filter, Option, nat_eq, nat_lt, slice_index_or}
use Rattle.std.specs.List.{range_with_len}
use Rattle.std.specs.Option.{unwrap_or}
use Rattle.records.specs.declared.Record.{Record}
use Rattle.records.specs.declared.action.Action.{Action}
use Rattle.records.specs.declared.action.Action.TheVariants.{Sync}
use Rattle.records.specs.declared.action.SyncOp.TheVariants.{End}
use Rattle.records.specs.Actions.{action_of}
use Rattle.records.specs.First.{first}

-- stands for the record at a place past the list's end
abbrev pub blank : Record
blank = record { letter = 0; value = 0; seen = 0; turn = 0; thread = 0; target = 0 }

abbrev pub at : List Record → ℕ → Record
at xs k = slice_index_or xs k blank

-- a thread's records, in program order
abbrev pub of_thread : ℕ → List Record → List Record
of_thread t xs = filter (λ r. nat_eq r.thread t) xs

-- how many records are of threads below t: where thread t starts in a list that is grouped by thread
abbrev pub below : ℕ → List Record → ℕ
below t xs = length (filter (λ r. nat_lt r.thread t) xs)

-- the place of the record at k: the number of earlier records of its thread
abbrev pub place : List Record → ℕ → ℕ
place xs k = length (of_thread (at xs k).thread (take k xs))

-- names of actions, by thread and place; the name of a location's default write
abbrev pub named : ℕ → ℕ → ℕ
named t p = 64 * t + p

abbrev pub name : List Record → ℕ → ℕ
name xs k = named (at xs k).thread (place xs k)

abbrev pub default : ℕ → ℕ
default x = 512 + x

-- the record that a name names
abbrev pub record_named : List Record → ℕ → Option ℕ
record_named xs n = first (λ k. nat_eq (name xs k) n) (length xs)

-- the actions of records that stand in program order, named n, n + 1, ..; a letter that is none stands for an end
abbrev pub actions_from : ℕ → List Record → List Action
actions_from n [] = []
actions_from n (r ∷ rs) = unwrap_or (action_of n r) (Sync n 0 End) ∷ actions_from (suc n) rs

-- the actions of a thread, in program order
abbrev pub actions : List Record → ℕ → List Action
actions xs t = actions_from (named t 0) (of_thread t xs)

-- ── A case as its eight threads ──
abbrev pub Case : Type 0
Case = List (List Action)

abbrev pub thread : Case → ℕ → List Action
thread c t = slice_index_or c t []

abbrev pub threads_of : List Record → Case
threads_of xs = map (actions xs) (range_with_len 0 8)
