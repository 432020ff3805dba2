-- What the run checker's table stands for, for a case.
use Rattle.std.specs.Prelude.{ℕ, cond, List, [], ◌∷◌, map, drop, Some, None, Option, ◌==◌, slice_index, slice_index_or}
use Rattle.std.specs.Option.{option_or}
use Rattle.records.specs.Names.{Case, thread, named}
use Rattle.machines.specs.declared.rows.PendingWrite.{PendingWrite}
use Rattle.machines.specs.declared.rows.Row.{Row}
use Rattle.machines.specs.declared.rows.Run.{Run}
use Rattle.machines.specs.Memory.{held}
pub use Rattle.machines.specs.Windows.{oldest, younger}
use Rattle.machines.specs.Windows.{waiting}
use Rattle.machines.specs.Run.{Waiting, waits, RunState}

-- the waiting writes of a row, oldest first
abbrev pub window : Row → List PendingWrite
window r = waiting r.window r.writes

abbrev pub waits_of : ℕ → PendingWrite → Waiting
waits_of t w = waits (named t w.place) w.location

-- of the row of thread t
abbrev pub next_of : List Row → ℕ → ℕ
next_of rows t = slice_index (map (λ r. r.window.next) rows) t

abbrev pub window_of : List Row → ℕ → List PendingWrite
window_of rows t = slice_index_or (map window rows) t []

abbrev pub run_state : Case → Run → RunState
run_state c m =
    record {
      rest = λ t. drop (next_of m.rows t) (thread c t);
      buffer = λ t. map (waits_of t) (window_of m.rows t);
      memory = held m.memory.writes;
      turns = m.memory.turns;
    }

-- the place of a write if it is to location x
abbrev pub fits : ℕ → PendingWrite → Option ℕ
fits x w = cond (x == w.location) (Some w.place) None

-- the place of the newest of these writes to location x: the newest if it fits, else the one among the older ones
abbrev pub newest_of : ℕ → List PendingWrite → Option ℕ
newest_of x [] = None
newest_of x (w ∷ ws) = option_or (newest_of x ws) (fits x w)
