-- Where the threads start in a list that is grouped by thread, and the record that a name then names.
use Rattle.std.specs.Prelude.{ℕ, suc, ◌+◌, ◌/◌, ◌%◌, cond, ◌&&◌, List, map, Some, None, Option, nat_lt, slice_index}
use Rattle.std.specs.List.{range_with_len}
use Rattle.records.specs.declared.Record.{Record}
use Rattle.records.specs.Names.{below}

-- where each of the eight threads starts, and where the last one ends
abbrev pub starts_of : List Record → List ℕ
starts_of xs = map (λ t. below t xs) (range_with_len 0 9)

-- where the records of thread t start and end, of any thread that a number names
abbrev pub from : List ℕ → ℕ → ℕ
from starts t = cond (nat_lt t 8) (slice_index starts t) 0

abbrev pub upto : List ℕ → ℕ → ℕ
upto starts t = cond (nat_lt t 8) (slice_index starts (suc t)) 0

-- the index at place p of thread t, if the thread is so long
abbrev pub slot : List ℕ → ℕ → ℕ → Option ℕ
slot starts t p =
    cond (nat_lt t 8 && nat_lt (slice_index starts t + p) (slice_index starts (suc t))) (Some (slice_index starts t + p)) None

-- the index of a name, which is 64 times the thread plus the place
abbrev pub slot_named : List ℕ → ℕ → Option ℕ
slot_named starts n = slot starts (n / 64) (n % 64)
