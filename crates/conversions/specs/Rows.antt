-- What the converter's table stands for.
use Rattle.std.specs.Prelude.{ℕ, List, map, slice_index_or}
use Rattle.machines.specs.Windows.{waiting}
use Rattle.conversions.specs.declared.hosts.Host.{Host}
use Rattle.conversions.specs.declared.rows.Row.{Row}
use Rattle.conversions.specs.Along.{Own, start}

-- the waiting writes of a row, oldest first
abbrev pub window : Row → List Host
window r = waiting r.window r.hosts

abbrev pub own_of : Row → Own
own_of r = record { place = r.window.next; hosts = window r }

-- of each thread
abbrev pub owns : List Row → ℕ → Own
owns rows t = slice_index_or (map own_of rows) t start
