use Rattle.std.proofs.Common.{◌-◌}
use Rattle.conversions.specs.Along.{flushed_from}
use Rattle.conversions.specs.Rows.{owns}
use Rattle.conversions.proofs.Sheets.{Leads}
use Rattle.conversions.proofs.order.flush.Given as goal

abbrev pub invariant-loop-thread : goal.invariant-loop-thread
invariant-loop-thread l =
    Leads l.initial.sheet (flushed_from 8 0 (owns l.rows)) l.sheet (flushed_from (8 - l.thread) l.thread (owns l.rows))
