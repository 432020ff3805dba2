use Rattle.std.proofs.Common.{◌-◌}
use Rattle.case.specs.Cases.{threads}
use Rattle.conversions.specs.Along.{moves_from}
use Rattle.conversions.proofs.Sheets.{Leads}
use Rattle.conversions.proofs.moves.write_moves.Given as goal

abbrev pub invariant-loop-thread : goal.invariant-loop-thread
invariant-loop-thread l =
    Leads l.initial.sheet (moves_from (threads l.case) l.run 8 0) l.sheet
    (moves_from (threads l.case) l.run (8 - l.thread) l.thread)
