use Rattle.std.proofs.Common.{drop}
use Rattle.records.specs.Names.{thread}
use Rattle.case.specs.Cases.{threads}
use Rattle.conversions.specs.Along.{start, moves_along}
use Rattle.conversions.specs.Rows.{own_of}
use Rattle.conversions.proofs.Sheets.{Leads}
use Rattle.conversions.proofs.moves.moves_of_thread.Given as goal

abbrev pub invariant-loop-item : goal.invariant-loop-item
invariant-loop-item l =
    Leads l.initial.sheet (moves_along (thread (threads l.case) l.thread) l.thread l.run start) l.sheet
    (moves_along (thread (threads l.case) l.thread) l.thread (drop l.item-index l.run) (own_of l.row))
