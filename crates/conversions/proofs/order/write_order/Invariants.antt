use Rattle.std.proofs.Common.{drop}
use Rattle.case.specs.Cases.{threads}
use Rattle.conversions.specs.Along.{start, order_along}
use Rattle.conversions.specs.Rows.{owns}
use Rattle.conversions.proofs.Sheets.{Leads}
use Rattle.conversions.proofs.order.write_order.Given as goal

abbrev pub invariant-loop-item : goal.invariant-loop-item
invariant-loop-item l =
    Leads l.initial.sheet (order_along (threads l.case) l.run (λ _. start)) l.sheet
    (order_along (threads l.case) (drop l.item-index l.run) (owns l.rows))
