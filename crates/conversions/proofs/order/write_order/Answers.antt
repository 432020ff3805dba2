use Rattle.std.proofs.Common.{sym, refl, ap}
use Rattle.case.specs.Cases.{threads}
use Rattle.machines.specs.Items.{run_item}
use Rattle.conversions.specs.Along.{start, step_all, step_comes, order_along}
use Rattle.conversions.specs.Rows.{owns}
use Rattle.conversions.proofs.Sheets.{leads-start, leads-same}
use Rattle.conversions.proofs.Loops.{item-more}
use Rattle.conversions.proofs.Owned.{own_fresh}
use Rattle.conversions.proofs.order.write_order.Goals as goal

pub loop-item-init : goal.loop-item-init
loop-item-init c =
    let cs = threads c.args.case.now in
    let whole = order_along cs c.args.run.now (λ _. start) in
    leads-same c.args.sheet.now whole c.args.sheet.now
    (ap (order_along cs c.args.run.now) (sym (own_fresh 8 c.fresh-rows.result c.fresh-rows.ensures)))
    (leads-start c.args.sheet.now whole)

pub loop-item-preserved : goal.loop-item-preserved
loop-item-preserved c =
    let cs = threads c.args.case.now in
    item-more (order_along cs) (λ i. step_comes cs (run_item i)) (λ i. step_all cs (run_item i)) (λ i is s. refl)
    c.args.run.now (λ _. start) c.args.sheet.now c.requires.room
    c.loop-item.item-index (owns c.loop-item.rows) _ _ c.loop-item-test.true c.loop-item.invariant
    _ _ c.order_of_item.ensures.after c.order_of_item.ensures.list
