use Rattle.std.proofs.Common.{refl}
use Rattle.records.specs.Names.{thread}
use Rattle.case.specs.Cases.{threads}
use Rattle.machines.specs.Items.{run_item}
use Rattle.conversions.specs.Along.{start, step_own, step_moves, moves_along}
use Rattle.conversions.specs.Rows.{own_of}
use Rattle.conversions.proofs.Loops.{item-more}
use Rattle.conversions.proofs.moves.moves_of_thread.Goals as goal

pub loop-item-preserved : goal.loop-item-preserved
loop-item-preserved c =
    let t = c.args.thread in
    let l = thread (threads c.args.case.now) t in
    item-more (moves_along l t) (λ i. step_moves l t (run_item i)) (λ i. step_own l t (run_item i)) (λ i is s. refl)
    c.args.run.now start c.args.sheet.now c.requires.room
    c.loop-item.item-index (own_of c.loop-item.row) _ _ c.loop-item-test.true c.loop-item.invariant
    _ _ c.moves_of_item.ensures.after c.moves_of_item.ensures.list
