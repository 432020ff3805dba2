use Rattle.std.proofs.Common.{arith}
use Rattle.case.specs.Cases.{threads}
use Rattle.conversions.proofs.Replaying.{nexts-first, replaying_none, replaying_room, replaying_more, replaying_all, replayed-few, replayed-fits}
use Rattle.conversions.proofs.replay.write_run.Goals as goal

pub loop-item-init : goal.loop-item-init
loop-item-init c =
    replaying_none (threads c.args.case.now) c.args.certificate.now c.new-sheet.result _ _ c.requires.complete (c.new-checker.ensures c.args.case.now) nexts-first

pub write_item-requires : goal.write_item-requires
write_item-requires c =
    record {
      room = replaying_room (threads c.args.case.now) c.args.certificate.now c.new-sheet.result _ _ _ _ c.loop-item.invariant _
          (replayed-fits c.args.case.now c.args.certificate.now c.requires.complete c.args.out.now c.new-sheet.result c.requires.room c.new-sheet.ensures.items c.new-sheet.ensures.at) c.loop-item-test.true;
    }

pub loop-item-preserved : goal.loop-item-preserved
loop-item-preserved c =
    replaying_more (threads c.args.case.now) c.args.certificate.now c.new-sheet.result _ _ _ _ c.loop-item.invariant _
    (replayed-fits c.args.case.now c.args.certificate.now c.requires.complete c.args.out.now c.new-sheet.result c.requires.room c.new-sheet.ensures.items c.new-sheet.ensures.at) c.loop-item-test.true
    _ _ _ c.write_item.ensures.list c.write_item.ensures.onward c.put.ensures.after

pub overflow_cast-result : goal.overflow_cast-result
overflow_cast-result c =
    let h = replaying_all (threads c.args.case.now) c.args.certificate.now c.new-sheet.result _ _ _ _ c.loop-item.invariant c.loop-item-test.false in
    let few = replayed-few c.args.case.now c.args.certificate.now c.requires.complete in
    let n = h.upto in
    omega arith
