use Rattle.std.proofs.Common.{rules}
use Rattle.conversions.proofs.Passes.{left-wide, left-room, left_less}
use Rattle.conversions.proofs.moves.pass.Goals as goal

pub overflow_sub-before : goal.overflow_sub-before
overflow_sub-before c =
    left-wide c.args.thread c.args.place c.args.passed.now c.args.sheet.now c.requires.room
    c.in-Some.host.now _ _ _ _ c.in-Some.ensures.steps c.loop-host.invariant

pub overflow_add-before : goal.overflow_add-before
overflow_add-before c =
    let w = overflow_sub-before c in
    let l = c.loop-host.invariant.low in
    search rules

pub push-requires : goal.push-requires
push-requires c =
    record {
      room = left-room c.args.thread c.args.place c.args.passed.now c.args.sheet.now c.requires.room
          c.in-Some.host.now _ _ _ _ c.in-Some.ensures.steps c.loop-host.invariant _ c.from.ensures;
    }

pub loop-host-preserved : goal.loop-host-preserved
loop-host-preserved c =
    left_less c.args.thread c.args.place c.args.passed.now c.args.sheet.now c.requires.room
    c.in-Some.host.now _ _ _ _ c.in-Some.ensures.steps c.loop-host.invariant _ c.from.ensures c.push.new.self c.push.ensures.list
