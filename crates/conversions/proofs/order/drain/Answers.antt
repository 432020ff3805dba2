use Rattle.std.proofs.Common.{arith}
use Rattle.conversions.specs.Along.{drained}
use Rattle.conversions.proofs.Owned.{own-changed}
use Rattle.conversions.proofs.order.drain.Goals as goal

pub returns-clause-after : goal.returns-clause-after
returns-clause-after c =
    own-changed c.args.rows.now c.args.thread c.index-rows-thread.result c.leave.new.self drained (omega arith) c.leave.ensures.after
