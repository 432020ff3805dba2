use Rattle.std.proofs.Common.{arith}
use Rattle.std.specs.List.{slice_get}
use Rattle.records.specs.Names.{thread}
use Rattle.case.specs.Cases.{threads}
use Rattle.conversions.specs.Along.{Own, performed_next}
use Rattle.conversions.proofs.Owned.{own-changed}
use Rattle.conversions.proofs.order.perform.Goals as goal

pub returns-clause-after : goal.returns-clause-after
returns-clause-after c =
    own-changed c.args.rows.now c.args.thread c.index-rows-thread.result c.perform_next.new.self
    (λ (s : Own). performed_next (slice_get (thread (threads c.args.case.now) c.args.thread) s.place) s)
    (omega arith) c.perform_next.ensures.after
