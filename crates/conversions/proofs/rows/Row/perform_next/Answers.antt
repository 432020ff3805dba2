use Rattle.machines.proofs.Threads.{place-small}
use Rattle.conversions.proofs.rows.Row.perform_next.Goals as goal

pub perform-requires : goal.perform-requires
perform-requires c = place-small c.args.case.now c.args.thread _ _ c.in-Some.ensures.value
