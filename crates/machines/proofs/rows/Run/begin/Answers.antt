use Rattle.case.specs.Cases.{threads}
use Rattle.machines.proofs.rows.Run.begin.Goals as goal

pub returns : goal.returns
returns c = c.new.ensures (threads c.args.case.now)
