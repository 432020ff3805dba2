use Rattle.laws.proofs.Runs.{run_laws_lem}
use Rattle.laws.proofs.run_laws.Goals as goal

pub returns : goal.returns
returns c = run_laws_lem
