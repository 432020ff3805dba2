use Rattle.agreement.proofs.Theorems.{agreement}
use Rattle.verdict.proofs.Exactly.{allowed-exactly}
use Rattle.verdict.proofs.judge.Goals as goal

pub returns-in_err-count-clause-allowed : goal.returns-in_err-count-clause-allowed
returns-in_err-count-clause-allowed c = allowed-exactly agreement _ _

pub returns-clause-allowed : goal.returns-clause-allowed
returns-clause-allowed c = allowed-exactly agreement _ _
