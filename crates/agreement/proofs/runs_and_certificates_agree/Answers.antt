use Rattle.agreement.proofs.Theorems.{agreement}
use Rattle.agreement.proofs.runs_and_certificates_agree.Goals as goal

pub returns : goal.returns
returns c = agreement
