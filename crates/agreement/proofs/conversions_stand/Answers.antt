use Rattle.agreement.proofs.Theorems.{to_certificate_lem, to_run_lem, by_moments_lem}
use Rattle.agreement.proofs.conversions_stand.Goals as goal

pub returns : goal.returns
returns c = record { certificate = to_certificate_lem; run = to_run_lem; moments = by_moments_lem }
