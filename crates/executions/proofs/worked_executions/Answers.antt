use Rattle.std.proofs.Common.{refl}
use Rattle.std.specs.Fmt.{digits}
use Rattle.executions.proofs.worked_executions.Goals as goal

pub returns : goal.returns
unfolding digits
returns c = record { count = refl; stand = refl; begun_early = λ text e. rw e; locked_again = λ text e. rw e }
