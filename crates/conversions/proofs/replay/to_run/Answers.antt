use Rattle.std.proofs.Common.{arith}
use Rattle.case.specs.Cases.{records_of}
use Rattle.agreement.proofs.Theorems.{to_run_lem}
use Rattle.conversions.proofs.Replaying.{replayed-few}
use Rattle.conversions.proofs.replay.to_run.Goals as goal

pub returns-clause-complete : goal.returns-clause-complete
returns-clause-complete c =
    let k = c.args.case.now in
    let js = c.args.certificate.now in
    let done = c.in_ok-examine.ensures.complete in
    let few = replayed-few k js done in
    let n = c.write_run.ensures.count in
    (to_run_lem.run (records_of k) js done, omega arith)
