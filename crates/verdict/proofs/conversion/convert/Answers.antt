use Rattle.std.proofs.Common.{length, arith}
use Rattle.case.specs.Cases.{records_of, threads}
use Rattle.machines.specs.Certificate.{certificate_machine}
use Rattle.machines.specs.Faults.{run_number, certificate_number}
use Rattle.machines.specs.Run.{run_machine}
use Rattle.verdict.proofs.Converting.{run_meant, certificate_meant, converts}
use Rattle.verdict.proofs.conversion.convert.Goals as goal

pub unwrap-requires : goal.unwrap-requires
unwrap-requires c =
    let done = run_meant (records_of c.args.case.now) c.args.evidence.now c.in-Run.ensures.value c.requires in
    converts (run_machine (threads c.args.case.now)) run_number 4352 (length c.args.out.now) c.args.evidence.now _ (omega arith) done c.to_certificate.ensures.refusal

pub unwrap-items-requires : goal.unwrap-items-requires
unwrap-items-requires c =
    let done = certificate_meant (records_of c.args.case.now) c.args.evidence.now c.in-Certificate.ensures.value c.requires in
    converts (certificate_machine (threads c.args.case.now)) certificate_number 512 (length c.args.out.now) c.args.evidence.now _ (omega arith) done c.to_run.ensures.refusal
