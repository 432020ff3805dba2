-- The number of each fault, by case, and the answer that a result with a fault gives.
use Rattle.std.specs.Prelude.{ℕ, Ok, Err, Result}
use Rattle.machines.specs.declared.faults.Mismatch.{Mismatch}
use Rattle.machines.specs.declared.faults.Mismatch.TheVariants as mismatch
use Rattle.machines.specs.declared.faults.RunFault.{RunFault}
use Rattle.machines.specs.declared.faults.RunFault.TheVariants as run
use Rattle.machines.specs.declared.faults.CertificateFault.{CertificateFault}
use Rattle.machines.specs.declared.faults.CertificateFault.TheVariants as certificate

abbrev pub run_number : RunFault → ℕ
run_number run.NotOfRun = 20
run_number run.NoAction = 21
run_number run.NothingWaits = 22
run_number run.WritesWait = 23
run_number run.NotItsTurn = 24
run_number run.SawAnother = 25

abbrev pub certificate_number : CertificateFault → ℕ
certificate_number certificate.NotOfCertificate = 20
certificate_number certificate.MoveInOrder = 31
certificate_number certificate.PastTheEnd = 32
certificate_number certificate.NoWrite = 33
certificate_number certificate.NotCarried = 34
certificate_number certificate.CannotPass = 35
certificate_number certificate.NoneLeft = 36
certificate_number certificate.NotItsTurn = 37
certificate_number certificate.SawAnother = 38

-- by which fault each machine refuses an action that is out of step with memory
abbrev pub run_fault : Mismatch → RunFault
run_fault mismatch.NotItsTurn = run.NotItsTurn
run_fault mismatch.SawAnother = run.SawAnother

abbrev pub certificate_fault : Mismatch → CertificateFault
certificate_fault mismatch.NotItsTurn = certificate.NotItsTurn
certificate_fault mismatch.SawAnother = certificate.SawAnother

-- an answer with its fault told by number
abbrev pub told : {F : Type 0} → (F → ℕ) → Result (Unit {0}) F → Result (Unit {0}) ℕ
told number (Ok x) = Ok x
told number (Err f) = Err (number f)
