-- The duties of runs and certificates, from the agreement of the two and from how few items are taken.
use Rattle.std.specs.Prelude.{◌≡◌, ◌≤◌, true, List, length, Ok}
use Rattle.std.proofs.Math.Logic.{∥∥₁_elim, ∥∥₁_prop}
use Rattle.std.proofs.Common.{arith}
use Rattle.records.specs.declared.Item.{Item}
use Rattle.form.proofs.Laws.{lawful}
use Rattle.case.specs.Cases.{records_of, threads}
use Rattle.case.specs.declared.checked.CheckedCase.{CheckedCase}
use Rattle.machines.specs.Machine.{reached, completes}
use Rattle.machines.specs.Run.{RunState, run_machine}
use Rattle.machines.specs.Certificate.{OrderState, certificate_machine, Allowed}
use Rattle.agreement.specs.Agreement.{Sized}
use Rattle.agreement.specs.Evidence.{written, replayed}
use Rattle.agreement.proofs.Theorems.{to_certificate_lem, to_run_lem, few}

pub sized : (k : CheckedCase) → Sized (records_of k)
sized k =
    let l = lawful (records_of k) k.formed in
    record { few = l.few; thread_few = l.thread_few; thread_small = l.thread_small }

module _ (k : CheckedCase) where
  pub run_sound : (is : List Item) → completes (run_machine (threads k)) is ≡ true → Allowed (threads k)
  run_sound is e = ∣ (written (threads k) is, to_certificate_lem.certified (records_of k) is e) ∣₁

  pub run-full : Allowed (threads k) → ∥ ((is : List Item) × (completes (run_machine (threads k)) is ≡ true)) ∥₁
  run-full a = ∥∥₁_elim a ∥∥₁_prop (λ c. ∣ (replayed (threads k) c.0, to_run_lem.run (records_of k) c.0 c.1) ∣₁)

  pub certificate-sound : (js : List Item) → completes (certificate_machine (threads k)) js ≡ true → Allowed (threads k)
  certificate-sound js e = ∣ (js, e) ∣₁

  pub run_short : (is : List Item) (s : RunState) → reached (run_machine (threads k)) is ≡ Ok s → length is ≤ 8192
  run_short is s e = let n = few.of_runs (records_of k) is s (sized k) e in omega arith

  pub certificate-short : (js : List Item) (s : OrderState) → reached (certificate_machine (threads k)) js ≡ Ok s → length js ≤ 8192
  certificate-short js s e = let n = few.of_certificates (records_of k) js s (sized k) e in omega arith
