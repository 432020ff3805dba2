-- What converting a piece of evidence does, in either direction.
use Rattle.std.specs.Prelude.{◌≡◌, ◌≤◌, true, List, length, IfOk, Result, MatchResult}
use Rattle.records.specs.declared.Item.{Item}
use Rattle.case.specs.declared.checked.CheckedCase.{CheckedCase}
use Rattle.case.specs.Cases.{records_of, threads}
use Rattle.machines.specs.Certificate.{certificate_machine}
use Rattle.machines.specs.Machine.{completes}
use Rattle.machines.specs.Run.{run_machine}
use Rattle.agreement.specs.Evidence.{written, replayed}
use Rattle.conversions.specs.declared.certificate.Written.{Written}
use Rattle.conversions.specs.Counts.{Counted}
use Rattle.conversions.specs.Faults.{conversion_refusal}
use Rattle.conversions.specs.Fronts.{put}
use Rattle.promise.specs.declared.Direction.{Direction}
use Rattle.promise.specs.declared.Direction.TheVariants.{ToCertificate, ToRun}
use Rattle.promise.specs.declared.fault.NotConverted.{NotConverted}
use Rattle.promise.specs.Faults.{refusal_in}

-- of evidence `is`, into a list that was `before` and is `after`
module _ (k : CheckedCase) (is before after : List Item) (r : Result Written NotConverted) where
  -- a run: refused with nothing written, or the list by moments at the front, which is a complete certificate, with its
  -- numbers of items and of moves
  pub record CertificateWritten : Type 0 where
    pub refusal : refusal_in r ≡ conversion_refusal (run_machine (threads k)) 4352 (length before) is
    pub list : MatchResult r (λ _. after ≡ put 0 (written (threads k) is) before) (λ _. after ≡ before)
    pub counts : IfOk r (λ n. Counted (threads k) is (length (records_of k)) n.items n.moves)
    pub complete : IfOk r (λ _. completes (certificate_machine (threads k)) (written (threads k) is) ≡ true)

  -- a certificate: the same with the replayed run, which has no moves
  pub record RunWritten : Type 0 where
    pub refusal : refusal_in r ≡ conversion_refusal (certificate_machine (threads k)) 512 (length before) is
    pub list : MatchResult r (λ _. after ≡ put 0 (replayed (threads k) is) before) (λ _. after ≡ before)
    pub counts : IfOk r (λ n. (n.items ≡ length (replayed (threads k) is)) × (n.items ≤ 512) × (n.moves ≡ 0))
    pub complete : IfOk r (λ _. completes (run_machine (threads k)) (replayed (threads k) is) ≡ true)

  abbrev pub Converts : Direction → Type 0
  Converts ToCertificate = CertificateWritten
  Converts ToRun = RunWritten
