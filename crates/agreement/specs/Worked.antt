-- Store buffering, worked through: a run of it, the certificate that it converts to, and the run that this converts to.
use Rattle.std.specs.Prelude.{◌≡◌, ℕ, List, [], ◌∷◌, map}
use Rattle.records.specs.declared.Item.{Item}
use Rattle.records.specs.Executions.{store_buffering, carried_read}
use Rattle.records.specs.Names.{threads_of}
use Rattle.machines.specs.declared.items.RunItem.{RunItem}
use Rattle.machines.specs.declared.items.RunItem.TheVariants.{Perform, Drain}
use Rattle.machines.specs.declared.items.CertificateItem.{CertificateItem}
use Rattle.machines.specs.declared.items.CertificateItem.TheVariants.{Move, Come}
use Rattle.agreement.specs.Convert.{emitted}
use Rattle.agreement.specs.Moments.{moment}
use Rattle.machines.specs.Encoded.{run_encoded, certificate_encoded}
use Rattle.agreement.specs.Evidence.{run_items, written, replayed}
use Rattle.agreement.specs.Agreement.{CompleteRun, CompleteCertificate}

abbrev pub run : List RunItem → List Item
run is = map run_encoded is

abbrev pub certificate : List CertificateItem → List Item
certificate js = map certificate_encoded js

-- nothing is drained: both writes come after the last item
abbrev pub undrained : List Item
undrained = run (map (λ t. Perform t) (0 ∷ 0 ∷ 1 ∷ 0 ∷ 1 ∷ 0 ∷ 1 ∷ []))

abbrev pub reads_first : List Item
reads_first = certificate (Move 0 2 0 ∷ Move 1 1 0 ∷ map (λ t. Come t) (0 ∷ 0 ∷ 1 ∷ 0 ∷ 1 ∷ 0 ∷ 1 ∷ []))

abbrev pub drained_last : List Item
drained_last = run (
    Perform 0 ∷ Perform 0 ∷ Perform 1 ∷ Perform 0 ∷ Perform 0 ∷ Perform 1 ∷ Perform 1 ∷ Drain 0 ∷ Drain 1 ∷ [])

pub record StoreBuffering : Type 0 where
  pub taken : CompleteRun store_buffering undrained
  pub to_certificate : written (threads_of store_buffering) undrained ≡ reads_first
  pub along_run : certificate (emitted (threads_of store_buffering) (run_items undrained)) ≡ reads_first
  pub certifies : CompleteCertificate store_buffering reads_first
  pub back : replayed (threads_of store_buffering) reads_first ≡ drained_last
  pub taken_again : CompleteRun store_buffering drained_last

-- a read that saw its own thread's waiting write comes with it, carried past by the next read
abbrev pub carrying : List Item
carrying = run (
    Perform 0 ∷ Perform 0 ∷ Perform 1 ∷ Perform 0 ∷ Perform 0 ∷ Perform 1 ∷ Perform 0 ∷ Perform 1 ∷ Perform 1 ∷ Drain 0 ∷ [])

abbrev pub moment_of : ℕ → ℕ → List ℕ
moment_of t p = moment (threads_of carried_read) (run_items carrying) t p

pub record CarriedRead : Type 0 where
  pub moments : moment_of 0 2 ∷ moment_of 0 3 ∷ moment_of 0 4 ∷ moment_of 1 1 ∷ moment_of 1 2 ∷ []
      ≡ (9 ∷ 0 ∷ 2 ∷ 2 ∷ []) ∷ (9 ∷ 0 ∷ 2 ∷ 3 ∷ []) ∷ (6 ∷ 0 ∷ 4 ∷ 4 ∷ []) ∷ (10 ∷ 1 ∷ 1 ∷ 1 ∷ []) ∷ (10 ∷ 1 ∷ 1 ∷ 2 ∷ []) ∷ []
  pub to_certificate : written (threads_of carried_read) carrying
      ≡ certificate (Move 0 2 1 ∷ Move 1 1 1 ∷ map (λ t. Come t) (0 ∷ 0 ∷ 1 ∷ 0 ∷ 1 ∷ 0 ∷ 0 ∷ 1 ∷ 1 ∷ []))
