-- Run and certificate agree: the theorems that contracts cite, on raw evidence for the case of a list of records.
use Rattle.std.specs.Prelude.{◌≡◌, ℕ, ◌+◌, ◌<◌, ◌≤◌, true, ◌↔◌, List, map, length, Some, Ok}
use Rattle.std.specs.List.{AllByRecursion}
use Rattle.records.specs.declared.Item.{Item}
use Rattle.records.specs.declared.Record.{Record}
use Rattle.records.specs.Names.{Case, at, of_thread, threads_of}
use Rattle.machines.specs.declared.items.RunItem.{RunItem}
use Rattle.machines.specs.declared.items.CertificateItem.{CertificateItem}
use Rattle.machines.specs.Items.{run_item, certificate_item}
use Rattle.machines.specs.Machine.{reached, completes}
use Rattle.machines.specs.Run.{RunState, fresh_run, run_machine}
use Rattle.machines.specs.Certificate.{OrderState, certificate_machine}
use Rattle.agreement.specs.Convert.{emitted, move_count, reversed_by}
use Rattle.agreement.specs.Moments.{Converted, by_moments, pairs, Told, Saw}
use Rattle.machines.specs.Encoded.{run_encoded, certificate_encoded}
use Rattle.agreement.specs.Evidence.{run_items, certificate_items, written, replayed}

-- what is needed of a case in form: at most 256 records of eight threads, at most 64 of each
pub record Sized (xs : List Record) : Type 0 where
  pub few : length xs ≤ 256
  pub thread_few : (t : ℕ) → length (of_thread t xs) ≤ 64
  pub thread_small : (k : ℕ) → k < length xs → (at xs k).thread < 8

abbrev pub CompleteRun : List Record → List Item → Type 0
CompleteRun xs is = completes (run_machine (threads_of xs)) is ≡ true

abbrev pub CompleteCertificate : List Record → List Item → Type 0
CompleteCertificate xs js = completes (certificate_machine (threads_of xs)) js ≡ true

-- ── Agreement ──
-- Some run is complete for a case exactly if some certificate is.
abbrev pub Agreement : Type 0
Agreement = (xs : List Record) → ((is : List Item) × CompleteRun xs is) ↔ ((js : List Item) × CompleteCertificate xs js)

-- ── Items ──
-- the numbers of an item fit its bytes
pub record Fits (i : Item) : Type 0 where
  pub thread_fits : i.thread < 8
  pub place_fits : i.place < 64
  pub count_fits : i.count < 64

-- What is written as an item is read back, and what is taken was written so.
pub record Encoding : Type 0 where
  pub run_read : (i : RunItem) → run_item (run_encoded i) ≡ Some i
  pub certificate_read : (j : CertificateItem) → certificate_item (certificate_encoded j) ≡ Some j
  pub run_taken : (c : Case) (is : List Item) (s : RunState)
      → reached (run_machine c) is ≡ Ok s → map run_encoded (run_items is) ≡ is
  pub certificate_taken : (c : Case) (js : List Item) (s : OrderState)
      → reached (certificate_machine c) js ≡ Ok s → map certificate_encoded (certificate_items js) ≡ js

-- ── How many ──
-- Few items are taken, whether or not they lead to the end, and their numbers are small. No kind may take more than 8,192.
pub record Few : Type 0 where
  pub of_runs : (xs : List Record) (is : List Item) (s : RunState) → Sized xs
      → reached (run_machine (threads_of xs)) is ≡ Ok s → length is ≤ 512
  pub run_fits : (xs : List Record) (is : List Item) (s : RunState)
      → reached (run_machine (threads_of xs)) is ≡ Ok s → AllByRecursion Fits is
  pub of_certificates : (xs : List Record) (js : List Item) (s : OrderState) → Sized xs
      → reached (certificate_machine (threads_of xs)) js ≡ Ok s → length js ≤ 4352
  pub certificate_fits : (xs : List Record) (js : List Item) (s : OrderState) → Sized xs
      → reached (certificate_machine (threads_of xs)) js ≡ Ok s → AllByRecursion Fits js
  -- each move reverses one pair
  pub reversing : (xs : List Record) (js : List Item) (s : OrderState)
      → reached (certificate_machine (threads_of xs)) js ≡ Ok s
      → move_count (certificate_items js) ≡ reversed_by (threads_of xs) (certificate_items js)
  pub moves : (xs : List Record) (js : List Item) (s : OrderState) → Sized xs
      → reached (certificate_machine (threads_of xs)) js ≡ Ok s → move_count (certificate_items js) ≤ 4096

-- ── The conversions ──
-- What is written of a complete run is a complete certificate, with one move for each reversed pair and one O for each action.
pub record ToCertificate : Type 0 where
  pub certified : (xs : List Record) (is : List Item)
      → CompleteRun xs is → CompleteCertificate xs (written (threads_of xs) is)
  pub moves_counted : (xs : List Record) (is : List Item)
      → move_count (certificate_items (written (threads_of xs) is)) ≡ pairs (threads_of xs) (run_items is)
  pub moves_few : (xs : List Record) (is : List Item) → Sized xs → CompleteRun xs is
      → move_count (certificate_items (written (threads_of xs) is)) ≤ 4096
  pub items_counted : (xs : List Record) (is : List Item) → Sized xs → CompleteRun xs is
      → length (written (threads_of xs) is) ≡ move_count (certificate_items (written (threads_of xs) is)) + length xs
  pub items_few : (xs : List Record) (is : List Item) → Sized xs → CompleteRun xs is
      → length (written (threads_of xs) is) ≤ 4352
  pub items_fit : (xs : List Record) (is : List Item) → Sized xs → CompleteRun xs is
      → AllByRecursion Fits (written (threads_of xs) is)

-- What a complete certificate is replayed to is a complete run.
pub record ToRun : Type 0 where
  pub run : (xs : List Record) (js : List Item)
      → CompleteCertificate xs js → CompleteRun xs (replayed (threads_of xs) js)
  pub run_few : (xs : List Record) (js : List Item) → Sized xs → CompleteCertificate xs js
      → length (replayed (threads_of xs) js) ≤ 512
  pub run_fit : (xs : List Record) (js : List Item) → CompleteCertificate xs js
      → AllByRecursion Fits (replayed (threads_of xs) js)

-- ── Moments ──
pub record ByMoments : Type 0 where
  -- the moments determine the list, and it can be computed; what is emitted along a complete run is this list
  pub one : (c : Case) (is : List RunItem) (js ks : List CertificateItem) → Converted c is js → Converted c is ks → js ≡ ks
  pub computed : (c : Case) (is : List RunItem) → Converted c is (by_moments c is)
  pub along : (xs : List Record) (is : List Item) → CompleteRun xs is
      → Converted (threads_of xs) (run_items is) (emitted (threads_of xs) (run_items is))
  pub emits_it : (xs : List Record) (is : List Item) → CompleteRun xs is
      → emitted (threads_of xs) (run_items is) ≡ by_moments (threads_of xs) (run_items is)
  -- its moves are as many as the pairs that it reverses
  pub moves_pairs : (c : Case) (is : List RunItem) (js : List CertificateItem) → Converted c is js → move_count js ≡ pairs c is
  -- indices and hosts are what the machine does, item by item; a read that goes with a write saw it
  pub told : (xs : List Record) (is : List Item) → CompleteRun xs is
      → Told (threads_of xs) (run_items is) 0 (Ok (fresh_run (threads_of xs))) (run_items is)
  pub saw : (xs : List Record) (is : List Item) → CompleteRun xs is → (t p : ℕ) → Saw (threads_of xs) (run_items is) t p
