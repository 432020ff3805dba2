-- Complete evidence is converted without a refusal, and what it is converted to has a text.
use Rattle.std.proofs.Common.{◌≡◌, ℕ, ◌+◌, ◌≤◌, true, false, cond, ltb, List, [], ◌∷◌, map, length, take, drop, Some, None, Ok, Err, Result, IsOk, sym, refl, ap, ◌∙◌, arith}
use lib.ListN.{length-map}
use lib.Seq.{take-append_seam}
use Rattle.std.proofs.lemmas.Bool.{le-ltb}
use Rattle.records.specs.declared.Item.{Item}
use Rattle.records.specs.declared.Record.{Record}
use Rattle.records.specs.Names.{threads_of}
use Rattle.records.specs.Refusals.{Refusal}
use Rattle.machines.specs.declared.items.CertificateItem.{CertificateItem}
use Rattle.machines.specs.declared.items.CertificateItem.TheVariants.{Move, Come}
use Rattle.machines.specs.declared.items.RunItem.{RunItem}
use Rattle.machines.specs.declared.items.RunItem.TheVariants.{Perform, Drain}
use Rattle.machines.specs.Certificate.{certificate_machine}
use Rattle.machines.specs.Machine.{Machine, completes}
use Rattle.machines.specs.Run.{run_machine}
use Rattle.agreement.specs.Convert.{replay}
use Rattle.machines.specs.Encoded.{run_encoded, certificate_encoded}
use Rattle.agreement.specs.Evidence.{run_items, certificate_items}
use Rattle.agreement.specs.Moments.{by_moments}
use Rattle.conversions.specs.declared.fault.ConversionFault.{ConversionFault}
use Rattle.conversions.specs.Faults.{told, refusal_in, conversion_refusal}
use Rattle.conversions.specs.Fronts.{put}
use Rattle.text.specs.Files.{evidence_sheet, evidence_rows, evidence_text, item_cells}
use Rattle.text.specs.Reports.{fitting}
use Rattle.text.specs.Sheets.{rows_known}
use Rattle.text.specs.Writing.{writing}
use Rattle.verdict.specs.Converting.{other_kind}
use Rattle.verdict.specs.declared.layer.Kind.TheVariants as kinds
use Rattle.verdict.specs.Judging.{is_certificate, complete}
use Rattle.verdict.proofs.Exactly.{complete-none}

-- ── No refusal ──
pub not_refused : {S : Type 0} (m : Machine S) (room size : ℕ) (is : List Item) (q : Refusal) → room ≤ size → completes m is ≡ true → Some q ≡ conversion_refusal m room size is → ⊥
not_refused m room size is q l e r =
    let passes : Some q ≡ None = rw (le-ltb size room l, sym (complete-none m is e), e) at r in
    let z : ◌≡◌ {A = ℕ} 0 1 = cc in omega arith

-- ── The list in front ──
pub in_front-put : {X : Type 0} (xs out : List X) → take (length xs) (put 0 xs out) ≡ xs
in_front-put xs out = take-append_seam xs (drop (0 + length xs) out)

-- ── The text ──
known-run : (l : List RunItem) → rows_known evidence_sheet (evidence_rows (map run_encoded l)) ≡ true
known-run [] = refl
known-run (Perform t ∷ l) = known-run l
known-run (Drain t ∷ l) = known-run l

known-certificate : (l : List CertificateItem) → rows_known evidence_sheet (evidence_rows (map certificate_encoded l)) ≡ true
known-certificate [] = refl
known-certificate (Move t p c ∷ l) = known-certificate l
known-certificate (Come t ∷ l) = known-certificate l

known-other : (rs : List Record) (is : List Item) → rows_known evidence_sheet (evidence_rows (other_kind rs is)) ≡ true
known-other rs is =
    elim (is_certificate is) as (λ b.
    rows_known evidence_sheet (evidence_rows (cond b (map run_encoded (replay (threads_of rs) (certificate_items is))) (map certificate_encoded (by_moments (threads_of rs) (run_items is))))) ≡ true) [
      | true ↦ known-run (replay (threads_of rs) (certificate_items is))
      | false ↦ known-certificate (by_moments (threads_of rs) (run_items is))
    ]

pub writes-other : (rs : List Record) (is xs : List Item) (room : ℕ) → xs ≡ other_kind rs is → length xs ≤ 4352 → writing evidence_sheet (evidence_rows xs) room ≡ fitting (evidence_text (other_kind rs is)) room
writes-other rs is xs room e l =
    let few : ltb 4352 (length (evidence_rows xs)) ≡ false = le-ltb 4352 (length (evidence_rows xs)) (omega (arith, length-map xs item_cells)) in
    let known : rows_known evidence_sheet (evidence_rows xs) ≡ true = ap (λ ys. rows_known evidence_sheet (evidence_rows ys)) e ∙ known-other rs is in
    rw (few, known) (ap (λ ys. fitting (evidence_text ys) room) e)

-- ── Of the kind that is meant ──
pub run_meant : (rs : List Record) (is : List Item) → kinds.Run ≡ cond (is_certificate is) kinds.Certificate kinds.Run → complete rs is ≡ true → completes (run_machine (threads_of rs)) is ≡ true
run_meant rs is =
    elim (is_certificate is) as (λ b. kinds.Run ≡ cond b kinds.Certificate kinds.Run → cond b (completes (certificate_machine (threads_of rs)) is) (completes (run_machine (threads_of rs)) is) ≡ true → completes (run_machine (threads_of rs)) is ≡ true) [
      | true ↦ λ k e. let z : ◌≡◌ {A = ℕ} 0 1 = cc in absurd (omega arith)
      | false ↦ λ k e. e
    ]

pub certificate_meant : (rs : List Record) (is : List Item) → kinds.Certificate ≡ cond (is_certificate is) kinds.Certificate kinds.Run → complete rs is ≡ true → completes (certificate_machine (threads_of rs)) is ≡ true
certificate_meant rs is =
    elim (is_certificate is) as (λ b. kinds.Certificate ≡ cond b kinds.Certificate kinds.Run → cond b (completes (certificate_machine (threads_of rs)) is) (completes (run_machine (threads_of rs)) is) ≡ true → completes (certificate_machine (threads_of rs)) is ≡ true) [
      | true ↦ λ k e. e
      | false ↦ λ k e. let z : ◌≡◌ {A = ℕ} 0 1 = cc in absurd (omega arith)
    ]

pub converts : {S T F : Type 0} (m : Machine S) (number : F → ℕ) (room size : ℕ) (is : List Item) (r : Result T (ConversionFault F)) → room ≤ size → completes m is ≡ true → refusal_in number r ≡ conversion_refusal m room size is → IsOk r
converts m number room size is (Ok x) l e r = refl
converts m number room size is (Err f) l e r = absurd (not_refused m room size is (told number f) l e r)
