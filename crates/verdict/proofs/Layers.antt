-- The layers in their order, once both texts are read: the form decides, or the examination.
use Rattle.std.proofs.Common.{◌≡◌, ℕ, cond, not, List, take, is_some, Some, None, refl, sym, ap, ◌∙◌, subst}
use Rattle.records.specs.declared.Item.{Item}
use Rattle.records.specs.declared.Record.{Record}
use Rattle.records.specs.Refusals.{Refusal}
use Rattle.case.specs.declared.checked.CheckedCase.{CheckedCase}
use Rattle.case.specs.Cases.{filled, records_of}
use Rattle.form.specs.Form.{form_refusal}
use Rattle.text.specs.Files.{evidence_text, case_reading, record_of, evidence_reading, item_of}
use Rattle.verdict.specs.declared.layer.Layer.TheVariants.{CaseText, EvidenceText, Case}
use Rattle.verdict.specs.Judging.{Refused, case_refusal, evidence_refusal, records_in, examined_as, judged, is_allowed}
use Rattle.verdict.specs.Converting.{other_kind, delivered, converted}
use Rattle.verdict.specs.Rows.{verdict_text}
use Rattle.verdict.specs.Reads.{InFront, Loaded}

module _ (ct et : List ℕ) (n m : ℕ) (rs : List Record) (is : List Item) (cases : InFront record_of (case_reading 256 ct) n rs) (room : ℕ) (full : room ≡ 4352) (evidence-read : InFront item_of (evidence_reading room et) m is) where
  evidence : InFront item_of (evidence_reading 4352 et) m is
  evidence = subst (λ k. InFront item_of (evidence_reading k et) m is) full evidence-read

  pub form_decides : (q : Refusal) → Some q ≡ form_refusal (take n rs) → Refused Case q ≡ judged ct et
  form_decides q e = let found : form_refusal (records_in ct) ≡ Some q = sym (e ∙ ap form_refusal cases.rows) in rw (cases.ends, evidence.ends, found)

  pub all_loaded : (k : CheckedCase) (old : List Record) → None ≡ form_refusal (take n rs) → records_of k ≡ filled (take n rs) old → Loaded ct et k is m
  all_loaded k old e holds =
      record {
        case_reads = cases.ends;
        evidence_reads = evidence.ends;
        is_in_form = sym (e ∙ ap form_refusal cases.rows);
        records = holds ∙ ap (λ z. cond (not (is_some z)) (take n rs) old) (sym e) ∙ cases.rows;
        items = evidence.rows;
        few = evidence.few;
      }

-- a text that does not read decides
pub case_decides : (ct et : List ℕ) (q : Refusal) → case_refusal ct ≡ Some q → Refused CaseText q ≡ judged ct et
case_decides ct et q e = rw e refl

pub evidence_decides : (ct et : List ℕ) (q : Refusal) → case_refusal ct ≡ None → evidence_refusal et ≡ Some q → Refused EvidenceText q ≡ judged ct et
evidence_decides ct et q reads e = rw (reads, e) refl

-- then the examination decides
module _ (ct et : List ℕ) (k : CheckedCase) (is : List Item) (n : ℕ) (so : Loaded ct et k is n) where
  pub examination_decides : examined_as (records_of k) (take n is) ≡ judged ct et
  examination_decides = rw (so.records, so.items, so.case_reads, so.evidence_reads, so.is_in_form)

  pub delivers : delivered (records_of k) (take n is) ≡ converted ct et
  delivers =
      ap (λ j. cond (is_allowed j) (evidence_text (other_kind (records_of k) (take n is))) (verdict_text j)) examination_decides
      ∙ ap (λ xs. cond (is_allowed (judged ct et)) (evidence_text (other_kind xs (take n is))) (verdict_text (judged ct et))) so.records
      ∙ ap (λ ys. cond (is_allowed (judged ct et)) (evidence_text (other_kind (records_in ct) ys)) (verdict_text (judged ct et))) so.items
