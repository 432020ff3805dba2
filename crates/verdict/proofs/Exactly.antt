-- "Allowed" is said exactly of complete evidence for a case in form, and then the model allows the case.
use Rattle.std.proofs.Common.{◌≡◌, ℕ, Bool, true, false, cond, not, ◌&&◌, List, length, take, is_some, Some, None, Ok, Option, sym, refl, ◌∙◌, arith, take_all}
use Rattle.std.proofs.lemmas.Bool.{and_parts}
use Rattle.records.specs.declared.Item.{Item}
use Rattle.records.specs.declared.Record.{Record}
use Rattle.records.specs.Names.{threads_of}
use Rattle.records.specs.Refusals.{Refusal}
use Rattle.form.specs.Form.{form_refusal, in_form}
use Rattle.machines.specs.Certificate.{certificate_machine, Allowed as ModelAllows}
use Rattle.machines.specs.Machine.{Machine, reached, completes, refusal_of}
use Rattle.machines.specs.Outcomes.{outcome_of, outcome}
use Rattle.machines.specs.Run.{run_machine}
use Rattle.machines.proofs.Examining.{examining_taken, none-refused}
use Rattle.machines.proofs.Feeds.{ends}
use Rattle.agreement.specs.Agreement.{Agreement}
use Rattle.verdict.specs.declared.layer.Layer.{Layer}
use Rattle.verdict.specs.declared.layer.Layer.TheVariants.{CaseText, EvidenceText, Case, Run, Certificate}
use Rattle.verdict.specs.Judging.{Judged, case_refusal, records_in, evidence_refusal, items_in, is_certificate, ruled, examined_as, refused_by, judged, is_allowed, reads, complete, AllowedExactly}

-- complete evidence has no refusal
pub complete-none : {S : Type 0} (m : Machine S) (is : List Item) → completes m is ≡ true → None ≡ refusal_of m is
complete-none m is e =
    let h = ends m is e in
    let all : reached m (take (length is) is) ≡ Ok h.last = rw (take_all (length is) is (omega arith)) h.taken in
    none-refused m is h.last (length is) (examining_taken m is h.last (length is) (omega arith) all) (omega arith)

-- so the outcome is allowed exactly if the evidence is complete
allowed_of : (l : Layer) (q : Option Refusal) (b : Bool) (n : ℕ) → (b ≡ true → None ≡ q) → is_allowed (ruled l (outcome_of q b n)) ≡ b
allowed_of l None true n h = refl
allowed_of l None false n h = refl
allowed_of l (Some r) true n h = let z : ◌≡◌ {A = ℕ} 0 1 = (let e : None ≡ Some r = h refl in cc) in absurd (omega arith)
allowed_of l (Some r) false n h = refl

allowed-outcome : {S : Type 0} (l : Layer) (m : Machine S) (is : List Item) → is_allowed (ruled l (outcome m is)) ≡ completes m is
allowed-outcome l m is = allowed_of l (refusal_of m is) (completes m is) (length is) (complete-none m is)

pub allowed-examined : (rs : List Record) (is : List Item) → is_allowed (examined_as rs is) ≡ complete rs is
allowed-examined rs is =
    elim (is_certificate is) as (λ b.
    is_allowed (cond b (ruled Certificate (outcome (certificate_machine (threads_of rs)) is)) (ruled Run (outcome (run_machine (threads_of rs)) is)))
    ≡ cond b (completes (certificate_machine (threads_of rs)) is) (completes (run_machine (threads_of rs)) is)) [
      | true ↦ allowed-outcome Certificate (certificate_machine (threads_of rs)) is
      | false ↦ allowed-outcome Run (run_machine (threads_of rs)) is
    ]

-- each layer that does not refuse lets the next one decide
by_layer : (l : Layer) (q : Option Refusal) (j : Judged) (b : Bool) → is_allowed j ≡ b → is_allowed (refused_by l q j) ≡ (reads q && b)
by_layer l None j b e = e
by_layer l (Some r) j b e = refl

by_form : (q : Option Refusal) (j : Judged) (b : Bool) → is_allowed j ≡ b → is_allowed (refused_by Case q j) ≡ (not (is_some q) && b)
by_form None j b e = e
by_form (Some r) j b e = refl

exactly : (ct et : List ℕ) → is_allowed (judged ct et) ≡ (reads (case_refusal ct) && (reads (evidence_refusal et) && (in_form (records_in ct) && complete (records_in ct) (items_in et))))
exactly ct et =
    by_layer CaseText (case_refusal ct) _ _
    (by_layer EvidenceText (evidence_refusal et) _ _
    (by_form (form_refusal (records_in ct)) _ _ (allowed-examined (records_in ct) (items_in et))))

-- a complete run has a complete certificate beside it
some-certificate : Agreement → (rs : List Record) (is : List Item) (b : Bool) → cond b (completes (certificate_machine (threads_of rs)) is) (completes (run_machine (threads_of rs)) is) ≡ true → ModelAllows (threads_of rs)
some-certificate agree rs is true e = ∣ (is, e) ∣₁
some-certificate agree rs is false e = ∣ (agree rs).0 (is, e) ∣₁

pub allowed-exactly : Agreement → (ct et : List ℕ) → AllowedExactly ct et
allowed-exactly agree ct et =
    record {
      exactly = exactly ct et;
      model = λ e.
          let all = sym (exactly ct et) ∙ e in
          let past-case = (and_parts (reads (case_refusal ct)) _ all).1 in
          let past-evidence = (and_parts (reads (evidence_refusal et)) _ past-case).1 in
          let past_form = (and_parts (in_form (records_in ct)) _ past-evidence).1 in
          some-certificate agree (records_in ct) (items_in et) (is_certificate (items_in et)) past_form;
    }
