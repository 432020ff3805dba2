-- What the judge says of two texts, from what the layers below say: the two readings, the form, and the kind's machine.
use Rattle.std.specs.Prelude.{◌≡◌, ℕ, Bool, true, false, cond, ◌&&◌, ◌||◌, List, [], ◌∷◌, map, Some, None, Option, ◌==◌}
use Rattle.records.specs.declared.Item.{Item}
use Rattle.records.specs.declared.Record.{Record}
use Rattle.records.specs.Letters.{letter}
use Rattle.records.specs.Names.{threads_of}
use Rattle.records.specs.Refusals.{Refusal}
use Rattle.form.specs.Form.{form_refusal, in_form}
use Rattle.machines.specs.Certificate.{certificate_machine, Allowed as ModelAllows}
use Rattle.machines.specs.Machine.{completes}
use Rattle.machines.specs.Outcomes.{Outcome, allowed, unfinished, refused, outcome}
use Rattle.machines.specs.Run.{run_machine}
use Rattle.text.specs.Files.{case_reading, record_of, evidence_reading, item_of}
use Rattle.verdict.specs.declared.layer.Layer.{Layer}
use Rattle.verdict.specs.declared.layer.Layer.TheVariants.{CaseText, EvidenceText, Case, Run, Certificate}

-- what is said of two texts: by which layer, with the number of items, or with the number and the place of a refusal
pub data Judged : Type 0 where
  Allowed : Layer → ℕ → Judged
  Unfinished : Layer → ℕ → Judged
  Refused : Layer → Refusal → Judged

-- ── What the texts hold ──
abbrev pub case_refusal : List ℕ → Option Refusal
case_refusal text = (case_reading 256 text).end

abbrev pub records_in : List ℕ → List Record
records_in text = map record_of (case_reading 256 text).rows

abbrev pub evidence_refusal : List ℕ → Option Refusal
evidence_refusal text = (evidence_reading 4352 text).end

abbrev pub items_in : List ℕ → List Item
items_in text = map item_of (evidence_reading 4352 text).rows

-- ── The examination ──
-- a certificate is meant if the first item is M or O, else a run
abbrev pub is_certificate : List Item → Bool
is_certificate [] = false
is_certificate (i ∷ is) = i.letter == (letter "M") || i.letter == (letter "O")

abbrev pub ruled : Layer → Outcome → Judged
ruled l (allowed n) = Allowed l n
ruled l (unfinished n) = Unfinished l n
ruled l (refused q) = Refused l q

abbrev pub examined_as : List Record → List Item → Judged
examined_as rs is =
    cond (is_certificate is) (ruled Certificate (outcome (certificate_machine (threads_of rs)) is)) (ruled Run (outcome (run_machine (threads_of rs)) is))

-- ── The layers, in order ──
abbrev pub refused_by : Layer → Option Refusal → Judged → Judged
refused_by l None next = next
refused_by l (Some q) next = Refused l q

abbrev pub judged : List ℕ → List ℕ → Judged
judged ct et =
    refused_by CaseText (case_refusal ct)
    (refused_by EvidenceText (evidence_refusal et)
    (refused_by Case (form_refusal (records_in ct)) (examined_as (records_in ct) (items_in et))))

-- ── The law above it ──
abbrev pub is_allowed : Judged → Bool
is_allowed (Allowed l n) = true
is_allowed (Unfinished l n) = false
is_allowed (Refused l q) = false

abbrev pub reads : Option Refusal → Bool
reads None = true
reads (Some q) = false

-- whether these items are complete evidence of the kind that they are meant as
abbrev pub complete : List Record → List Item → Bool
complete rs is = cond (is_certificate is) (completes (certificate_machine (threads_of rs)) is) (completes (run_machine (threads_of rs)) is)

-- "allowed" is said exactly if both texts read, the case is in form and the evidence is complete for it; and then the model
-- allows the case
pub record AllowedExactly (ct et : List ℕ) : Type 0 where
  pub exactly : is_allowed (judged ct et) ≡ (reads (case_refusal ct) && (reads (evidence_refusal et) && (in_form (records_in ct) && complete (records_in ct) (items_in et))))
  pub model : is_allowed (judged ct et) ≡ true → ModelAllows (threads_of (records_in ct))
