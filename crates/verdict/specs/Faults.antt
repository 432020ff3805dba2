-- The program's faults, told by the layer that refuses and by the number and the place of the lower layer's refusal.
use Rattle.records.specs.Refusals.{Refusal}
use Rattle.form.specs.Form.{told as form_told}
use Rattle.machines.specs.Faults.{run_number, certificate_number}
use Rattle.text.specs.Faults.{told as text_told}
use Rattle.docket.specs.Faults.{told as docket_told}
use Rattle.verdict.specs.declared.fault.Fault.{Fault}
use Rattle.verdict.specs.declared.fault.Fault.TheVariants as faults
use Rattle.verdict.specs.declared.layer.Layer.{Layer}
use Rattle.verdict.specs.declared.layer.Layer.TheVariants.{CaseText, EvidenceText, Case, Run, Certificate}

abbrev pub layer_of : Fault → Layer
layer_of (faults.CaseText f) = CaseText
layer_of (faults.EvidenceText f) = EvidenceText
layer_of (faults.Case f) = Case
layer_of (faults.Run f) = Run
layer_of (faults.Certificate f) = Certificate

abbrev pub refusal_of : Fault → Refusal
refusal_of (faults.CaseText f) = text_told f
refusal_of (faults.EvidenceText f) = text_told f
refusal_of (faults.Case f) = form_told f
refusal_of (faults.Run f) = docket_told run_number f
refusal_of (faults.Certificate f) = docket_told certificate_number f
