-- The layers by their names in a verdict, and the layer of each kind of evidence.
use Rattle.std.specs.Prelude.{ℕ, List, codes}
use Rattle.verdict.specs.declared.layer.Kind.{Kind}
use Rattle.verdict.specs.declared.layer.Kind.TheVariants as kinds
use Rattle.verdict.specs.declared.layer.Layer.{Layer}
use Rattle.verdict.specs.declared.layer.Layer.TheVariants.{CaseText, EvidenceText, Case, Run, Certificate}

abbrev pub layer_name : Layer → List ℕ
layer_name CaseText = codes "case-text"
layer_name EvidenceText = codes "evidence-text"
layer_name Case = codes "case"
layer_name Run = codes "run"
layer_name Certificate = codes "certificate"

abbrev pub layer_of_kind : Kind → Layer
layer_of_kind kinds.Run = Run
layer_of_kind kinds.Certificate = Certificate
