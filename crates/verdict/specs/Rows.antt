-- The verdict as text: a header and one row.
use Rattle.std.specs.Prelude.{ℕ, List, [], ◌∷◌, codes, decimal}
use Rattle.text.specs.Reports.{one_row_text}
use Rattle.verdict.specs.declared.judgement.VerdictRow.{VerdictRow}
use Rattle.verdict.specs.declared.layer.Layer.{Layer}
use Rattle.verdict.specs.Judging.{Judged, Allowed, Unfinished, Refused}
pub use Rattle.verdict.specs.Layers.{layer_name}

-- verdict, layer, refusal and place, by case
pub record Row : Type 0 where
  pub verdict : List ℕ
  pub layer : Layer
  pub refusal : ℕ
  pub place : ℕ

abbrev pub told : Judged → Row
told (Allowed l n) = record { verdict = codes "allowed"; layer = l; refusal = 0; place = n }
told (Unfinished l n) = record { verdict = codes "unfinished"; layer = l; refusal = 0; place = n }
told (Refused l q) = record { verdict = codes "refused"; layer = l; refusal = q.number; place = q.place }

-- the row of the code
abbrev pub row_of : VerdictRow → Row
row_of r = record { verdict = r.verdict.now; layer = r.layer; refusal = r.refusal; place = r.place }

abbrev pub fields_of : Row → List (List ℕ)
fields_of r = r.verdict ∷ layer_name r.layer ∷ decimal r.refusal ∷ decimal r.place ∷ []

abbrev pub verdict_text : Judged → List ℕ
verdict_text j = one_row_text (codes "verdict,layer,refusal,place") (fields_of (told j))
