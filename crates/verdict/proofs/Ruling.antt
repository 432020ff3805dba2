-- What an examination replied, as what is said of two texts.
use Rattle.std.proofs.Common.{◌≡◌, List, refl, ap, ◌∙◌}
use Rattle.records.specs.declared.Item.{Item}
use Rattle.case.specs.declared.checked.CheckedCase.{CheckedCase}
use Rattle.machines.specs.Outcomes.{Outcome, allowed, unfinished, refused, outcome}
use Rattle.kinds.specs.declared.Evidence.{Ghosts}
use Rattle.docket.specs.declared.Docket.{Docket}
use Rattle.docket.specs.Plain.{empty, Reply}
use Rattle.docket.specs.Standing.{Stands}
use Rattle.sessions.specs.Examinations.{said, Examines}
use Rattle.verdict.specs.declared.layer.Layer.{Layer}
use Rattle.verdict.specs.Judging.{ruled}
use Rattle.verdict.specs.Rulings.{ruling}

pub ruled_as_said : (l : Layer) (o : Outcome) → ruling l (said o) ≡ ruled l o
ruled_as_said l (allowed n) = refl
ruled_as_said l (unfinished n) = refl
ruled_as_said l (refused q) = refl

-- a new docket replies what the items come to
pub new-replies : {K F : Type 0} (kind : Ghosts K F) (d d' : Docket K F) (k : CheckedCase) (items : List Item) (a : Reply) → d.case ≡ k → Stands kind d empty →
    Examines kind d items a d' →
    a ≡ said (outcome (kind.machine k) items)
new-replies kind d d' k items a e new does =
    let told : a ≡ said (outcome (kind.machine d.case) items) = does.answers empty new in
    told ∙ ap (λ z. said (outcome (kind.machine z) items)) e
