use Rattle.verdict.proofs.Ruling.{new-replies}
use Rattle.verdict.proofs.over_docket.Goals as goal

pub returns : goal.returns
returns g c =
    let new = c.new-docket.ensures in
    record { value = new-replies g.K.Evidence _ _ _ _ _ new.case new.stands c.examine.ensures.examines }
