use Rattle.std.proofs.Common.{◌∙◌}
use Rattle.docket.specs.Plain.{empty}
use Rattle.docket.proofs.Tidy.{tidy-slots}
use Rattle.docket.proofs.work.session.Goals as goal

-- the slots are the plain docket's, whose new docket stands for the empty one
pub returns-clause-returned : goal.returns-clause-returned
returns-clause-returned g c =
    let new = c.new-docket.ensures in
    let slots = rw (new.case, new.number) at ((rw c.unwrap.ensures at c.work_off.ensures.tickets) empty new.stands) in
    λ j t free. slots ∙ tidy-slots (g.K.Evidence.machine c.args.case.now) c.args.number j c.args.held.now free c.args.calls.now t

pub returns-clause-counts : goal.returns-clause-counts
returns-clause-counts g c =
    let new = c.new-docket.ensures in
    rw (new.case, new.number) at ((rw c.unwrap.ensures at c.work_off.ensures.counts) empty new.stands)
