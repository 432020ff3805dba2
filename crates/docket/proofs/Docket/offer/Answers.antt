use Rattle.std.proofs.Common.{◌≡◌, true, sym, rules}
use Rattle.docket.specs.Standing.{admits, state_of, step_of}
use Rattle.machines.proofs.Examining.{taken}
use Rattle.docket.proofs.Joining.{one_more}
use Rattle.docket.proofs.Docket.offer.Goals as goal

pub returns-in-Ok-clause-heeds : goal.returns-in-Ok-clause-heeds
returns-in-Ok-clause-heeds g c =
    let k = g.K.Evidence in
    let d = c.args.self.now in
    let shown = c.args.ticket.now.name in
    let told : true ≡ admits d c.name.result = c.if-not-fits.ensures.value in
    let fit : admits d shown ≡ true = rw (← c.name.ensures.value) (sym told) in
    let put = c.in-Ok.ensures in
    let stepped = taken (step_of k d c.args.item) (state_of k d) (k.state d.case c.put.new.self) put.answer put.after in
    one_more k d c.put.new.self c.saturating_add-self.result shown c.args.item g.met.K.Evidence.short fit stepped (search rules)
