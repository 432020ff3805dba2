-- The turn that comes concerns no life, or fits the life that it concerns.
use Rattle.std.proofs.Common.{◌<◌, not, sym, ap, subst}
use Rattle.form.specs.Lives.{subject, concerns_life}
use Rattle.form.proofs.Fields.{subject-small}
use Rattle.form.proofs.Lives.{life-passes, life-next}
use Rattle.form.proofs.Turning.{asked, not_asked}
use Rattle.form.proofs.life.LivesTurnRule.admits.Goals as goal

pub returns-in_default : goal.returns-in_default
returns-in_default c = λ xs n is l.
    let r = c.args.r.now in
    let p = life-passes xs n r is c.args.self.now.0 l (not_asked (concerns_life r.letter) (subject r) c.in_default.ensures) in
    (p.0, λ _. p.1)

pub returns : goal.returns
returns c = λ xs n is l.
    let r = c.args.r.now in
    let who = asked (concerns_life r.letter) (subject r) c.in-Some.thread c.in-Some.ensures in
    let p = life-next xs n r is c.args.self.now.0 l c.in-Some.thread who.0 who.1 (subst (λ u. u < 8) (sym who.1) (subject-small r (ap not c.requires.1) c.requires.0)) c.in-Some-next_life.state c.in-Some-next_life.ensures in
    (p.0, λ _. p.1)
