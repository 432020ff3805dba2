use Rattle.std.proofs.Common.{rules, tests, refl, ◌∙◌}
use Rattle.std.proofs.lemmas.Iterator.{YieldsList-from_slice}
use Rattle.std.proofs.lemmas.Iterator.Search.{position_from_yields_List}
use Rattle.records.specs.Names.{blank}
use Rattle.form.specs.Rules.{sees_no_write}
use Rattle.form.proofs.Positions.{first-position}
use Rattle.form.proofs.formed.WellFormed.first_unknown.Goals as goal

pub returns : goal.returns
returns c =
    position_from_yields_List (sees_no_write c.args.self.now.records.now) _ _ _ c.position.ensures.ran (YieldsList-from_slice _ c.iter.ensures.rest) (λ x b q k. search (rules, tests))
    ∙ first-position _ blank _ c.args.self.now.records.now (λ k l. refl)
