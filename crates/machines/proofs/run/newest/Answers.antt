use Rattle.std.proofs.Common.{◌≡◌, ℕ, eqb, Bor, Option, sym, ap, ◌∙◌, rules, tests}
use Rattle.std.specs.Option.{option_map}
use Rattle.std.proofs.lemmas.Iterator.Adapters.{YieldsList-from_rev_slice}
use Rattle.std.proofs.lemmas.Iterator.Search.{find_from_yields_List}
use Rattle.machines.specs.declared.rows.PendingWrite.{PendingWrite}
use Rattle.machines.specs.Rows.{newest_of}
use Rattle.machines.proofs.Windows.{newest_found}
use Rattle.machines.proofs.run.newest.Goals as goal
use Rattle.machines.proofs.run.newest.Goals.{After-find}

abbrev place_in : Option (Bor PendingWrite) → Option ℕ
place_in o = option_map (λ w. w.place) (option_map (λ w. w.now) o)

found : (c : After-find) → place_in c.find.result ≡ newest_of c.args.location c.args.waiting.now
found c =
    ap (option_map (λ w. w.place))
    (find_from_yields_List (λ w. eqb w.location c.args.location) _ _ c.find.result c.find.ensures.ran (YieldsList-from_rev_slice c.args.waiting.now (cc)) (λ x b q k. search (rules, tests)))
    ∙ newest_found c.args.location c.args.waiting.now

pub returns-in_err-write : goal.returns-in_err-write
returns-in_err-write c = c.from_residual.ensures ∙ sym (ap place_in c.in_err-write.was) ∙ found (goal.at.returns-in_err-write c).After-find

pub returns : goal.returns
returns c = sym (ap place_in c.in_ok-write.was) ∙ found (goal.at.returns c).After-find
