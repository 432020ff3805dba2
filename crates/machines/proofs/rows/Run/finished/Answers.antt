use Rattle.std.proofs.Common.{◌<◌, ◌≤◌, length, ap, ◌∙◌, arith, rules, tests}
use Rattle.std.proofs.lemmas.Iterator.{YieldsList-from_slice, YieldsList-from_range, YieldsList-from_zip, cases_from_all}
use Rattle.std.proofs.lemmas.Iterator.Consumers.{YieldsList-at}
use Rattle.records.specs.Names.{thread}
use Rattle.case.specs.Cases.{threads}
use Rattle.machines.specs.Rows.{run_state}
use Rattle.machines.specs.Run.{isNil}
use Rattle.machines.proofs.RunStates.{rest_is}
use Rattle.machines.proofs.Spent.{spent_by}
use Rattle.machines.proofs.Threads.{drop-short, drop-long}
use Rattle.machines.proofs.rows.Run.finished.Goals as goal

pub returns : goal.returns
returns c =
    let cs = threads c.args.case.now in
    let m = c.args.self.now in
    spent_by (λ r. r.window.next) cs (run_state cs m).rest m.rows (search rules)
    (λ k d h e. ap isNil (rest_is cs m k (omega arith) d) ∙ drop-long (thread cs k) _ e) (λ k d h e. ap isNil (rest_is cs m k (omega arith) d) ∙ drop-short (thread cs k) _ e) c.all.result
    (cases_from_all c.all.new.self _ c.all.result (λ p. length (thread cs p.1) ≤ p.0.window.next) (λ p. p.0.window.next < length (thread cs p.1)) c.all.ensures.ran
    (YieldsList-from_zip (YieldsList-at c.zip-rows.ensures.first (YieldsList-from_slice m.rows c.iter.ensures.rest)) (YieldsList-from_range 0 8 8 c.zip-rows.ensures.second (omega arith)))
    (λ x q k. search (rules, tests)) (λ x q k. search (rules, tests)))
