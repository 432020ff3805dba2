use Rattle.std.proofs.Common.{◌<◌, ◌≤◌, length, ap, arith, rules, tests}
use Rattle.std.proofs.lemmas.Iterator.{YieldsList-from_slice, YieldsList-from_range, YieldsList-from_zip, cases_from_all}
use Rattle.std.proofs.lemmas.Iterator.Consumers.{YieldsList-at}
use Rattle.records.specs.Names.{thread}
use Rattle.case.specs.Cases.{threads}
use Rattle.machines.specs.Run.{isNil}
use Rattle.machines.proofs.Lefts.{lefts, lefts-none, lefts-more}
use Rattle.machines.proofs.Spent.{spent_by}
use Rattle.machines.proofs.Threads.{thread_few}
use Rattle.machines.proofs.lists.Certificate.finished.Goals as goal

pub returns : goal.returns
returns c =
    let k = c.args.case.now in
    let cs = threads k in
    let lists = c.args.self.now.lists in
    spent_by (λ l. l.next) cs (lefts cs lists) lists (search rules)
    (λ t d h e. ap isNil (lefts-none cs lists t d (omega arith) e)) (λ t d h e. ap isNil (lefts-more cs lists t d (omega arith) (thread_few k t) e)) c.all.result
    (cases_from_all c.all.new.self _ c.all.result (λ p. length (thread cs p.1) ≤ p.0.next) (λ p. p.0.next < length (thread cs p.1)) c.all.ensures.ran
    (YieldsList-from_zip (YieldsList-at c.zip-lists.ensures.first (YieldsList-from_slice lists c.iter.ensures.rest)) (YieldsList-from_range 0 8 8 c.zip-lists.ensures.second (omega arith)))
    (λ x q k. search (rules, tests)) (λ x q k. search (rules, tests)))
