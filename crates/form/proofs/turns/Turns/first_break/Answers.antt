-- The walk along the turns, for any rule: the turn that comes fits, or is the first that does not.
use Rattle.std.proofs.Common.{refl, sym, length-take, arith}
use Rattle.std.proofs.lemmas.Bool.{not-true, not-false}
use Rattle.records.proofs.Firsts.{clear-more}
use Rattle.form.proofs.Layouts.{thread_small}
use Rattle.form.proofs.Turning.{comes, stops, goes_through}
use Rattle.form.proofs.turns.Turns.first_break.Goals as goal

pub bounds-self-k : goal.bounds-self-k
bounds-self-k g c =
    let self = c.args.self.now in
    (comes self.formed.records.now self.takers self.count c.loop-k.k-index c.from-k.result self.taken c.loop-k-test.true c.from-k.ensures).within

pub admits-requires : goal.admits-requires
admits-requires g c =
    let self = c.args.self.now in
    let k = c.from-k.result in
    let t = comes self.formed.records.now self.takers self.count c.loop-k.k-index k self.taken c.loop-k-test.true c.from-k.ensures in
    (thread_small self.formed.records.now self.formed.grouped k t.within, not-false _ (self.formed.formed k t.within))

pub returns-then-not-admits : goal.returns-then-not-admits
returns-then-not-admits g c =
    let self = c.args.self.now in
    let xs = self.formed.records.now in
    let n = c.loop-k.k-index in
    let t = comes xs self.takers self.count n c.from-k.result self.taken c.loop-k-test.true c.from-k.ensures in
    let a = c.if-not-admits.ensures xs n t.is_turn c.loop-k.invariant.1 in
    stops g.R.TurnRule.breaks xs n self.count self.all c.loop-k.invariant.0 c.from-k.result t (omega (arith, length-take self.count self.takers)) (sym (not-false _ (sym a.0)))

pub loop-k-preserved : goal.loop-k-preserved
loop-k-preserved g c =
    let self = c.args.self.now in
    let xs = self.formed.records.now in
    let n = c.loop-k.k-index in
    let t = comes xs self.takers self.count n c.from-k.result self.taken c.loop-k-test.true c.from-k.ensures in
    let a = c.if-not-admits.ensures xs n t.is_turn c.loop-k.invariant.1 in
    (clear-more _ _ c.loop-k.invariant.0 (sym (not-true _ (sym a.0))), a.1 refl)

pub returns : goal.returns
returns g c =
    let self = c.args.self.now in
    goes_through g.R.TurnRule.breaks self.formed.records.now c.loop-k.k-index self.count self.all c.loop-k.invariant.0 (omega (arith, length-take self.count self.takers))
