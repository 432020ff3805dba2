-- The loop of rule 13 keeps the sort of each location.
use Rattle.std.proofs.Common.{sym, ◌∙◌, arith}
use Rattle.records.specs.Names.{at}
use Rattle.records.proofs.Firsts.{clear-more}
use Rattle.form.proofs.Fields.{target_small}
use Rattle.form.proofs.Steps.{sorts-fresh, unmixed, sorts-stay, differs-mixed, sorts-next}
use Rattle.form.proofs.Refused.{refused_at, passed_all}
use Rattle.form.proofs.formed.WellFormed.check_locations.Goals as goal

pub loop-k-init : goal.loop-k-init
loop-k-init c = (λ k l. absurd (omega arith), sorts-fresh c.args.self.now.records.now)

pub loop-k-preserved-in_default : goal.loop-k-preserved-in_default
loop-k-preserved-in_default c =
    let xs = c.args.self.now.records.now in
    let k = c.loop-k.k in
    let l = target_small (at xs k) (c.args.self.now.formed k c.loop-k-test.true) in
    let e = sym c.in_default.is ∙ c.of.ensures in (
      clear-more _ _ c.loop-k.invariant.0 (unmixed xs k l c.loop-k.sorts c.loop-k.invariant.1 e),
      sorts-stay xs k l c.loop-k.sorts c.loop-k.invariant.1 e,
    )

pub returns-then-ne : goal.returns-then-ne
returns-then-ne c =
    let xs = c.args.self.now.records.now in
    let k = c.loop-k.k in
    let l = target_small (at xs k) (c.args.self.now.formed k c.loop-k-test.true) in
    refused_at 13 _ _ _ c.loop-k-test.true
    (c.if-ne.ensures ∙ differs-mixed xs k l c.loop-k.sorts c.loop-k.invariant.1 _ (sym c.in-Some.is ∙ c.of.ensures) _ c.get_or_insert.ensures.value)
    c.loop-k.invariant.0

pub loop-k-preserved : goal.loop-k-preserved
loop-k-preserved c =
    let xs = c.args.self.now.records.now in
    let k = c.loop-k.k in
    let l = target_small (at xs k) (c.args.self.now.formed k c.loop-k-test.true) in
    let e = sym c.in-Some.is ∙ c.of.ensures in
    let v = c.get_or_insert.ensures.value in
    let same = c.if-ne.ensures ∙ differs-mixed xs k l c.loop-k.sorts c.loop-k.invariant.1 _ e _ v in
    (clear-more _ _ c.loop-k.invariant.0 same, sorts-next xs k l c.loop-k.sorts c.loop-k.invariant.1 _ e _ v same)

pub returns : goal.returns
returns c = passed_all 13 _ _ _ c.loop-k-test.false c.loop-k.invariant.0
