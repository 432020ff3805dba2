-- The loop of rule 11 knows the thread before and how many records each thread has had.
use Rattle.std.proofs.Common.{sym, ap, ◌∙◌, add-one}
use Rattle.std.proofs.lemmas.Bool.{or_parts}
use Rattle.records.specs.Names.{at}
use Rattle.records.proofs.Firsts.{clear-more}
use Rattle.form.specs.Rules.{before, stray}
use Rattle.form.proofs.Steps.{misplaced_is}
use Rattle.form.proofs.Layouts.{straight}
use Rattle.form.proofs.Refused.{refused_at, passed_all}
use Rattle.form.proofs.Tables.{counts-more}
use Rattle.form.proofs.grouping.Grouped.check.Goals as goal

pub returns-then-misplaces-clause-verdict : goal.returns-then-misplaces-clause-verdict
returns-then-misplaces-clause-verdict c =
    refused_at 11 _ _ _ c.loop-k-test.true
    (c.if-misplaces.ensures ∙ misplaced_is c.args.records.now c.loop-k.k c.loop-k.last c.loop-k.counts c.loop-k.invariant.1 c.loop-k.invariant.2)
    c.loop-k.invariant.0

pub loop-k-preserved : goal.loop-k-preserved
loop-k-preserved c =
    let xs = c.args.records.now in
    let k = c.loop-k.k in
    let e = c.if-misplaces.ensures in
    let small = (straight k (at xs k).thread c.loop-k.last (or_parts (stray k (at xs k).thread c.loop-k.last) _ (sym e)).0).small in (
      clear-more _ _ c.loop-k.invariant.0 (e ∙ misplaced_is xs k c.loop-k.last c.loop-k.counts c.loop-k.invariant.1 c.loop-k.invariant.2),
      ap (before xs) (sym (add-one k)),
      counts-more xs k c.loop-k.counts c.loop-k-test.true small c.loop-k.invariant.2,
    )

pub returns-clause-verdict : goal.returns-clause-verdict
returns-clause-verdict c = passed_all 11 _ _ _ c.loop-k-test.false c.loop-k.invariant.0
