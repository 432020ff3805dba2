-- Each thread starts where the one before it ends.
use Rattle.std.proofs.Common.{◌≡◌, ℕ, ◌+◌, ◌<◌, get_or, set, sym, refl, ap, ◌∙◌, subst, add-one, arith}
use Rattle.std.proofs.lemmas.List.Edits.{fill_by_more}
use Rattle.std.proofs.lemmas.List.{length-set, get_or-replicate}
use Rattle.records.specs.Names.{below}
use Rattle.records.proofs.Threads.{below_none, below_more}
use Rattle.form.proofs.Layouts.{few-records, grouped, below-within}
use Rattle.form.proofs.grouping.Grouped.layout.Goals as goal

pub loop-t-init : goal.loop-t-init
loop-t-init c =
    let xs = c.args.self.now.records.now in
    (refl, λ u l. get_or-replicate 9 u 0 0 (omega arith) ∙ sym (below_none 0 u xs (omega arith) (grouped xs c.args.self.now.grouped)))

pub overflow_add-starts : goal.overflow_add-starts
overflow_add-starts c =
    let xs = c.args.self.now.records.now in
    omega (arith, c.loop-t.invariant.1 c.loop-t.t (omega arith), c.args.self.now.counted c.loop-t.t c.loop-t-test.true, below-within c.loop-t.t xs, few-records xs c.args.self.now.grouped)

pub loop-t-preserved : goal.loop-t-preserved
loop-t-preserved c =
    let xs = c.args.self.now.records.now in
    let t = c.loop-t.t in
    let next : get_or c.loop-t.starts t 0 + get_or c.args.self.now.counts t 0 ≡ below (t + 1) xs =
    (λ i. c.loop-t.invariant.1 t (omega arith) i + c.args.self.now.counted t c.loop-t-test.true i) ∙ sym (below_more t xs) ∙ ap (λ u. below u xs) (sym (add-one t)) in (
      length-set c.loop-t.starts _ _ ∙ c.loop-t.invariant.0,
      subst (λ v. (u : ℕ) → u < t + 1 + 1 → get_or (set c.loop-t.starts (t + 1) v) u 0 ≡ below u xs) (sym next)
          (fill_by_more (λ u. below u xs) c.loop-t.starts (t + 1) 0 (omega (arith, c.loop-t.invariant.0, c.loop-t-test.true)) c.loop-t.invariant.1),
    )
