use Rattle.std.proofs.Common.{ap, ◌-◌, ◌∙◌, length, take, drop, subst, sym, ◌≤◌, arith}
use Rattle.form.proofs.Laws.{lawful}
use Rattle.case.specs.Cases.{records_of}
use Rattle.case.proofs.Slots.{thread-long, part}
use Rattle.case.proofs.checked.CheckedCase.thread.Goals as goal

pub slice_bounds-result-count : goal.slice_bounds-result-count
slice_bounds-result-count c =
    let self = c.args.self.now in
    (part (records_of self) self.formed self.layout.starts self.laid c.args.thread _ _ c.range.ensures.start c.range.ensures.end).up

pub slice_bounds-result-start : goal.slice_bounds-result-start
slice_bounds-result-start c =
    let self = c.args.self.now in
    (part (records_of self) self.formed self.layout.starts self.laid c.args.thread _ _ c.range.ensures.start c.range.ensures.end).up

pub slice_bounds-result-end : goal.slice_bounds-result-end
slice_bounds-result-end c =
    let self = c.args.self.now in
    omega (arith, (part (records_of self) self.formed self.layout.starts self.laid c.args.thread _ _ c.range.ensures.start c.range.ensures.end).within, ap length c.records.ensures.value)

pub returns : goal.returns
returns c =
    let self = c.args.self.now in
    let t = c.args.thread in
    let p = part (records_of self) self.formed self.layout.starts self.laid t _ _ c.range.ensures.start c.range.ensures.end in
    let e = ap (λ xs. take (c.range.result.end - c.range.result.start) (drop c.range.result.start xs)) c.records.ensures.value ∙ p.is in
    record {
      value = e;
      len = ap length e ∙ thread-long (records_of self) self.formed t;
      few = subst (λ l. length l ≤ 64) (sym e) ((lawful (records_of self) self.formed).thread_few t);
    }
