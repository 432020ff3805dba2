-- The loop of rule 16 keeps where each thread stands.
use Rattle.std.proofs.Common.{◌≡◌, not, is_some, None, Err, sym, ap, ◌∙◌, arith}
use Rattle.std.specs.Option.{ok_or}
use Rattle.std.specs.Result.{result_ok}
use Rattle.std.proofs.lemmas.Result.{err_from_is_err_and}
use Rattle.records.proofs.Firsts.{clear-more}
use Rattle.form.specs.declared.fault.FormFault.TheVariants.{Frame}
use Rattle.form.specs.Form.{refusal_in}
use Rattle.form.proofs.Steps.{frames-fresh, misframed_is, frames-next}
use Rattle.form.proofs.Layouts.{thread_small}
use Rattle.form.proofs.Refused.{refused_at, passed_all}
use Rattle.form.proofs.formed.WellFormed.check_frames.Goals as goal

pub loop-k-init : goal.loop-k-init
loop-k-init c = (λ k l. absurd (omega arith), frames-fresh c.args.self.now.records.now)

pub returns-in_err-frame : goal.returns-in_err-frame
returns-in_err-frame c =
    let xs = c.args.self.now.records.now in
    let k = c.loop-k.k in
    let l = thread_small xs c.args.self.now.grouped k c.loop-k-test.true in
    let none : None ≡ c.after.result = sym (ap result_ok c.in_err-frame.was) ∙ sym c.ok_or.ensures.ok_part in
    let p = err_from_is_err_and c.from_residual.result c.from_residual.ensures.1 in
    let f : Err (Frame k) ≡ Err c.in_err-frame.field-0.0 = ap (λ o. ok_or o (Frame k)) none ∙ sym c.ok_or.ensures.value ∙ c.in_err-frame.was in
    let same : c.in_err-frame.field-0.0 ≡ Frame k = cc in
    ap refusal_in (p.1 ∙ ap (λ y. Err y) (p.2 ∙ same))
    ∙ refused_at 16 _ _ _ c.loop-k-test.true
    (ap (λ o. not (is_some o)) (none ∙ c.after.ensures) ∙ misframed_is xs k l c.loop-k.frames c.loop-k.invariant.1) c.loop-k.invariant.0

pub loop-k-preserved : goal.loop-k-preserved
loop-k-preserved c =
    let xs = c.args.self.now.records.now in
    let k = c.loop-k.k in
    let l = thread_small xs c.args.self.now.grouped k c.loop-k-test.true in
    let some = sym (ap result_ok c.in_ok-frame.was) ∙ sym c.ok_or.ensures.ok_part ∙ c.after.ensures in (
      clear-more _ _ c.loop-k.invariant.0 (ap (λ o. not (is_some o)) some ∙ misframed_is xs k l c.loop-k.frames c.loop-k.invariant.1),
      frames-next xs k l c.loop-k.frames c.loop-k.invariant.1 c.in_ok-frame.field-0 some,
    )

pub returns : goal.returns
returns c = passed_all 16 _ _ _ c.loop-k-test.false c.loop-k.invariant.0
