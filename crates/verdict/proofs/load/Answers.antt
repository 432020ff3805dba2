use Rattle.std.proofs.Common.{◌≡◌, ◌≤◌, length, ap, ◌∙◌, arith, length-take}
use Rattle.std.proofs.lemmas.Result.{err_from_is_err_and}
use Rattle.text.specs.Files.{record_of, item_of, evidence_reading}
use Rattle.text.specs.Reading.{answer_of}
use Rattle.verdict.proofs.Reading.{in_front, ended_badly}
use Rattle.verdict.proofs.Layers.{case_decides, evidence_decides, form_decides, all_loaded}
use Rattle.verdict.proofs.load.Goals as goal

pub returns-in-Err : goal.returns-in-Err
returns-in-Err c = record { loaded = case_decides c.args.case_text.now c.args.evidence_text.now _ (ended_badly _ _ _ c.in-Err.ensures.answer) }

pub returns-in-Err-read : goal.returns-in-Err-read
returns-in-Err-read c =
    let full : length c.args.items.now ≡ 4352 = omega arith in
    let cases = in_front record_of _ _ _ _ c.in-Ok.ensures.answer c.in-Ok.ensures.after in
    let read = c.in-Err-read.ensures.answer ∙ ap (λ room. answer_of (evidence_reading room c.args.evidence_text.now)) full in
    record { loaded = evidence_decides c.args.case_text.now c.args.evidence_text.now _ cases.ends (ended_badly _ _ _ read) }

pub slice_bounds-records-end : goal.slice_bounds-records-end
slice_bounds-records-end c = (in_front record_of _ _ _ _ c.in-Ok.ensures.answer c.in-Ok.ensures.after).few

pub slice_bounds-fill-end : goal.slice_bounds-fill-end
slice_bounds-fill-end c =
    let few : c.in-Ok.count ≤ length c.read.new.rows = (in_front record_of _ _ _ _ c.in-Ok.ensures.answer c.in-Ok.ensures.after).few in
    omega (arith, length-take c.in-Ok.count c.read.new.rows)

pub returns-in_err-fill : goal.returns-in_err-fill
returns-in_err-fill c =
    let p = err_from_is_err_and c.from_residual.result c.from_residual.ensures.1 in
    let full : length c.args.items.now ≡ 4352 = omega arith in
    let cases = in_front record_of _ _ _ _ c.in-Ok.ensures.answer c.in-Ok.ensures.after in
    let items = in_front item_of _ _ _ _ c.in-Ok-read.ensures.answer c.in-Ok-read.ensures.after in
    let read = form_decides c.args.case_text.now c.args.evidence_text.now c.in-Ok.count c.in-Ok-read.taken c.read.new.rows c.read-2.new.rows cases _ full items in
    rw (p.1, p.2) (record { loaded = read _ c.in_err-fill.ensures.verdict })

pub returns : goal.returns
returns c =
    let full : length c.args.items.now ≡ 4352 = omega arith in
    let cases = in_front record_of _ _ _ _ c.in-Ok.ensures.answer c.in-Ok.ensures.after in
    let items = in_front item_of _ _ _ _ c.in-Ok-read.ensures.answer c.in-Ok-read.ensures.after in
    let read = all_loaded c.args.case_text.now c.args.evidence_text.now c.in-Ok.count c.in-Ok-read.taken c.read.new.rows c.read-2.new.rows cases _ full items in
    let filling = c.in_ok-fill.ensures in
    record { loaded = read _ _ filling.verdict filling.after }
