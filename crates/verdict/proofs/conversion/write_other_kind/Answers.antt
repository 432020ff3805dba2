use Rattle.std.proofs.Common.{◌≤◌, length, take, ◌∙◌, arith, length-take}
use Rattle.case.specs.Cases.{records_of}
use Rattle.verdict.proofs.Converting.{writes-other}
use Rattle.verdict.proofs.conversion.write_other_kind.Goals as goal

pub returns-clause-answer : goal.returns-clause-answer
returns-clause-answer c =
    let few : length (take c.convert-count.result c.convert-count.new.out) ≤ 4352 = omega (arith, length-take c.convert-count.result c.convert-count.new.out, c.convert-count.ensures.few) in
    c.write.ensures.answer ∙ writes-other (records_of c.args.case.now) c.args.evidence.now _ (length c.args.out.now) c.convert-count.ensures.list few
