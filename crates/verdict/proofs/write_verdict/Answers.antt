use Rattle.std.proofs.Common.{length, ap, ◌∙◌}
use Rattle.text.specs.Faults.{answered}
use Rattle.text.specs.Reports.{fitting}
use Rattle.text.specs.Writing.{written}
use Rattle.verdict.specs.Rows.{verdict_text}
use Rattle.verdict.proofs.write_verdict.Goals as goal

pub returns : goal.returns
returns c =
    let said = c.judge.ensures.value in
    let out = c.args.out.now in
    record {
      answer = c.write_judgement.ensures.answer ∙ ap (λ j. fitting (verdict_text j) (length out)) said;
      after = c.write_judgement.ensures.after ∙ ap (λ j. written (answered c.write_judgement.result) (verdict_text j) out) said;
      allowed = c.judge.ensures.allowed;
    }
