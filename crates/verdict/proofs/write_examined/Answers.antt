use Rattle.std.proofs.Common.{◌≡◌, true, false, cond, List, length, sym, ap, ◌∙◌}
use Rattle.records.specs.declared.Item.{Item}
use Rattle.records.specs.declared.Record.{Record}
use Rattle.case.specs.Cases.{records_of}
use Rattle.text.specs.Faults.{answered}
use Rattle.text.specs.Files.{evidence_text}
use Rattle.text.specs.Reports.{fitting}
use Rattle.text.specs.Writing.{written}
use Rattle.verdict.specs.Converting.{other_kind, delivered}
use Rattle.verdict.specs.Judging.{Judged, examined_as, is_allowed}
use Rattle.verdict.specs.Rows.{verdict_text}
use Rattle.verdict.proofs.Exactly.{allowed-examined}
use Rattle.verdict.proofs.write_examined.Goals as goal

-- what is delivered of a judgement that allows, and of one that does not
delivered-allowed : (rs : List Record) (is : List Item) (j : Judged) → j ≡ examined_as rs is → is_allowed j ≡ true → evidence_text (other_kind rs is) ≡ delivered rs is
delivered-allowed rs is j e a = ap (λ b. cond b (evidence_text (other_kind rs is)) (verdict_text (examined_as rs is))) (sym a ∙ ap is_allowed e)

delivered_else : (rs : List Record) (is : List Item) (j : Judged) → j ≡ examined_as rs is → is_allowed j ≡ false → verdict_text j ≡ delivered rs is
delivered_else rs is j e a =
    ap verdict_text e ∙ ap (λ b. cond b (evidence_text (other_kind rs is)) (verdict_text (examined_as rs is))) (sym a ∙ ap is_allowed e)

pub write_other_kind-requires : goal.write_other_kind-requires
write_other_kind-requires c =
    let said = c.examined-judgement.ensures.value in
    sym (allowed-examined (records_of c.args.case.now) c.args.items.now) ∙ ap is_allowed (sym said) ∙ sym c.if-is_allowed.ensures.value

pub returns-then-is_allowed : goal.returns-then-is_allowed
returns-then-is_allowed c =
    let text = delivered-allowed (records_of c.args.case.now) c.args.items.now _ c.examined-judgement.ensures.value (sym c.if-is_allowed.ensures.value) in
    let out = c.args.out.now in
    record {
      answer = c.write_other_kind.ensures.answer ∙ ap (λ s. fitting s (length out)) text;
      after = c.write_other_kind.ensures.after ∙ ap (λ s. written (answered c.write_other_kind.result) s out) text;
    }

pub returns : goal.returns
returns c =
    let text = delivered_else (records_of c.args.case.now) c.args.items.now _ c.examined-judgement.ensures.value (sym c.if-is_allowed.ensures.value) in
    let out = c.args.out.now in
    record {
      answer = c.write_judgement.ensures.answer ∙ ap (λ s. fitting s (length out)) text;
      after = c.write_judgement.ensures.after ∙ ap (λ s. written (answered c.write_judgement.result) s out) text;
    }
