use Rattle.std.proofs.Common.{◌≡◌, ◌≤◌, true, not, List, length, is_some, None, sym, ap, ◌∙◌, subst}
use Rattle.records.specs.declared.Record.{Record}
use Rattle.form.specs.Form.{form_refusal, in_form}
use Rattle.form.specs.Layouts.{starts_of}
use Rattle.form.proofs.Laws.{lawful}
use Rattle.case.proofs.checked.CheckedCase.fill.Goals as goal

-- records that are not refused are in form, and so few enough
formed : (xs : List Record) → None ≡ form_refusal xs → in_form xs ≡ true
formed xs e = ap (λ o. not (is_some o)) (sym e)

few : (xs : List Record) → None ≡ form_refusal xs → length xs ≤ 256
few xs e = (lawful xs (formed xs e)).few

pub padded-requires : goal.padded-requires
padded-requires c = few c.args.records.now c.in_ok-layout.ensures.verdict

pub invariant_of-self : goal.invariant_of-self
invariant_of-self c =
    let xs = c.args.records.now in
    let e = c.in_ok-layout.ensures.verdict in
    let p = c.padded.ensures in
    record {
      within = few xs e;
      formed = subst (λ l. in_form l ≡ true) (sym p) (formed xs e);
      laid = c.in_ok-layout.ensures.layout ∙ ap starts_of (sym p);
    }
