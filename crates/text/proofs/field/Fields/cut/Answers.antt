use Rattle.std.proofs.Common.{◌≡◌, ◌+◌, false, ◌&&◌, get_or, take, sym, ap, ◌∙◌}
use Rattle.std.specs.Char.{is_ascii_digit}
use Rattle.std.specs.Str.{all_ascii_digits}
use Rattle.std.proofs.lemmas.List.{take_more, take_all}
use Rattle.text.specs.Csv.{comma, first_of, rest_of}
use Rattle.text.specs.Fields.{kind_of}
use Rattle.text.proofs.Numerals.{digits_push}
use Rattle.text.proofs.Scans.{Found, free_more, none_found, first_field, other-fields, only_field}
use Rattle.text.proofs.field.Fields.cut.Goals as goal
use Rattle.text.proofs.field.Fields.cut.Goals.{then-digits, else-digits}

pub returns-then-b-eq44 : goal.returns-then-b-eq44
returns-then-b-eq44 c =
    let s = c.args.self.now.rest.now in
    let found : Found comma s c.loop-i.i = record { inside = c.loop-i-test.true; before = c.loop-i.invariant.0; is = c.if-b-eq44.true } in
    record {
      field = c.of.ensures.value ∙ ap kind_of (first_field s _ found);
      one = record { fields = other-fields s _ found; line = c.loop-i.invariant.2 };
    }

pub loop-i-preserved : goal.loop-i-preserved
loop-i-preserved c =
    let s = c.args.self.now.rest.now in let i = c.loop-i.i in
    let more : all_ascii_digits (take (i + 1) s) ≡ (all_ascii_digits (take i s) && is_ascii_digit (get_or s i 0)) = ap all_ascii_digits (take_more s i 0 c.loop-i-test.true) ∙ digits_push (take i s) (get_or s i 0) in (
      free_more s i c.loop-i-test.true comma c.loop-i.invariant.0 c.if-b-eq44.false,
      elim c.if-digits.branch [
        | then-digits w ↦ let t : is_ascii_digit (get_or s i 0) ≡ all_ascii_digits (take (i + 1) s) = ap (λ b. b && is_ascii_digit (get_or s i 0)) (sym w.if-digits.true ∙ c.loop-i.invariant.1) ∙ sym more in cc
        | else-digits w ↦ let t : false ≡ all_ascii_digits (take (i + 1) s) = ap (λ b. b && is_ascii_digit (get_or s i 0)) (sym w.if-digits.false ∙ c.loop-i.invariant.1) ∙ sym more in cc
      ],
      c.loop-i.invariant.2,
    )

pub of-requires-2 : goal.of-requires-2
of-requires-2 c = c.loop-i.invariant.1 ∙ ap all_ascii_digits (take_all c.loop-i.i c.args.self.now.rest.now c.loop-i-test.false)

pub returns : goal.returns
returns c =
    let s = c.args.self.now.rest.now in
    let whole = only_field s (none_found comma s c.loop-i.i c.loop-i-test.false c.loop-i.invariant.0) in
    record {
      field = c.of-2.ensures.value ∙ ap (λ ps. kind_of (first_of ps)) (sym whole);
      one = record { fields = sym (ap rest_of whole); line = c.loop-i.invariant.2 };
    }
