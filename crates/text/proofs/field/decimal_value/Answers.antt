use Rattle.std.proofs.Common.{◌+◌, ◌-◌, ◌*◌, get_or, sym, refl, ◌∙◌, arith}
use Rattle.std.proofs.lemmas.Bool.Decides.{nat_tests}
use Rattle.text.proofs.Numerals.{none_digit, none-large, some-whole, one_more}
use Rattle.text.proofs.field.decimal_value.Goals as goal
use Rattle.text.proofs.field.decimal_value.Goals.{in_default, in_default-2}

pub returns-then-not-is_ascii_digit-clause-value : goal.returns-then-not-is_ascii_digit-clause-value
returns-then-not-is_ascii_digit-clause-value c = none_digit c.args.most c.args.digits.now c.loop-b.b-index c.loop-b-test.true c.if-not-is_ascii_digit.ensures.cases

pub returns-in_err-checked_mul-clause-value : goal.returns-in_err-checked_mul-clause-value
returns-in_err-checked_mul-clause-value c =
    let s = c.args.digits.now in let i = c.loop-b.b-index in let digit = c.if-not-is_ascii_digit.ensures in
    let m = one_more c.args.most s i c.loop-b.n (c.loop-b.n * 10 + (get_or s i 0 - 48)) c.loop-b-test.true (sym digit.value) digit.cases c.loop-b.invariant.0 c.loop-b.invariant.1 refl in
    c.from_residual.ensures ∙ none-large c.args.most s (i + 1) _ m.0 (omega (arith, c.in_err-checked_mul.ensures))

pub returns-in_err-n-clause-value : goal.returns-in_err-n-clause-value
returns-in_err-n-clause-value c =
    let s = c.args.digits.now in let i = c.loop-b.b-index in let digit = c.if-not-is_ascii_digit.ensures in
    let m = one_more c.args.most s i c.loop-b.n (c.loop-b.n * 10 + (get_or s i 0 - 48)) c.loop-b-test.true (sym digit.value) digit.cases c.loop-b.invariant.0 c.loop-b.invariant.1 refl in
    c.from_residual-in_err-n.ensures ∙ none-large c.args.most s (i + 1) _ m.0 (omega (arith, c.in_err-n.ensures))

pub loop-b-preserved : goal.loop-b-preserved
loop-b-preserved c =
    let s = c.args.digits.now in let i = c.loop-b.b-index in let digit = c.if-not-is_ascii_digit.ensures in
    let m = one_more c.args.most s i c.loop-b.n (c.loop-b.n * 10 + (get_or s i 0 - 48)) c.loop-b-test.true (sym digit.value) digit.cases c.loop-b.invariant.0 c.loop-b.invariant.1 refl in
    (omega (arith, m.0, c.in_ok-n.ensures), m.1)

pub returns-then-n-most-clause-value : goal.returns-then-n-most-clause-value
returns-then-n-most-clause-value c =
    let s = c.args.digits.now in let i = c.loop-b.b-index in
    elim c.if-digits-lt2.branch [
      | in_default w ↦ some-whole c.args.most s i c.loop-b.n c.loop-b-test.false c.loop-b.invariant.0 c.loop-b.invariant.1 c.if-n-most.true (grind (arith, nat_tests)) (λ z. grind (arith, nat_tests))
      | in_default-2 w ↦ some-whole c.args.most s i c.loop-b.n c.loop-b-test.false c.loop-b.invariant.0 c.loop-b.invariant.1 c.if-n-most.true (grind (arith, nat_tests)) (λ z. grind (arith, nat_tests))
    ]
