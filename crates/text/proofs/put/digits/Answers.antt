use Rattle.std.proofs.Common.{length, sym, ap, arith}
use Rattle.std.proofs.lemmas.Fmt.{decimal_digit, length-decimal-le}
use Rattle.text.proofs.Numerals.{length-by_power}
use Rattle.text.proofs.put.digits.Goals as goal

pub returns-in-Some-clause-value : goal.returns-in-Some-clause-value
returns-in-Some-clause-value c = sym (length-by_power c.in-Some.log c.args.n c.in-Some.ensures.power_le c.in-Some.ensures.next_power_gt (omega arith))

pub returns-in-Some-clause-short : goal.returns-in-Some-clause-short
returns-in-Some-clause-short c = λ below.
    omega (arith, length-by_power c.in-Some.log c.args.n c.in-Some.ensures.power_le c.in-Some.ensures.next_power_gt (omega arith), length-decimal-le 10 c.args.n (omega arith) (omega arith) (omega arith))

pub returns-in-None-clause-value : goal.returns-in-None-clause-value
returns-in-None-clause-value c = sym (ap length (decimal_digit c.args.n (omega (arith, c.in-None.ensures.none))))
