use Rattle.std.proofs.Common.{length, ap, arith}
use Rattle.std.proofs.lemmas.Fmt.{decimal_digit, decimal_nonempty}
use Rattle.text.proofs.Numerals.{length-step}
use Rattle.text.proofs.Places.{one_digit, more-digits}
use Rattle.text.proofs.put.+put_number.Goals as goal

pub bounds-out-at : goal.bounds-out-at
bounds-out-at t c = omega (arith, decimal_nonempty c.args.n (omega arith))

pub returns-then-n-lt10 : goal.returns-then-n-lt10
returns-then-n-lt10 t c =
    record {
      end = omega (arith, ap length (decimal_digit c.args.n (omega arith)));
      bytes = one_digit c.args.out.now c.args.at c.args.n (omega arith) (omega (arith, decimal_nonempty c.args.n (omega arith)));
    }

pub put_number-end-requires : goal.put_number-end-requires
put_number-end-requires t c = (omega arith, omega (arith, length-step c.args.n (omega arith) (omega arith)))

pub bounds-out-end : goal.bounds-out-end
bounds-out-end t c = omega (arith, length-step c.args.n (omega arith) (omega arith))

pub overflow_add-result-2 : goal.overflow_add-result-2
overflow_add-result-2 t c = record { fits = omega (arith, length-step c.args.n (omega arith) (omega arith)) }

pub returns : goal.returns
returns t c =
    record {
      end = omega (arith, length-step c.args.n (omega arith) (omega arith));
      bytes = more-digits c.args.out.now _ c.args.at _ c.args.n (omega arith) (omega arith) (omega arith) c.put_number-end.ensures.end c.put_number-end.ensures.bytes;
    }
