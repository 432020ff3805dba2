-- No turn is taken twice and none is left out, so the table names who takes each.
use Rattle.std.proofs.Common.{◌+◌, ◌-◌, sym, subst, arith}
use Rattle.std.proofs.lemmas.List.Sums.{length-filter, count_by-le-length}
use Rattle.records.specs.Letters.{is_capital}
use Rattle.records.specs.Names.{at}
use Rattle.records.proofs.Firsts.{none-clear}
use Rattle.form.proofs.Fields.{turn_range}
use Rattle.form.proofs.Layouts.{few-records}
use Rattle.form.proofs.Turning.{Takers, takers-pass, takers_more, all_taken}
use Rattle.form.proofs.turns.Turns.check.Goals as goal
use Rattle.form.proofs.turns.Turns.check.Goals.{then-is_capital, else-is_capital}

pub overflow_sub-takers : goal.overflow_sub-takers
overflow_sub-takers c = omega (arith, turn_range (at c.args.formed.records.now c.loop-k.k) (c.args.formed.formed c.loop-k.k c.loop-k-test.true) (sym c.if-is_capital.ensures))

pub bounds-takers-r : goal.bounds-takers-r
bounds-takers-r c = omega (arith, turn_range (at c.args.formed.records.now c.loop-k.k) (c.args.formed.formed c.loop-k.k c.loop-k-test.true) (sym c.if-is_capital.ensures))

pub loop-k-preserved : goal.loop-k-preserved
loop-k-preserved c =
    let xs = c.args.formed.records.now in
    let formed = c.args.formed.formed in
    let k = c.loop-k.k in
    elim c.if-is_capital.branch [
      | then-is_capital w ↦
          let e = sym w.if-is_capital.ensures in
          let r = turn_range (at xs k) (formed k c.loop-k-test.true) e in
          subst (Takers xs (k + 1)) (sym w.takers-is)
          (takers_more xs k c.loop-k.takers c.loop-k.invariant formed (none-clear _ _ (sym c.in_default.ensures)) ((at xs k).turn - 1) (omega arith) (c.loop-k-test.true, e, omega arith))
      | else-is_capital w ↦ subst (Takers xs (k + 1)) (sym w.takers-is) (takers-pass xs k c.loop-k.takers c.loop-k.invariant (sym w.if-is_capital.ensures))
    ]

pub invariant_of-result : goal.invariant_of-result
invariant_of-result c =
    let xs = c.args.formed.records.now in
    record {
      within = omega (arith, c.loop-k.invariant.0, c.count_capitals-count.ensures, length-filter (λ r. is_capital r.letter) xs, count_by-le-length (λ r. is_capital r.letter) xs, few-records xs c.args.formed.grouped);
      all = c.count_capitals-count.ensures;
      taken = λ n l. all_taken xs c.loop-k.k c.loop-k.takers c.loop-k.invariant c.loop-k-test.false c.args.formed.formed (none-clear _ _ (sym c.in_default.ensures)) n (omega (arith, c.count_capitals-count.ensures));
    }
