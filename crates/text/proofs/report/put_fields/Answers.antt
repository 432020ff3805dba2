use Rattle.std.proofs.Common.{sym, subst, arith}
use Rattle.text.specs.declared.put.Writer.{Writer}
use Rattle.text.specs.Writing.{HasRoom, Wrote}
use Rattle.text.proofs.Joined.{Field, comma-fits, first-fits, first-wrote, more-fits, more-wrote}
use Rattle.text.proofs.report.put_fields.Goals as goal
use Rattle.text.proofs.report.put_fields.Goals.{then-i-gt0, else-i-gt0}

pub byte-requires : goal.byte-requires
byte-requires c = comma-fits c.args.row.now c.loop-i.i c.loop-i-test.true c.requires c.loop-i.invariant c.if-i-gt0.true

pub put-requires : goal.put-requires
put-requires c =
    elim c.if-i-gt0.branch [
      | then-i-gt0 w ↦ subst (λ (t : Writer). HasRoom t (Field c.args.row.now c.loop-i.i)) (sym w.text-is) (more-fits c.args.row.now c.loop-i.i c.loop-i-test.true c.requires c.loop-i.invariant w.if-i-gt0.true w.byte.ensures.wrote)
      | else-i-gt0 w ↦ subst (λ (t : Writer). HasRoom t (Field c.args.row.now c.loop-i.i)) (sym w.text-is) (first-fits c.args.row.now c.loop-i.i c.loop-i-test.true c.requires c.loop-i.invariant (omega (arith, w.if-i-gt0.false)))
    ]

pub loop-i-preserved : goal.loop-i-preserved
loop-i-preserved c =
    elim c.if-i-gt0.branch [
      | then-i-gt0 w ↦ more-wrote c.args.row.now c.loop-i.i c.loop-i-test.true c.requires c.loop-i.invariant w.if-i-gt0.true w.byte.ensures.wrote (subst (λ (t : Writer). Wrote t c.put.new.text (Field c.args.row.now c.loop-i.i)) w.text-is c.put.ensures.wrote)
      | else-i-gt0 w ↦ first-wrote c.args.row.now c.loop-i.i c.loop-i-test.true c.requires c.loop-i.invariant (omega (arith, w.if-i-gt0.false)) (subst (λ (t : Writer). Wrote t c.put.new.text (Field c.args.row.now c.loop-i.i)) w.text-is c.put.ensures.wrote)
    ]
