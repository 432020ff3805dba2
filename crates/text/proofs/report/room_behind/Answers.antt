use Rattle.std.proofs.Common.{length, arith, ap}
use Rattle.std.proofs.lemmas.List.{take_all}
use Rattle.std.proofs.lemmas.List.Sums.{sum_by_more_le}
use Rattle.text.specs.Reports.{cell_bytes}
use Rattle.text.proofs.Joined.{past, widths, length-report}
use Rattle.text.proofs.report.room_behind.Goals as goal

pub returns-in_err-left : goal.returns-in_err-left
returns-in_err-left c = rw c.from_residual-in_err-left.ensures (record { cases = omega (arith, length-report c.args.header.now c.args.row.now, c.in_err-left.ensures) })

pub returns-in_err-left-2 : goal.returns-in_err-left-2
returns-in_err-left-2 c = rw c.from_residual-in_err-left-2.ensures (record {
  cases = omega (arith, length-report c.args.header.now c.args.row.now, sum_by_more_le (λ x. length (cell_bytes x)) c.args.row.now c.loop-cell.cell-index past c.loop-cell-test.true, c.in_err-left-2.ensures);
})

pub returns : goal.returns
returns c = record { cases = omega (arith, length-report c.args.header.now c.args.row.now, ap widths (take_all c.loop-cell.cell-index c.args.row.now c.loop-cell-test.false)) }
