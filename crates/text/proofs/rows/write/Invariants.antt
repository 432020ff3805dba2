use Rattle.text.specs.Writing.{Wrote}
use Rattle.text.proofs.Writer.{Lines}
use Rattle.text.proofs.rows.write.Given as goal

-- the lines of the rows so far are written behind the header
abbrev pub invariant-loop-row : goal.invariant-loop-row
invariant-loop-row g l = Wrote l.initial.text l.text (Lines g.R.Row.sheet g.R.Row.cells l.rows l.row-index)
