use Rattle.std.proofs.Common.{◌≡◌, length, take}
use Rattle.text.proofs.Writer.{Front, Fits}
use Rattle.text.proofs.rows.measure.Given as goal

-- the text of the rows so far
abbrev pub invariant-loop-row : goal.invariant-loop-row
invariant-loop-row g l =
    (l.total ≡ length (Front g.R.Row.sheet g.R.Row.cells l.rows l.row-index))
    × Fits g.R.Row.sheet g.R.Row.cells l.rows (take l.row-index l.rows)
