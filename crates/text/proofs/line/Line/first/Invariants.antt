use Rattle.std.proofs.Common.{◌≡◌, ◌+◌, eqb, take, count_by}
use Rattle.text.specs.Csv.{comma, cr, lf}
use Rattle.text.proofs.Splits.{Free}
use Rattle.text.proofs.line.Line.first.Given as goal

-- no byte of a line's end so far, and the commas are counted
abbrev pub invariant-loop-i : goal.invariant-loop-i
invariant-loop-i l =
    Free cr (take l.i l.text) × Free lf (take l.i l.text) × (l.fields ≡ count_by (λ x. eqb x comma) (take l.i l.text) + 1)
