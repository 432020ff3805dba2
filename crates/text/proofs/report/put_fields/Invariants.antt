use Rattle.text.specs.Writing.{Wrote}
use Rattle.text.proofs.Joined.{Fields}
use Rattle.text.proofs.report.put_fields.Given as goal

-- the fields so far are written
abbrev pub invariant-loop-i : goal.invariant-loop-i
invariant-loop-i l = Wrote l.initial.text l.text (Fields l.row l.i)
