use Rattle.form.proofs.Turning.{Takers}
use Rattle.form.proofs.turns.Turns.check.Given as goal

abbrev pub invariant-loop-k : goal.invariant-loop-k
invariant-loop-k l = Takers l.formed.records.now l.k l.takers
