use Rattle.records.specs.First.{Clear}
use Rattle.form.proofs.turns.Turns.first_break.Given as goal

abbrev pub invariant-loop-k : goal.invariant-loop-k
invariant-loop-k g l = Clear (g.R.TurnRule.breaks l.self.formed.records.now) l.k-index × g.R.TurnRule.Kept l.self.formed.records.now l.k-index l.rule
