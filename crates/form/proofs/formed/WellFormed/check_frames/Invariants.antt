use Rattle.records.specs.First.{Clear}
use Rattle.form.specs.Rules.{misframed}
use Rattle.form.proofs.Steps.{Framed}
use Rattle.form.proofs.formed.WellFormed.check_frames.Given as goal

abbrev pub invariant-loop-k : goal.invariant-loop-k
invariant-loop-k l = Clear (misframed l.self.records.now) l.k × Framed l.self.records.now l.k l.frames
