use Rattle.records.specs.First.{Clear}
use Rattle.form.specs.Rules.{mixed}
use Rattle.form.proofs.Steps.{Sorted}
use Rattle.form.proofs.formed.WellFormed.check_locations.Given as goal

abbrev pub invariant-loop-k : goal.invariant-loop-k
invariant-loop-k l = Clear (mixed l.self.records.now) l.k × Sorted l.self.records.now l.k l.sorts
