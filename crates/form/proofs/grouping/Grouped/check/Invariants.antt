use Rattle.std.proofs.Common.{◌≡◌}
use Rattle.records.specs.First.{Clear}
use Rattle.form.specs.Rules.{before, misplaced}
use Rattle.form.proofs.Tables.{Counts}
use Rattle.form.proofs.grouping.Grouped.check.Given as goal

abbrev pub invariant-loop-k : goal.invariant-loop-k
invariant-loop-k l = Clear (misplaced l.records) l.k × (l.last ≡ before l.records l.k) × Counts l.records l.k l.counts
