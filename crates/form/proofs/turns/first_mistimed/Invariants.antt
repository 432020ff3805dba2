use Rattle.std.proofs.Common.{◌≡◌, None}
use Rattle.records.specs.First.{Clear}
use Rattle.records.specs.Names.{at}
use Rattle.form.specs.Rules.{clashes, mistimed}
use Rattle.form.proofs.turns.first_mistimed.Given as goal

abbrev pub invariant-loop-y : goal.invariant-loop-y
invariant-loop-y l = Clear (λ j. clashes (at l.records l.k) (at l.records j)) l.y-index × (l.broken ≡ None)

abbrev pub invariant-records : goal.invariant-records
invariant-records l = Clear (mistimed l.records) l.k × (l.broken ≡ None)
