use Rattle.text.proofs.Reader.{Sofar}
use Rattle.text.proofs.rows.read.Given as goal

abbrev pub invariant-loop-next : goal.invariant-loop-next
invariant-loop-next g l =
    (goal.iterator-loop-next g).can_next l.next-iterator
    × (goal.iterator-loop-next g).is_finite l.next-iterator
    × Sofar g.R.Row.sheet g.R.Row.cells g.R.Row.row l.text l.initial.rows l.rows l.count l.next-iterator.rest.now
