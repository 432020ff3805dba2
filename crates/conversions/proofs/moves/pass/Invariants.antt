use Rattle.conversions.proofs.Passes.{Left}
use Rattle.conversions.proofs.moves.pass.Given as goal

abbrev pub invariant-loop-host : goal.invariant-loop-host
invariant-loop-host l = Left l.thread l.place l.passed l.initial.sheet l.host-iterator.iter.rest.now l.before l.sheet
