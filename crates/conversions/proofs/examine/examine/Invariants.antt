use Rattle.conversions.proofs.examine.examine.Given as goal
use Rattle.machines.proofs.Examining.{Examining}

-- what is left of the evidence gives the answer
abbrev pub invariant-loop-place : goal.invariant-loop-place
invariant-loop-place g l = Examining (g.K.Evidence.machine l.case) l.evidence (g.K.Evidence.state l.case l.checker) l.place-counter
