use Rattle.std.proofs.Common.{◌≡◌, ◌-◌, map, length}
use Rattle.records.specs.Names.{thread}
use Rattle.case.specs.Cases.{threads}
use Rattle.machines.specs.Certificate.{move_at}
use Rattle.machines.specs.Lists.{action_at}
use Rattle.machines.specs.Machine.{answer}
use Rattle.machines.proofs.Moves.{asked}
use Rattle.machines.proofs.certificate.passes.Given as goal

-- what is left to look at gives the answer
abbrev pub invariant-loop-place : goal.invariant-loop-place
invariant-loop-place l =
    asked (action_at (thread (threads l.case) l.thread)) l.places l.name l.location l.place-index
    ≡ answer (move_at 0 (length l.places - 2) (map (action_at (thread (threads l.case) l.thread)) l.places))
