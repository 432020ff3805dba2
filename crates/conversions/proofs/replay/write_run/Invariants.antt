use Rattle.case.specs.Cases.{threads}
use Rattle.machines.specs.Lists.{order_state}
use Rattle.conversions.specs.Replays.{nexts}
use Rattle.conversions.proofs.Replaying.{Replaying}
use Rattle.conversions.proofs.replay.write_run.Given as goal

-- what is left of the certificate leads to the whole run
abbrev pub invariant-loop-item : goal.invariant-loop-item
invariant-loop-item l =
    Replaying (threads l.case) l.certificate l.initial.sheet (order_state (threads l.case) l.checker) l.item-index
    (nexts l.next) l.sheet
