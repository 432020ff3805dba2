use Rattle.std.proofs.Common.{false, refl, arith}
use Rattle.case.specs.Cases.{records_of, threads}
use Rattle.case.proofs.Slots.{thread-none}
use Rattle.machines.proofs.Lefts.{lefts-fresh}
use Rattle.machines.proofs.Threads.{thread_few}
use Rattle.machines.proofs.lists.Certificate.new.Goals as goal

pub returns : goal.returns
returns c k =
    let e = lefts-fresh (threads k) (record { next = 0; places = c.loop-at.place-items; within = omega arith; full = omega arith }) refl (λ i h. c.loop-at.invariant i (omega arith)) (thread_few k) (thread-none (records_of k)) in
    λ i. record { begun = false; left = e i; memory = c.fresh.ensures.writes i; turns = c.fresh.ensures.turns i }
