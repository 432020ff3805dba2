use Rattle.std.proofs.Common.{ℕ, ◌∙◌}
use Rattle.records.specs.declared.action.Action.{Action}
use Rattle.records.specs.Names.{thread}
use Rattle.case.specs.Cases.{threads}
use Rattle.case.specs.declared.checked.CheckedCase.{CheckedCase}
use Rattle.machines.specs.Lists.{action_at}
use Rattle.machines.proofs.Moves.{asked-carried, asked_not_carried}
use Rattle.machines.proofs.certificate.passes.Goals as goal

abbrev at : CheckedCase → ℕ → ℕ → Action
at c t = action_at (thread (threads c) t)

pub returns-then-not-carried : goal.returns-then-not-carried
returns-then-not-carried c =
    asked_not_carried (at c.args.case.now c.args.thread) c.args.places.now c.requires c.in-Write.name c.in-Write.location
    c.loop-place.place-index c.action_at-in-loop-place.result c.loop-place-test.true c.action_at-in-loop-place.ensures.value c.if-not-carried.ensures
    ∙ c.loop-place.invariant

pub loop-place-preserved : goal.loop-place-preserved
loop-place-preserved c =
    asked-carried (at c.args.case.now c.args.thread) c.args.places.now c.requires c.in-Write.name c.in-Write.location
    c.loop-place.place-index c.action_at-in-loop-place.result c.loop-place-test.true c.action_at-in-loop-place.ensures.value c.if-not-carried.ensures
    ∙ c.loop-place.invariant
