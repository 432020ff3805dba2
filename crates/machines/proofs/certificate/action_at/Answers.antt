use Rattle.std.proofs.Common.{ap, ◌∙◌, unwrap_or}
use Rattle.records.specs.declared.action.Action.TheVariants.{Sync}
use Rattle.records.specs.declared.action.SyncOp.TheVariants.{End}
use Rattle.records.specs.Names.{thread}
use Rattle.case.specs.Cases.{threads}
use Rattle.machines.proofs.Lefts.{action-there}
use Rattle.machines.proofs.certificate.action_at.Goals as goal

pub returns-clause-value : goal.returns-clause-value
returns-clause-value c = c.unwrap_or.ensures ∙ ap (λ o. unwrap_or o (Sync 0 0 End)) c.action.ensures.value ∙ action-there (thread (threads c.args.case.now) c.args.thread) c.args.place
