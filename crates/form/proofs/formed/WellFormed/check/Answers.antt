use Rattle.std.proofs.Common.{sym}
use Rattle.records.proofs.Firsts.{none-clear}
use Rattle.form.proofs.formed.WellFormed.check.Goals as goal

pub invariant_of-result-clause-formed : goal.invariant_of-result-clause-formed
invariant_of-result-clause-formed c = none-clear _ _ (sym c.in_default.ensures)
