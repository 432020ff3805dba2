use Rattle.form.proofs.Laws.{lawful}
use Rattle.case.specs.Cases.{records_of}
use Rattle.case.proofs.checked.CheckedCase.records.Goals as goal

pub returns-clause-lawful : goal.returns-clause-lawful
returns-clause-lawful c = let self = c.args.self.now in lawful (records_of self) self.formed
