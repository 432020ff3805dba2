use Rattle.std.proofs.Common.{◌≡◌, ap, ◌∙◌}
use Rattle.records.specs.Names.{record_named}
use Rattle.form.specs.Layouts.{slot_named}
use Rattle.case.specs.Cases.{records_of}
use Rattle.case.proofs.Slots.{found-named, found-cases}
use Rattle.case.proofs.checked.CheckedCase.find.Goals as goal

pub returns : goal.returns
returns c =
    let self = c.args.self.now in
    let v : c.find.result ≡ record_named (records_of self) c.args.name =
    c.find.ensures ∙ ap (λ s. slot_named s c.args.name) self.laid ∙ found-named (records_of self) self.formed c.args.name in
    record { value = v; named = found-cases (records_of self) self.formed c.args.name c.find.result v }
