use Rattle.std.proofs.Common.{◌≡◌, true, sym, refl, ◌∙◌, arith, rules}
use Rattle.std.proofs.lemmas.Bool.{and_from}
use Rattle.records.specs.Letters.{among}
use Rattle.text.specs.Files.{case_letters, case_sheet, record_cells}
use Rattle.text.proofs.Columns.{size-known}
use Rattle.text.proofs.Texts.{record_length}
use Rattle.text.proofs.row.RecordRow.size.Goals as goal

pub returns : goal.returns
returns c =
    let r = c.args.self.now in
    let known : among r.letter case_letters ≡ true = sym c.is_among.ensures.value ∙ c.if-not-is_among.false in
    record {
      value = size-known case_sheet.columns (record_cells r) _ (and_from _ true known refl) (omega (arith, record_length r));
      within = search rules;
    }
