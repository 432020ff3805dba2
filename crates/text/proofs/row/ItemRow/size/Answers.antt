use Rattle.std.proofs.Common.{◌≡◌, true, sym, refl, ◌∙◌, arith, rules}
use Rattle.std.proofs.lemmas.Bool.{and_from}
use Rattle.records.specs.Letters.{among}
use Rattle.text.specs.Files.{item_letters, evidence_sheet, item_cells}
use Rattle.text.proofs.Columns.{size-known}
use Rattle.text.proofs.Texts.{item-length}
use Rattle.text.proofs.row.ItemRow.size.Goals as goal

pub returns : goal.returns
returns c =
    let r = c.args.self.now in
    let known : among r.letter item_letters ≡ true = sym c.is_among.ensures.value ∙ c.if-not-is_among.false in
    record {
      value = size-known evidence_sheet.columns (item_cells r) _ (and_from _ true known refl) (omega (arith, item-length r));
      within = search rules;
    }
