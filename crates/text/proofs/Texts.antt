-- The line of a record and of an item, and a file of one row, piece by piece as they are written.
use Rattle.std.proofs.Common.{◌≡◌, ℕ, ◌+◌, List, [], ◌∷◌, ◌++◌, length, decimal, append_assoc, arith, length-append}
use Rattle.records.specs.declared.Record.{Record}
use Rattle.records.specs.declared.Item.{Item}
use Rattle.text.specs.Csv.{comma, cr, lf}
use Rattle.text.specs.Files.{case_sheet, record_cells, evidence_sheet, item_cells}
use Rattle.text.specs.Sheets.{row_text}

-- a number and the byte behind it
abbrev pub cell : ℕ → ℕ → List ℕ
cell n after = decimal n ++ after ∷ []

abbrev pub record_text : Record → List ℕ
record_text r =
    cell r.thread comma ++ (r.letter ∷ comma ∷ []) ++ cell r.target comma ++ cell r.value comma ++ cell r.seen comma ++ cell r.turn cr ++ lf ∷ []

pub record_text_lem : (r : Record) → record_text r ≡ row_text case_sheet.columns (record_cells r)
record_text_lem r = simp append_assoc

pub record_length : (r : Record) → length (row_text case_sheet.columns (record_cells r)) ≡ length (decimal r.thread) + length (decimal r.target) + length (decimal r.value) + length (decimal r.seen) + length (decimal r.turn) + 8
record_length r = simp length-append (omega arith)

abbrev pub item_text : Item → List ℕ
item_text i = (i.letter ∷ comma ∷ []) ++ cell i.thread comma ++ cell i.place comma ++ cell i.count cr ++ lf ∷ []

pub item-text : (i : Item) → item_text i ≡ row_text evidence_sheet.columns (item_cells i)
item-text i = simp append_assoc

pub item-length : (i : Item) → length (row_text evidence_sheet.columns (item_cells i)) ≡ length (decimal i.thread) + length (decimal i.place) + length (decimal i.count) + 6
item-length i = simp length-append (omega arith)
