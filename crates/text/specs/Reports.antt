-- A file of one row, whose fields are words and numbers.
use Rattle.std.specs.Prelude.{ℕ, List, ◌++◌, map, decimal}
use Rattle.text.specs.declared.report.Cell.{Cell}
use Rattle.text.specs.declared.report.Cell.TheVariants.{Word, Number}
use Rattle.text.specs.Csv.{comma, join}
use Rattle.text.specs.Sheets.{ended}
pub use Rattle.text.specs.Writing.{fitting}

-- a word is written as it is, a number in decimal digits
abbrev pub cell_bytes : Cell → List ℕ
cell_bytes (Word s) = s.now
cell_bytes (Number n) = decimal n

-- a header's line, and a line of these fields
abbrev pub one_row_text : List ℕ → List (List ℕ) → List ℕ
one_row_text header fields = ended header ++ ended (join comma fields)

abbrev pub report_text : List ℕ → List Cell → List ℕ
report_text header row = one_row_text header (map cell_bytes row)
