-- What the lines of a file are made of, and the one text that a list of rows has.
use Rattle.std.specs.Prelude.{◌≡◌, ℕ, ◌+◌, ◌*◌, Bool, true, false, ◌&&◌, List, [], ◌∷◌, ◌++◌, length, decimal, ◌==◌, nat_le, nat_lt}
use Rattle.std.specs.Char.{is_ascii_alphabetic}
use Rattle.std.specs.List.{flat_map}
use Rattle.records.specs.Letters.{among}
use Rattle.text.specs.Csv.{comma, cr, lf, split, join}

-- a column holds numbers up to a largest one, or one of some letters
pub data Column : Type 0 where
  numbers : ℕ → Column
  letters : List ℕ → Column

-- a file: its first line, its columns, and how many rows it may have
pub record Sheet : Type 0 where
  pub header : List ℕ
  pub columns : List Column
  pub most : ℕ

-- ── The text of rows, each a list of cells ──
abbrev pub cell_text : Column → ℕ → List ℕ
cell_text (numbers most) n = decimal n
cell_text (letters ls) n = n ∷ []

abbrev pub cell_texts : List Column → List ℕ → List (List ℕ)
cell_texts [] ns = []
cell_texts (k ∷ ks) [] = []
cell_texts (k ∷ ks) (n ∷ ns) = cell_text k n ∷ cell_texts ks ns

abbrev pub ended : List ℕ → List ℕ
ended line = line ++ cr ∷ lf ∷ []

abbrev pub row_text : List Column → List ℕ → List ℕ
row_text ks ns = ended (join comma (cell_texts ks ns))

abbrev pub text_of : Sheet → List (List ℕ) → List ℕ
text_of sh rows = ended sh.header ++ flat_map (row_text sh.columns) rows

-- ── Rows that have a text ──
-- whether a cell is a letter of its column, where that has letters
abbrev pub known : Column → ℕ → Bool
known (numbers most) n = true
known (letters ls) n = among n ls

abbrev pub all_known : List Column → List ℕ → Bool
all_known [] ns = true
all_known (k ∷ ks) [] = false
all_known (k ∷ ks) (n ∷ ns) = known k n && all_known ks ns

-- whether each letter of each row is one of its column
abbrev pub rows_known : Sheet → List (List ℕ) → Bool
rows_known sh [] = true
rows_known sh (r ∷ rs) = all_known sh.columns r && rows_known sh rs

-- whether there is a cell for each column, and the numbers are within theirs
abbrev pub within : Column → ℕ → Bool
within (numbers most) n = nat_le n most
within (letters ls) n = true

abbrev pub all_within : List Column → List ℕ → Bool
all_within [] [] = true
all_within [] (n ∷ ns) = false
all_within (k ∷ ks) [] = false
all_within (k ∷ ks) (n ∷ ns) = within k n && all_within ks ns

-- a row that has a text
pub record Fit (ks : List Column) (ns : List ℕ) : Type 0 where
  pub knows : all_known ks ns ≡ true
  pub holds : all_within ks ns ≡ true

-- ── A sheet that is well made ──
-- the longest text of a cell; the longest line, with a byte after each cell and one more
abbrev pub width : Column → ℕ
width (numbers most) = length (decimal most)
width (letters ls) = 1

abbrev pub widths : List Column → ℕ
widths [] = 1
widths (k ∷ ks) = width k + 1 + widths ks

abbrev pub all_letters : List ℕ → Bool
all_letters [] = true
all_letters (c ∷ cs) = is_ascii_alphabetic c && all_letters cs

abbrev pub proper : Column → Bool
proper (numbers most) = nat_le most 4294967295
proper (letters ls) = all_letters ls

abbrev pub all_proper : List Column → Bool
all_proper [] = true
all_proper (k ∷ ks) = proper k && all_proper ks

-- whether s has no byte c
abbrev pub free : ℕ → List ℕ → Bool
free c s = length (split c s) == 1

-- whether the header is one line, there is a column, numbers have at most 32 bits, letters are letters, and the longest
-- text is short enough to be read
abbrev pub well_made : Sheet → Bool
well_made sh =
    free cr sh.header && (free lf sh.header && (nat_lt 0 (length sh.columns) && (all_proper sh.columns
    && nat_le (length sh.header + 2 + sh.most * widths sh.columns) 65535)))
