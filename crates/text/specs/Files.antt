-- The two files: a case, with a line for each record, and its evidence, with a line for each item.
use Rattle.std.specs.Prelude.{ℕ, List, [], ◌∷◌, map, codes, slice_index}
use Rattle.records.specs.declared.Record.{Record}
use Rattle.records.specs.declared.Item.{Item}
use Rattle.text.specs.Reading.{Reading, reading}
use Rattle.text.specs.Sheets.{numbers, letters, Sheet, text_of}

-- ── A case ──
abbrev pub case_letters : List ℕ
case_letters = codes "rwRWLUSJBE"

-- the sheet of a case under these letters
abbrev pub case_under : List ℕ → Sheet
case_under ls =
    record {
      header = codes "thread,letter,target,value,seen,turn";
      columns = numbers 255 ∷ letters ls ∷ numbers 255 ∷ numbers 4294967295 ∷ numbers 65535 ∷ numbers 65535 ∷ [];
      most = 256;
    }

abbrev pub case_sheet : Sheet
case_sheet = case_under case_letters

abbrev pub record_cells : Record → List ℕ
record_cells r = r.thread ∷ r.letter ∷ r.target ∷ r.value ∷ r.seen ∷ r.turn ∷ []

abbrev pub record_of : List ℕ → Record
record_of ns =
    record { thread = slice_index ns 0; letter = slice_index ns 1; target = slice_index ns 2; value = slice_index ns 3; seen = slice_index ns 4; turn = slice_index ns 5 }

abbrev pub case_rows : List Record → List (List ℕ)
case_rows rs = map record_cells rs

abbrev pub case_text : List Record → List ℕ
case_text rs = text_of case_sheet (case_rows rs)

-- what a text reads as, into a list with so much room
abbrev pub case_reading : ℕ → List ℕ → Reading
case_reading room text = reading case_sheet room text

-- ── Evidence ──
abbrev pub item_letters : List ℕ
item_letters = codes "ADMO"

abbrev pub evidence_sheet : Sheet
evidence_sheet =
    record {
      header = codes "item,thread,place,count";
      columns = letters item_letters ∷ numbers 255 ∷ numbers 255 ∷ numbers 255 ∷ [];
      most = 4352;
    }

abbrev pub item_cells : Item → List ℕ
item_cells i = i.letter ∷ i.thread ∷ i.place ∷ i.count ∷ []

abbrev pub item_of : List ℕ → Item
item_of ns = record { letter = slice_index ns 0; thread = slice_index ns 1; place = slice_index ns 2; count = slice_index ns 3 }

abbrev pub evidence_rows : List Item → List (List ℕ)
evidence_rows is = map item_cells is

abbrev pub evidence_text : List Item → List ℕ
evidence_text is = text_of evidence_sheet (evidence_rows is)

abbrev pub evidence_reading : ℕ → List ℕ → Reading
evidence_reading room text = reading evidence_sheet room text
