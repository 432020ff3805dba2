-- Texts of a case worked out by the definitions: each answer is computed.
use Rattle.std.specs.Prelude.{◌≡◌, ℕ, List, [], ◌∷◌, ◌++◌, map, None, Ok, Err, codes, Result}
use Prim.Native.String.{String}
use Rattle.records.specs.declared.Record.{Record}
use Rattle.records.specs.Refusals.{Refusal, refusal}
use Rattle.text.specs.Files.{case_reading, case_rows, case_text}
use Rattle.text.specs.Reading.{answer_of}
use Rattle.text.specs.Sheets.{ended}

abbrev pub line : String → List ℕ
line s = ended (codes s)

-- the header, and lines behind it
abbrev pub behind : List ℕ → List ℕ
behind rest = line "thread,letter,target,value,seen,turn" ++ rest

-- a case of two records
abbrev pub two : List Record
two =
    record { thread = 0; letter = 66; target = 0; value = 0; seen = 0; turn = 1 }
    ∷ record { thread = 7; letter = 119; target = 63; value = 4294967295; seen = 0; turn = 0 } ∷ []

abbrev pub two_text : List ℕ
two_text = behind (line "0,B,0,0,0,1" ++ line "7,w,63,4294967295,0,0")

-- read into a list with room for two
abbrev pub texts : List (List ℕ)
texts =
    [] ∷ line "thread,letter,target,value,seen" ∷ codes "thread,letter,target,value,seen,turn" ∷ behind [] ∷ two_text
    ∷ behind (line "") ∷ behind (codes "0,B,0,0,0,1") ∷ behind (line "0,B,0,0,0") ∷ behind (line "0,B,0,0,0,1,")
    ∷ behind (line "0,B,0,0,0,1" ++ line "0,E,0,0,0,2" ++ line "x") ∷ behind (line "0,B,0,0,0,1" ++ line "0,E,0,0,0,2" ++ line "x,0,B,0,0,0")
    ∷ behind (line "007,B,0,0,0,1") ∷ behind (line "0,B,256,0,0,1") ∷ behind (line "0,B,0,4294967296,0,1") ∷ behind (line "0,B,0,0,0,1" ++ line "0,A,x,0,0,2") ∷ []

abbrev pub answers : List (Result ℕ Refusal)
answers =
    Err (refusal 1 1) ∷ Err (refusal 1 1) ∷ Err (refusal 1 1) ∷ Ok 0 ∷ Ok 2
    ∷ Err (refusal 1 2) ∷ Err (refusal 1 2) ∷ Err (refusal 1 2) ∷ Err (refusal 1 2)
    ∷ Err (refusal 1 4) ∷ Err (refusal 4 4)
    ∷ Err (refusal 2 2) ∷ Err (refusal 2 2) ∷ Err (refusal 2 2) ∷ Err (refusal 3 3) ∷ []

pub record Examples : Type 0 where
  pub answered : map (λ t. answer_of (case_reading 2 t)) texts ≡ answers
  pub read : case_reading 2 two_text ≡ record { rows = case_rows two; end = None }
  pub written : case_text two ≡ two_text
