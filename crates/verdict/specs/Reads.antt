-- What reading a text into a list gives to the judge: the rows in front of the list, or the refusal.
use Rattle.std.specs.Prelude.{◌≡◌, ℕ, ◌≤◌, List, map, length, take, None}
use Rattle.records.specs.declared.Item.{Item}
use Rattle.case.specs.declared.checked.CheckedCase.{CheckedCase}
use Rattle.case.specs.Cases.{records_of}
use Rattle.form.specs.Form.{form_refusal}
use Rattle.text.specs.Reading.{Reading}
use Rattle.verdict.specs.Judging.{case_refusal, records_in, evidence_refusal, items_in}

-- n rows were read, and stand in front
pub record InFront {X : Type 0} (row : List ℕ → X) (rd : Reading) (n : ℕ) (after : List X) : Type 0 where
  pub ends : rd.end ≡ None
  pub rows : take n after ≡ map row rd.rows
  pub few : n ≤ length after

-- both texts were read and the records are in form: the case holds them, and the items stand in front of a list
pub record Loaded (ct et : List ℕ) (k : CheckedCase) (after : List Item) (n : ℕ) : Type 0 where
  pub case_reads : case_refusal ct ≡ None
  pub evidence_reads : evidence_refusal et ≡ None
  pub is_in_form : form_refusal (records_in ct) ≡ None
  pub records : records_of k ≡ records_in ct
  pub items : take n after ≡ items_in et
  pub few : n ≤ length after
