-- The numbers that are answered of a certificate that was written.
use Rattle.std.specs.Prelude.{◌≡◌, ℕ, ◌+◌, ◌≤◌, List, length}
use Rattle.records.specs.declared.Item.{Item}
use Rattle.records.specs.Names.{Case}
use Rattle.agreement.specs.Convert.{move_count}
use Rattle.agreement.specs.Evidence.{run_items, certificate_items, written}
use Rattle.agreement.specs.Moments.{pairs}

-- of the run `is` for a case of so many records: the items and the moves that were written
pub record Counted (c : Case) (is : List Item) (size items moves : ℕ) : Type 0 where
  pub length_is : items ≡ length (written c is)
  pub moves_are : moves ≡ move_count (certificate_items (written c is))
  -- the moves are the pairs of a plain write and a later plain read of its thread whose order is reversed
  pub reversed : moves ≡ pairs c (run_items is)
  pub all : items ≡ moves + size
  pub moves_few : moves ≤ 4096
  pub items_few : items ≤ 4352
