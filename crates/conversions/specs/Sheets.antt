-- Items written into a lent list, one after the other from its front on; the rest of the list stays as it was.
use Rattle.std.specs.Prelude.{◌≡◌, ◌+◌, ◌≤◌, List, length}
use Rattle.records.specs.declared.Item.{Item}
use Rattle.conversions.specs.declared.sheet.Sheet.{Sheet}
use Rattle.conversions.specs.Fronts.{put}

-- these items fit behind what is written
abbrev pub Room : List Item → Sheet → Type 0
Room xs s = s.at + length xs ≤ length s.items.now

-- these items are written behind what was written, into the same list
pub record Adds (xs : List Item) (before after : Sheet) : Type 0 where
  pub same : after.items.ghost_name ≡ before.items.ghost_name
  pub list : after.items.now ≡ put before.at xs before.items.now
  pub upto : after.at ≡ before.at + length xs
