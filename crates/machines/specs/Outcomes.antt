-- What putting a whole list of items to a machine comes to: complete or not, with the number of items, or the first refusal.
use Rattle.std.specs.Prelude.{ℕ, Bool, true, false, List, length, Some, None, Option}
use Rattle.records.specs.declared.Item.{Item}
use Rattle.records.specs.Refusals.{Refusal}
use Rattle.machines.specs.Machine.{Machine, refusal_of, completes}

pub data Outcome : Type 0 where
  allowed : ℕ → Outcome
  unfinished : ℕ → Outcome
  refused : Refusal → Outcome

abbrev pub outcome_of : Option Refusal → Bool → ℕ → Outcome
outcome_of (Some q) complete n = refused q
outcome_of None true n = allowed n
outcome_of None false n = unfinished n

abbrev pub outcome : {S : Type 0} → Machine S → List Item → Outcome
outcome m is = outcome_of (refusal_of m is) (completes m is) (length is)
