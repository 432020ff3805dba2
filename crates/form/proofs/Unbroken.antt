-- What is left of a rule that is not broken: the rest of a false test, and that a well-formed record is an action.
use Rattle.std.proofs.Common.{◌≡◌, ℕ, Bool, true, false, ◌&&◌, is_some, refl, arith}
use Rattle.std.proofs.lemmas.Bool.{false≢true}
use Rattle.std.proofs.lemmas.Bool.Decides.{nat_tests}
use Rattle.records.specs.declared.Record.{Record}
use Rattle.records.specs.Actions.{action_of}
use Rattle.form.specs.Rules.{well_formed}

pub and_rest : (x y : Bool) → (x && y) ≡ false → x ≡ true → y ≡ false
and_rest true y e t = e
and_rest false y e t = absurd (false≢true t)

pub not_so : (b : Bool) → (b ≡ true → ⊥) → b ≡ false
not_so true h = absurd (h refl)
not_so false h = refl

-- a letter with a limit is one of the ten
pub acts : (n : ℕ) (r : Record) → well_formed r ≡ true → is_some (action_of n r) ≡ true
acts n r h = grind (arith, nat_tests)
