use Rattle.std.proofs.Common.{◌≡◌, true, take}
use Rattle.std.specs.Str.Parse.{digits_value}
use Rattle.std.specs.Str.{all_ascii_digits}
use Rattle.text.proofs.field.decimal_value.Given as goal

-- the digits so far, and the number that they write
abbrev pub invariant-loop-b : goal.invariant-loop-b
invariant-loop-b l =
    (l.n ≡ digits_value 10 (take l.b-index l.digits)) × (all_ascii_digits (take l.b-index l.digits) ≡ true)
