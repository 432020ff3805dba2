use Rattle.std.proofs.Common.{◌≡◌, take}
use Rattle.std.specs.Str.{all_ascii_digits}
use Rattle.text.specs.Csv.{comma}
use Rattle.text.proofs.Splits.{Free}
use Rattle.text.proofs.field.Fields.cut.Given as goal

-- no comma so far, and whether there are digits only; the line stays
abbrev pub invariant-loop-i : goal.invariant-loop-i
invariant-loop-i l = Free comma (take l.i l.rest) × (l.digits ≡ all_ascii_digits (take l.i l.rest)) × (l.self.line ≡ l.initial.self.line)
