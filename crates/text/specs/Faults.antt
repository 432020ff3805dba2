-- What a fault of the text is told as: the number of the refusal, and its place.
use Rattle.std.specs.Prelude.{ℕ, Ok, Err, Result}
use Rattle.records.specs.Refusals.{Refusal, refusal}
use Rattle.text.specs.declared.fault.TextFault.{TextFault}
use Rattle.text.specs.declared.fault.TextFault.TheVariants.{TooLong, Shape, Full, Number, Letter, TooMany, UnknownLetter, TooShort}

-- the place is a line from 1 where reading was refused, and 0 otherwise;
-- of reading: 5, 1, 4, 2, 3; of writing: 4, 3, 6
abbrev pub told : TextFault → Refusal
told TooLong = refusal 5 0
told (Shape line) = refusal 1 line
told (Full line) = refusal 4 line
told (Number line) = refusal 2 line
told (Letter line) = refusal 3 line
told TooMany = refusal 4 0
told UnknownLetter = refusal 3 0
told TooShort = refusal 6 0

-- an answer, with its fault told as a refusal
abbrev pub told_by : {X Y : Type 0} → (X → Y) → Result X TextFault → Result Y Refusal
told_by f (Ok x) = Ok (f x)
told_by f (Err e) = Err (told e)

abbrev pub answered : Result ℕ TextFault → Result ℕ Refusal
answered r = told_by (λ n. n) r
