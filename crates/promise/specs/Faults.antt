-- Number and place of why a piece of evidence is not converted, by case.
use Rattle.std.specs.Prelude.{Some, None, Ok, Err, Option, Result}
use Rattle.records.specs.Refusals.{Refusal}
use Rattle.machines.specs.Faults.{run_number, certificate_number}
use Rattle.conversions.specs.Faults.{told as conversion_told}
use Rattle.promise.specs.declared.fault.NotConverted.{NotConverted}
use Rattle.promise.specs.declared.fault.NotConverted.TheVariants.{Run, Certificate}

abbrev pub told : NotConverted → Refusal
told (Run f) = conversion_told run_number f
told (Certificate f) = conversion_told certificate_number f

abbrev pub refusal_in : {T : Type 0} → Result T NotConverted → Option Refusal
refusal_in (Ok x) = None
refusal_in (Err f) = Some (told f)
