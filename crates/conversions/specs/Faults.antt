-- Why evidence is not converted: each fault by its number and place, and which fault evidence for a machine has.
use Rattle.std.specs.Prelude.{ℕ, Bool, true, false, cond, List, Some, None, Ok, Err, Option, Result, nat_lt}
use Rattle.records.specs.declared.Item.{Item}
use Rattle.records.specs.Refusals.{Refusal}
use Rattle.machines.specs.Machine.{Machine, completes, refusal_of}
use Rattle.conversions.specs.declared.fault.ConversionFault.{ConversionFault}
use Rattle.conversions.specs.declared.fault.ConversionFault.TheVariants.{ListTooShort, Refused, Unfinished}

abbrev pub too_short : Refusal
too_short = record { number = 61; place = 0 }

abbrev pub not_complete : Refusal
not_complete = record { number = 62; place = 0 }

-- where the checker's own faults have these numbers
abbrev pub told : {F : Type 0} → (F → ℕ) → ConversionFault F → Refusal
told number ListTooShort = too_short
told number (Refused f k) = record { number = number f; place = k }
told number Unfinished = not_complete

abbrev pub refusal_in : {T F : Type 0} → (F → ℕ) → Result T (ConversionFault F) → Option Refusal
refusal_in number (Ok x) = None
refusal_in number (Err f) = Some (told number f)

-- ── Which fault ──
abbrev pub or_else : Option Refusal → Option Refusal → Option Refusal
or_else None next = next
or_else (Some r) next = Some r

abbrev pub unfinished : Bool → Option Refusal
unfinished true = None
unfinished false = Some not_complete

-- the first item that the machine refuses, or that the evidence is not complete
abbrev pub examined : {S : Type 0} → Machine S → List Item → Option Refusal
examined m is = or_else (refusal_of m is) (unfinished (completes m is))

-- of evidence that is to be converted, where so much room is asked for and the list to write has this size
abbrev pub conversion_refusal : {S : Type 0} → Machine S → ℕ → ℕ → List Item → Option Refusal
conversion_refusal m room size is = cond (nat_lt size room) (Some too_short) (examined m is)
