-- When a case is in form: the lowest numbered rule that has a break, with the first record that breaks it.
use Rattle.std.specs.Prelude.{ℕ, Bool, not, List, length, is_some, Some, None, Ok, Err, Option, Result}
use Rattle.records.specs.declared.Record.{Record}
use Rattle.records.specs.First.{first}
use Rattle.form.specs.declared.fault.FormFault.{FormFault}
use Rattle.form.specs.declared.fault.FormFault.TheVariants.{Grouping, Field, MixedLocation, UnknownWrite, Turn, Frame, Life, Monitor}
use Rattle.records.specs.Refusals.{Refusal, refuse}
use Rattle.form.specs.Rules.{misplaced, malformed, mixed, saw_no_write, capitals, mistimed, misframed}
use Rattle.form.specs.Turns.{placed}
use Rattle.form.specs.Lives.{misfits}
use Rattle.form.specs.Monitors.{mislocks}

-- the first record along the list that breaks a rule, and the record of the first turn that does
abbrev pub along_list : (List Record → ℕ → Bool) → List Record → Option ℕ
along_list breaks xs = first (breaks xs) (length xs)

abbrev pub along_turns : (List Record → ℕ → Bool) → List Record → Option ℕ
along_turns breaks xs = placed xs (first (breaks xs) (capitals xs))

-- the rules on turns are looked for one after the other, each along all turns
abbrev pub turn_refusal : List Record → Option Refusal
turn_refusal xs = refuse 17 (along_turns misfits xs) (refuse 18 (along_turns mislocks xs) None)

abbrev pub form_refusal : List Record → Option Refusal
form_refusal xs =
    refuse 11 (along_list misplaced xs)
    (refuse 12 (along_list malformed xs)
    (refuse 13 (along_list mixed xs)
    (refuse 14 (along_list saw_no_write xs)
    (refuse 15 (along_list mistimed xs)
    (refuse 16 (along_list misframed xs) (turn_refusal xs))))))

abbrev pub in_form : List Record → Bool
in_form xs = not (is_some (form_refusal xs))

-- number and place of a fault, by case
abbrev pub told : FormFault → Refusal
told (Grouping k) = record { number = 11; place = k }
told (Field k) = record { number = 12; place = k }
told (MixedLocation k) = record { number = 13; place = k }
told (UnknownWrite k) = record { number = 14; place = k }
told (Turn k) = record { number = 15; place = k }
told (Frame k) = record { number = 16; place = k }
told (Life k) = record { number = 17; place = k }
told (Monitor k) = record { number = 18; place = k }

-- the refusal in an answer, if it is one
abbrev pub refusal_in : {T : Type 0} → Result T FormFault → Option Refusal
refusal_in (Ok x) = None
refusal_in (Err f) = Some (told f)
