-- The executions worked through, as far as the form check answers them.
use Rattle.std.specs.Prelude.{ℕ, Bool, true, false, ◌&&◌, List, [], ◌∷◌, Some, None, Option, ◌==◌}
use Rattle.records.specs.declared.Record.{Record}
use Rattle.records.specs.Executions.{empty_case, store_buffering, carried_read, carried_other, stale_message, writes_of, writes_to, volatile_behind_write, equal_values, turns_exchanged, locked_twice}
use Rattle.form.specs.Form.{form_refusal}
use Rattle.records.specs.Refusals.{Refusal}

pub record Example : Type 0 where
  pub records : List Record
  pub answer : Option Refusal

abbrev pub passes : List Record → Example
passes xs = record { records = xs; answer = None }

abbrev pub refused : List Record → ℕ → ℕ → Example
refused xs n k = record { records = xs; answer = Some (record { number = n; place = k }) }

abbrev pub examples : List Example
examples =
    passes empty_case ∷ passes store_buffering ∷ passes carried_read ∷ passes carried_other ∷ passes stale_message
    ∷ passes volatile_behind_write ∷ passes equal_values
    ∷ passes (writes_of 63) ∷ refused (writes_of 64) 11 64
    ∷ passes (writes_to 63) ∷ refused (writes_to 64) 12 1
    ∷ refused turns_exchanged 17 4
    ∷ refused locked_twice 18 2 ∷ []

abbrev pub same : Option Refusal → Option Refusal → Bool
same None None = true
same None (Some r) = false
same (Some q) None = false
same (Some q) (Some r) = q.number == r.number && q.place == r.place

abbrev pub stand : List Example → Bool
stand [] = true
stand (e ∷ es) = same (form_refusal e.records) e.answer && stand es
