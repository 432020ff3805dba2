-- What a checked case stands for: its list of records, and its threads.
use Rattle.std.specs.Prelude.{ℕ, cond, List, length, take, Some, None, Option, nat_lt}
use Rattle.records.specs.declared.Record.{Record}
use Rattle.records.specs.Names.{name, Case, threads_of}
use Rattle.form.specs.Form.{in_form}
use Rattle.case.specs.declared.checked.CheckedCase.{CheckedCase}

abbrev pub records_of : CheckedCase → List Record
records_of c = take c.count c.records

abbrev pub threads : CheckedCase → Case
threads c = threads_of (records_of c)

-- what a case holds after it was filled with xs: these, if they are in form, else what it held
abbrev pub filled : List Record → List Record → List Record
filled xs old = cond (in_form xs) xs old

-- the name of the record at an index, if there is one
abbrev pub name_at : List Record → ℕ → Option ℕ
name_at xs k = cond (nat_lt k (length xs)) (Some (name xs k)) None
