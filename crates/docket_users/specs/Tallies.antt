-- The machine of the kind that wants an item A for each record.
use Rattle.std.specs.Prelude.{ℕ, ◌+◌, cond, length, Ok, Err, Result, ◌==◌, nat_lt}
use Rattle.records.specs.declared.Item.{Item}
use Rattle.records.specs.Letters.{letter}
use Rattle.case.specs.declared.checked.CheckedCase.{CheckedCase}
use Rattle.case.specs.Cases.{records_of}
use Rattle.machines.specs.Machine.{Machine}
use Rattle.docket_users.specs.declared.tally.TallyFault.{TallyFault}
use Rattle.docket_users.specs.declared.tally.TallyFault.TheVariants.{NotOfTally, NoneLeft}

abbrev pub tally_number : TallyFault → ℕ
tally_number NotOfTally = 20
tally_number NoneLeft = 21

abbrev pub tally_step : ℕ → ℕ → Item → Result ℕ ℕ
tally_step n s i = cond (i.letter == (letter "A")) (cond (nat_lt s n) (Ok (s + 1)) (Err 21)) (Err 20)

abbrev pub tally : CheckedCase → Machine ℕ
tally k = record { fresh = 0; step = tally_step (length (records_of k)); complete = λ s. (s == length (records_of k)) }
