-- The example of docs/DOCKET.md: a docket numbered 7 for the kind run, over store buffering, as the plain docket has it.
use Rattle.std.specs.Prelude.{◌≡◌, ℕ, false, List, [], ◌∷◌, map, Some, None, Option}
use Rattle.records.specs.declared.Item.{Item}
use Rattle.records.specs.Executions.{store_buffering}
use Rattle.records.specs.Letters.{letter}
use Rattle.records.specs.Names.{threads_of}
use Rattle.machines.specs.Machine.{Machine}
use Rattle.machines.specs.Run.{RunState, run_machine}
use Rattle.docket.specs.declared.calls.Call.{Call}
use Rattle.docket.specs.declared.calls.Call.TheVariants.{Open, Offer, Settle, Withdraw}
use Rattle.docket.specs.Plain.{Plain, empty, Reply, Opened, Taken, Allowed, Withdrawn, Refused}
use Rattle.docket.specs.Slots.{Desk, desk, replies, worked}

abbrev pub run_of_store_buffering : Machine RunState
run_of_store_buffering = run_machine (threads_of store_buffering)

-- a ticket of docket 8 is kept in the slot 2
abbrev pub before : Desk
before = desk empty (None ∷ None ∷ Some (record { name = record { docket = 8; examination = 2 }; spent = false }) ∷ [])

abbrev pub performs : ℕ → Item
performs t = record { letter = letter "A"; thread = t; place = 0; count = 0 }

abbrev pub drains : ℕ → Item
drains t = record { letter = letter "D"; thread = t; place = 0; count = 0 }

abbrev pub calls : List Call
calls =
    Open 0 ∷ Open 1 ∷ Offer 0 (performs 0) ∷ Offer 0 (drains 0) ∷ Withdraw 0
    ∷ Open 0 ∷ Offer 2 (performs 0)
    ∷ Offer 0 (performs 0) ∷ Offer 0 (performs 0) ∷ Offer 0 (performs 1) ∷ Offer 0 (performs 0)
    ∷ Offer 0 (performs 1) ∷ Offer 0 (performs 0) ∷ Offer 0 (performs 1) ∷ Settle 0 ∷ []

abbrev pub ticket : ℕ → Reply
ticket n = Opened (record { docket = 7; examination = n })

abbrev pub refused : ℕ → ℕ → Reply
refused n k = Refused (record { number = n; place = k })

abbrev pub printed : List (Option Reply)
printed =
    map Some (ticket 1 ∷ refused 41 0 ∷ Taken ∷ refused 22 1 ∷ Withdrawn 1
    ∷ ticket 2 ∷ refused 42 0
    ∷ Taken ∷ Taken ∷ Taken ∷ Taken ∷ Taken ∷ Taken ∷ Taken ∷ Allowed 7 ∷ [])

abbrev pub Printed : Type 0
Printed = replies run_of_store_buffering 7 before calls ≡ printed

-- the counts at the end: opened, allowed, unfinished, withdrawn, open
abbrev pub ends : Plain
ends = (worked run_of_store_buffering 7 before calls).plain

abbrev pub counts_at_end : List ℕ
counts_at_end = ends.opened ∷ ends.allowed ∷ ends.unfinished ∷ ends.withdrawn ∷ ends.«open» ∷ []
