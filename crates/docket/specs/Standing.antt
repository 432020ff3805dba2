-- What the calls of a docket say, when it grants one, and how it stands for a plain docket and heeds it.
use Rattle.std.specs.Prelude.{◌≡◌, ℕ, ◌+◌, Bool, true, false, not, ◌&&◌, length, Ok, Err, Result, ◌==◌}
use Rattle.records.specs.declared.Item.{Item}
use Rattle.machines.specs.Machine.{reached}
use Rattle.kinds.specs.declared.Evidence.{Ghosts}
use Rattle.docket.specs.declared.Docket.{Docket}
use Rattle.docket.specs.declared.Verdict.{Verdict}
use Rattle.docket.specs.declared.Verdict.TheVariants as rules
use Rattle.docket.specs.declared.counts.Counts.{Counts}
use Rattle.docket.specs.declared.fault.DocketFault.{DocketFault}
use Rattle.docket.specs.declared.fault.TicketFault.{TicketFault}
use Rattle.docket.specs.declared.fault.TicketFault.TheVariants.{NotThisTicket}
use Rattle.docket.specs.declared.fault.HandedBack.{HandedBack}
use Rattle.docket.specs.declared.ticket.Ticket.{Ticket}
use Rattle.docket.specs.declared.ticket.TicketName.{TicketName}
use Rattle.docket.specs.Faults.{ticket_told, told}
use Rattle.docket.specs.Plain.{Plain, Asked, Reply, Opened, Taken, Allowed, Unfinished, Withdrawn, Refused, names, reply, next}

-- ── What the calls say ──
abbrev pub open_says : Result Ticket TicketFault → Reply
open_says (Ok t) = Opened t.name
open_says (Err f) = Refused (ticket_told f)

abbrev pub offer_says : {F : Type 0} → (F → ℕ) → Result (Unit {0}) (DocketFault F) → Reply
offer_says number (Ok u) = Taken
offer_says number (Err f) = Refused (told number f)

abbrev pub verdict_says : Verdict → Reply
verdict_says (rules.Allowed n) = Allowed n
verdict_says (rules.Unfinished n) = Unfinished n

abbrev pub settle_says : Result Verdict HandedBack → Reply
settle_says (Ok v) = verdict_says v
settle_says (Err b) = Refused (ticket_told b.fault)

abbrev pub withdraw_says : Result ℕ HandedBack → Reply
withdraw_says (Ok n) = Withdrawn n
withdraw_says (Err b) = Refused (ticket_told b.fault)

-- ── When it grants a call ──
-- it can open an examination
abbrev pub vacant : {K F : Type 0} → Docket K F → Bool
vacant d = not (d.counts.«open» == 1) && not (d.counts.opened == 65535)

-- the name of the examination that it opened last
abbrev pub latest : {K F : Type 0} → Docket K F → TicketName
latest d = record { docket = d.number; examination = d.counts.opened }

-- a ticket of this name is that of its open examination
abbrev pub admits : {K F : Type 0} → Docket K F → TicketName → Bool
admits d t = names t d.number d.counts.opened d.counts.«open»

-- a ticket that is admitted is taken in, any other is handed back as it is
abbrev pub Redeemed : {K F : Type 0} → Docket K F → Ticket → Result (Unit {0}) HandedBack → Type 0
Redeemed d t (Ok u) = admits d t.name ≡ true
Redeemed d t (Err b) = (admits d t.name ≡ false) × (b.fault ≡ NotThisTicket) × (b.ticket ≡ t)

-- ── Standing for a plain docket ──
pub record Counted (c : Counts) (p : Plain) : Type 0 where
  pub opened : c.opened ≡ p.opened
  pub allowed : c.allowed ≡ p.allowed
  pub unfinished : c.unfinished ≡ p.unfinished
  pub withdrawn : c.withdrawn ≡ p.withdrawn
  pub «open» : c.«open» ≡ p.«open»

abbrev pub Balanced : Counts → Type 0
Balanced c = c.opened ≡ c.allowed + c.unfinished + c.withdrawn + c.«open»

module _ {K F : Type 0} (kind : Ghosts K F) where
  -- the state that its checker holds for its case, and what the kind says there of an item
  abbrev pub state_of : Docket K F → kind.State
  state_of d = kind.state d.case d.checker

  abbrev pub step_of : Docket K F → Item → Result kind.State ℕ
  step_of d i = (kind.machine d.case).step (state_of d) i

  -- the same counts, the number of its items, and in an open examination the state that its items lead to
  pub record Stands (d : Docket K F) (p : Plain) : Type 0 where
    pub counts : Counted d.counts p
    pub taken : d.taken ≡ length p.items
    pub at : p.«open» ≡ 1 → reached (kind.machine d.case) p.items ≡ Ok (state_of d)

  -- d became d' and answered a: it keeps its case and number, and whichever plain docket it stood for, it answered as that
  -- one does, and now stands for what that one has become
  pub record Heeds (d : Docket K F) (c : Asked) (a : Reply) (d' : Docket K F) : Type 0 where
    pub case : d'.case ≡ d.case
    pub number : d'.number ≡ d.number
    pub answers : (p : Plain) → Stands d p → a ≡ reply (kind.machine d.case) d.number p c
    pub stands : (p : Plain) → Stands d p → Stands d' (next (kind.machine d.case) d.number p c)
