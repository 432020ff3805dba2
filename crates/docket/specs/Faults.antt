-- Number and place of what a docket refuses. Where a ticket is refused, the place is 0; an item's number is the kind's.
use Rattle.std.specs.Prelude.{ℕ}
use Rattle.records.specs.Refusals.{Refusal}
use Rattle.docket.specs.declared.fault.TicketFault.{TicketFault}
use Rattle.docket.specs.declared.fault.TicketFault.TheVariants.{StillOpen, NotThisTicket, NoneLeft}
use Rattle.docket.specs.declared.fault.DocketFault.{DocketFault}
use Rattle.docket.specs.declared.fault.DocketFault.TheVariants.{Ticket, ItemRefused}

abbrev pub ticket_told : TicketFault → Refusal
ticket_told StillOpen = record { number = 41; place = 0 }
ticket_told NotThisTicket = record { number = 42; place = 0 }
ticket_told NoneLeft = record { number = 43; place = 0 }

abbrev pub told : {F : Type 0} → (F → ℕ) → DocketFault F → Refusal
told number (Ticket f) = ticket_told f
told number (ItemRefused f n) = record { number = number f; place = n }
