-- What an answer says, and what a docket and the slots beside it make of one call.
use Rattle.std.specs.Prelude.{◌≡◌, ℕ, Some, None, Option}
use Rattle.kinds.specs.declared.Evidence.{Ghosts}
use Rattle.docket.specs.declared.Docket.{Docket}
use Rattle.docket.specs.declared.calls.Call.{Call}
use Rattle.docket.specs.declared.calls.Answer.{Answer}
use Rattle.docket.specs.declared.calls.Answer.TheVariants as answers
use Rattle.docket.specs.declared.fault.TicketFault.{TicketFault}
use Rattle.docket.specs.declared.fault.DocketFault.TheVariants.{Ticket}
use Rattle.docket.specs.Faults.{told}
use Rattle.docket.specs.Plain.{Asked, Reply, Opened, Taken, Withdrawn, Refused}
use Rattle.docket.specs.Standing.{Heeds, verdict_says}
use Rattle.docket.specs.Slots.{Held, asked, left}

-- the answer to a call whose ticket is refused
abbrev pub refused_ticket : {F : Type 0} → TicketFault → Answer F
refused_ticket f = answers.Refused (Ticket f)

-- F is the kind's reason for refusing an item, which has a number
module _ {F : Type 0} (number : F → ℕ) where
  abbrev pub says : Answer F → Reply
  says (answers.Opened t) = Opened t
  says answers.Taken = Taken
  says (answers.Settled v) = verdict_says v
  says (answers.Withdrawn n) = Withdrawn n
  says (answers.Refused f) = Refused (told number f)

  abbrev pub says_any : Option (Answer F) → Option Reply
  says_any None = None
  says_any (Some a) = Some (says a)

module _ {K F : Type 0} (kind : Ghosts K F) where
  -- where the docket is asked nothing, nothing changes; else it heeds what it is asked, and the slots follow the reply
  abbrev pub Acts : Docket K F → Held → Call → Option Asked → Option Reply → Docket K F → Held → Type 0
  Acts d h call None None d' h' = (d' ≡ d) × (h' ≡ h)
  Acts d h call None (Some a) d' h' = ⊥
  Acts d h call (Some c) None d' h' = ⊥
  Acts d h call (Some c) (Some a) d' h' = Heeds kind d c a d' × (h' ≡ left h call a)

  abbrev pub Acted : (F → ℕ) → Docket K F → Held → Call → Option (Answer F) → Docket K F → Held → Type 0
  Acted number d h call r d' h' = Acts d h call (asked h call) (says_any number r) d' h'
