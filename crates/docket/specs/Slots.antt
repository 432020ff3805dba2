-- Tickets in slots beside a docket, and calls that name a slot. A desk is a plain docket with such slots.
use Rattle.std.specs.Prelude.{ℕ, Bool, true, false, cond, ◌&&◌, List, [], ◌∷◌, length, Some, None, Option, ◌==◌, nat_lt, slice_index_or, slice_set}
use Rattle.machines.specs.Machine.{Machine}
use Rattle.docket.specs.declared.calls.Call.{Call}
use Rattle.docket.specs.declared.calls.Call.TheVariants.{Open, Offer, Settle, Withdraw}
use Rattle.docket.specs.declared.ticket.Ticket.{Ticket}
use Rattle.docket.specs.declared.ticket.TicketName.{TicketName}
use Rattle.docket.specs.Plain.{Plain, Asked, opens, offers, settles, withdraws, Reply, Opened, Taken, Allowed, Unfinished, Withdrawn, Refused, reply, next}

abbrev pub Held : Type 0
Held = List (Option Ticket)

-- ── What is asked of the docket ──
abbrev pub with_ticket : (TicketName → Asked) → Option Ticket → Option Asked
with_ticket ask None = None
with_ticket ask (Some t) = Some (ask t.name)

abbrev pub with_none : Asked → Option Ticket → Option Asked
with_none ask None = Some ask
with_none ask (Some t) = None

abbrev pub in_slot : Held → ℕ → (Option Ticket → Option Asked) → Option Asked
in_slot h k ask = cond (nat_lt k (length h)) (ask (slice_index_or h k None)) None

-- nothing where there is no such slot, or no ticket in it, or for an opening no room in it
abbrev pub asked : Held → Call → Option Asked
asked h (Open k) = in_slot h k (with_none opens)
asked h (Offer k i) = in_slot h k (with_ticket (λ t. offers t i))
asked h (Settle k) = in_slot h k (with_ticket settles)
asked h (Withdraw k) = in_slot h k (with_ticket withdraws)

-- ── What the slots hold after the reply ──
abbrev pub granted : Reply → Bool
granted (Opened t) = true
granted Taken = true
granted (Allowed n) = true
granted (Unfinished n) = true
granted (Withdrawn n) = true
granted (Refused q) = false

abbrev pub received : Held → ℕ → Reply → Held
received h k (Opened t) = slice_set h k (Some (record { name = t; spent = false }))
received h k Taken = h
received h k (Allowed n) = h
received h k (Unfinished n) = h
received h k (Withdrawn n) = h
received h k (Refused q) = h

abbrev pub handed_in : Held → ℕ → Reply → Held
handed_in h k a = cond (granted a) (slice_set h k None) h

abbrev pub left : Held → Call → Reply → Held
left h (Open k) a = received h k a
left h (Offer k i) a = h
left h (Settle k) a = handed_in h k a
left h (Withdraw k) a = handed_in h k a

-- ── The desk ──
pub record Desk : Type 0 where
  pub plain : Plain
  pub held : Held

abbrev pub desk : Plain → Held → Desk
desk p h = record { plain = p; held = h }

module _ {S : Type 0} (m : Machine S) (number : ℕ) where
  abbrev pub reply_to : Desk → Option Asked → Option Reply
  reply_to e None = None
  reply_to e (Some c) = Some (reply m number e.plain c)

  abbrev pub next_by : Desk → Call → Option Asked → Desk
  next_by e call None = e
  next_by e call (Some c) = desk (next m number e.plain c) (left e.held call (reply m number e.plain c))

  -- one call: the reply, if the docket was asked at all, and the desk afterwards
  abbrev pub desk_reply : Desk → Call → Option Reply
  desk_reply e call = reply_to e (asked e.held call)

  abbrev pub desk_next : Desk → Call → Desk
  desk_next e call = next_by e call (asked e.held call)

  -- a whole list of calls: the replies, and the desk afterwards
  abbrev pub replies : Desk → List Call → List (Option Reply)
  replies e [] = []
  replies e (c ∷ cs) = desk_reply e c ∷ replies (desk_next e c) cs

  abbrev pub worked : Desk → List Call → Desk
  worked e [] = e
  worked e (c ∷ cs) = worked (desk_next e c) cs

-- ── Calls that keep their ticket in one slot ──
-- openings put it there, and it is handed in from there; offers may show any
abbrev pub keeps_to : ℕ → Call → Bool
keeps_to k (Open j) = j == k
keeps_to k (Offer j i) = true
keeps_to k (Settle j) = j == k
keeps_to k (Withdraw j) = j == k

abbrev pub hands_in_from : ℕ → Call → Bool
hands_in_from k (Open j) = false
hands_in_from k (Offer j i) = false
hands_in_from k (Settle j) = j == k
hands_in_from k (Withdraw j) = j == k

-- and the last call hands it in
abbrev pub tidy : ℕ → List Call → Bool
tidy k [] = true
tidy k (c ∷ []) = hands_in_from k c
tidy k (c ∷ d ∷ cs) = keeps_to k c && tidy k (d ∷ cs)
