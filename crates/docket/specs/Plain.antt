-- The plain docket, which a person could keep by hand: a list of items and five counts. It is fed only the arguments of
-- the calls, a ticket by the name that stands on it.
use Rattle.std.specs.Prelude.{ℕ, ◌+◌, Bool, true, false, cond, ◌&&◌, List, [], ◌∷◌, ◌++◌, length, Ok, Err, Result, ◌==◌, nat_eq}
use Rattle.records.specs.declared.Item.{Item}
use Rattle.records.specs.Refusals.{Refusal}
use Rattle.machines.specs.Machine.{Machine, feed, reached, completes}
use Rattle.docket.specs.declared.ticket.TicketName.{TicketName}

pub record Plain : Type 0 where
  pub items : List Item
  pub opened : ℕ
  pub allowed : ℕ
  pub unfinished : ℕ
  pub withdrawn : ℕ
  pub «open» : ℕ

abbrev pub empty : Plain
empty = record { items = []; opened = 0; allowed = 0; unfinished = 0; withdrawn = 0; «open» = 0 }

-- ── Calls and replies ──
-- a call, with the name on the ticket that is shown or handed in
pub data Asked : Type 0 where
  opens : Asked
  offers : TicketName → Item → Asked
  settles : TicketName → Asked
  withdraws : TicketName → Asked

-- a verdict and a withdrawal tell the number of items
pub data Reply : Type 0 where
  Opened : TicketName → Reply
  Taken : Reply
  Allowed : ℕ → Reply
  Unfinished : ℕ → Reply
  Withdrawn : ℕ → Reply
  Refused : Refusal → Reply

-- a refusal of the docket's own
abbrev pub own : ℕ → Reply
own n = Refused (record { number = n; place = 0 })

abbrev pub verdict : Bool → ℕ → Reply
verdict true n = Allowed n
verdict false n = Unfinished n

-- what the kind says of one item more, after n were taken
abbrev pub item_reply : {S : Type 0} → ℕ → Result S ℕ → Reply
item_reply n (Ok s) = Taken
item_reply n (Err k) = Refused (record { number = k; place = n })

-- ── What a call changes ──
abbrev pub now_open : Plain → Plain
now_open p = record { items = []; opened = p.opened + 1; allowed = p.allowed; unfinished = p.unfinished; withdrawn = p.withdrawn; «open» = 1 }

abbrev pub joined : {S : Type 0} → Plain → Item → Result S ℕ → Plain
joined p i (Ok s) = record { items = p.items ++ (i ∷ []); opened = p.opened; allowed = p.allowed; unfinished = p.unfinished; withdrawn = p.withdrawn; «open» = p.«open» }
joined p i (Err k) = p

abbrev pub now_settled : Bool → Plain → Plain
now_settled true p = record { items = p.items; opened = p.opened; allowed = p.allowed + 1; unfinished = p.unfinished; withdrawn = p.withdrawn; «open» = 0 }
now_settled false p = record { items = p.items; opened = p.opened; allowed = p.allowed; unfinished = p.unfinished + 1; withdrawn = p.withdrawn; «open» = 0 }

abbrev pub now_withdrawn : Plain → Plain
now_withdrawn p = record { items = p.items; opened = p.opened; allowed = p.allowed; unfinished = p.unfinished; withdrawn = p.withdrawn + 1; «open» = 0 }

-- ── The four calls ──
-- a ticket fits if one examination is open, and it names this docket and the examination that was opened last
abbrev pub names : TicketName → ℕ → ℕ → ℕ → Bool
names t number opened «open» = nat_eq «open» 1 && (t.docket == number && t.examination == opened)

abbrev pub fits : ℕ → Plain → TicketName → Bool
fits number p t = names t number p.opened p.«open»

-- the kind's step on an item, from where the list of items leads
abbrev pub offered : {S : Type 0} → Machine S → Plain → Item → Result S ℕ
offered m p i = feed m.step (reached m p.items) (i ∷ [])

module _ {S : Type 0} (m : Machine S) (number : ℕ) where
  abbrev pub reply : Plain → Asked → Reply
  reply p opens =
      cond (p.«open» == 1) (own 41)
      (cond (p.opened == 65535) (own 43) (Opened (record { docket = number; examination = p.opened + 1 })))
  reply p (offers t i) = cond (fits number p t) (item_reply (length p.items) (offered m p i)) (own 42)
  reply p (settles t) = cond (fits number p t) (verdict (completes m p.items) (length p.items)) (own 42)
  reply p (withdraws t) = cond (fits number p t) (Withdrawn (length p.items)) (own 42)

  abbrev pub next : Plain → Asked → Plain
  next p opens = cond (p.«open» == 1) p (cond (p.opened == 65535) p (now_open p))
  next p (offers t i) = cond (fits number p t) (joined p i (offered m p i)) p
  next p (settles t) = cond (fits number p t) (now_settled (completes m p.items) p) p
  next p (withdraws t) = cond (fits number p t) (now_withdrawn p) p
