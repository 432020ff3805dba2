-- Calls that keep their ticket in one slot and hand it in at the end leave the slots as they were.
use Rattle.std.proofs.Common.{◌≡◌, ℕ, ◌<◌, ◌≤◌, true, false, List, [], ◌∷◌, length, get_or, set, Some, None, refl, arith, length-set, get_or-set_same}
use Rattle.std.proofs.lemmas.Bool.{and_parts}
use Rattle.machines.specs.Machine.{Machine}
use Rattle.docket.specs.declared.ticket.Ticket.{Ticket}
use Rattle.docket.specs.Plain.{Plain, empty}
use Rattle.docket.specs.declared.calls.Call.{Call}
use Rattle.docket.specs.Slots.{Held, Desk, desk, desk_next, worked, keeps_to, hands_in_from, tidy}
use Rattle.docket.proofs.Refilling.{put_back}

module _ {S : Type 0} (m : Machine S) (number : ℕ) (k : ℕ) (h : Held) (free : get_or h k None ≡ None) where
  -- the ticket of the examination that a plain docket opened last
  abbrev latest : Plain → Ticket
  latest p = record { name = record { docket = number; examination = p.opened }; spent = false }

  -- while nothing is open the slots are as they were; else the slot k holds the ticket of the open examination
  record Kept (e : Desk) : Type 0 where
    pub single : e.plain.«open» ≤ 1
    pub idle : e.plain.«open» ≡ 0 → e.held ≡ h
    pub room : e.plain.«open» ≡ 1 → k < length h
    pub busy : e.plain.«open» ≡ 1 → e.held ≡ set h k (Some (latest e.plain))

  single_kept : (e : Desk) → Kept e → (c : Call) → keeps_to k c ≡ true → (desk_next m number e c).plain.«open» ≤ 1
  single_kept e q c t = let s = q.single in grind arith

  idle_kept : (e : Desk) → Kept e → (c : Call) → keeps_to k c ≡ true → (desk_next m number e c).plain.«open» ≡ 0 → (desk_next m number e c).held ≡ h
  idle_kept e q c t z = let s = q.single in grind (arith, q.idle, q.room, q.busy, put_back, length-set, get_or-set_same)

  room_kept : (e : Desk) → Kept e → (c : Call) → keeps_to k c ≡ true → (desk_next m number e c).plain.«open» ≡ 1 → k < length h
  room_kept e q c t z = let s = q.single in grind (arith, q.idle, q.room, q.busy, length-set)

  busy_kept : (e : Desk) → Kept e → (c : Call) → keeps_to k c ≡ true → (desk_next m number e c).plain.«open» ≡ 1 → (desk_next m number e c).held ≡ set h k (Some (latest (desk_next m number e c).plain))
  busy_kept e q c t z = let s = q.single in grind (arith, q.idle, q.room, q.busy, length-set, get_or-set_same)

  hands_in : (e : Desk) → Kept e → (c : Call) → hands_in_from k c ≡ true → (desk_next m number e c).held ≡ h
  hands_in e q c t = let s = q.single in grind (arith, q.idle, q.room, q.busy, put_back, length-set, get_or-set_same)

  slots_as_before : (c : Call) (cs : List Call) (e : Desk) → Kept e → tidy k (c ∷ cs) ≡ true → (worked m number e (c ∷ cs)).held ≡ h
  slots_as_before c [] e q t = hands_in e q c t
  slots_as_before c (d ∷ cs) e q t =
      let both = and_parts (keeps_to k c) (tidy k (d ∷ cs)) t in
      let next : Kept (desk_next m number e c) = record { single = single_kept e q c both.0; idle = idle_kept e q c both.0; room = room_kept e q c both.0; busy = busy_kept e q c both.0 } in
      slots_as_before d cs (desk_next m number e c) next both.1

  pub tidy-slots : (cs : List Call) → tidy k cs ≡ true → (worked m number (desk empty h) cs).held ≡ h
  tidy-slots [] t = refl
  tidy-slots (c ∷ cs) t = slots_as_before c cs (desk empty h) (record { single = omega arith; idle = λ z. refl; room = λ z. grind arith; busy = λ z. grind arith }) t
