-- What calls and replies alone say of a whole run: the items taken since the last granted opening, and what a settling
-- says of them.
use Rattle.std.specs.Prelude.{◌≡◌, Bool, true, false, cond, List, [], ◌∷◌, ◌++◌, length, Some, None, Option}
use Rattle.records.specs.declared.Item.{Item}
use Rattle.machines.specs.Machine.{Machine, completes}
use Rattle.docket.specs.declared.calls.Call.{Call}
use Rattle.docket.specs.declared.calls.Call.TheVariants.{Open, Offer, Settle, Withdraw}
use Rattle.docket.specs.Plain.{Reply, Opened, Taken, Allowed, Unfinished, Withdrawn, Refused}
use Rattle.docket.specs.Slots.{granted}

abbrev pub was_granted : Option Reply → Bool
was_granted None = false
was_granted (Some a) = granted a

-- the items taken since the last granted opening, where they were l before this call
abbrev pub since : List Item → Call → Option Reply → List Item
since l (Open k) a = cond (was_granted a) [] l
since l (Offer k i) a = cond (was_granted a) (l ++ (i ∷ [])) l
since l (Settle k) a = l
since l (Withdraw k) a = l

-- a settling that is not refused says allowed exactly if these items are complete evidence, with their number, and
-- unfinished exactly if not
abbrev pub Ruled : {S : Type 0} → Machine S → List Item → Option Reply → Type 0
Ruled m l None = Unit {0}
Ruled m l (Some (Allowed n)) = (completes m l ≡ true) × (n ≡ length l)
Ruled m l (Some (Unfinished n)) = (completes m l ≡ false) × (n ≡ length l)
Ruled m l (Some (Refused q)) = q ≡ record { number = 42; place = 0 }
Ruled m l (Some (Opened t)) = ⊥
Ruled m l (Some Taken) = ⊥
Ruled m l (Some (Withdrawn n)) = ⊥

abbrev pub RuledAt : {S : Type 0} → Machine S → List Item → Call → Option Reply → Type 0
RuledAt m l (Open k) a = Unit {0}
RuledAt m l (Offer k i) a = Unit {0}
RuledAt m l (Settle k) a = Ruled m l a
RuledAt m l (Withdraw k) a = Unit {0}

-- every settling of a run
abbrev pub AllRuled : {S : Type 0} → Machine S → List Item → List Call → List (Option Reply) → Type 0
AllRuled m l [] rs = Unit {0}
AllRuled m l (c ∷ cs) [] = Unit {0}
AllRuled m l (c ∷ cs) (a ∷ rs) = RuledAt m l c a × AllRuled m (since l c a) cs rs
