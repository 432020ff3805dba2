-- One examination, from what the docket's own calls promise: it is opened, items join it one by one, and it ends.
use Rattle.std.proofs.Common.{◌≡◌, ℕ, ◌<◌, Bool, true, false, cond, eqb, List, [], ◌∷◌, ◌++◌, length, get_or, take, None, Ok, Err, Result, sym, refl, ap, ◌∙◌, subst, arith, length-take-le, take_all}
use Rattle.records.specs.declared.Item.{Item}
use Rattle.records.specs.Refusals.{Refusal}
use Rattle.machines.specs.Machine.{reached, completes, answer}
use Rattle.machines.specs.Outcomes.{refused, outcome_of, outcome}
use Rattle.machines.proofs.Examining.{examining_taken, outcome-refused, outcome-all}
use Rattle.kinds.specs.declared.Evidence.{Ghosts}
use Rattle.docket.specs.declared.Docket.{Docket}
use Rattle.docket.specs.declared.ticket.TicketName.{TicketName}
use Rattle.docket.specs.Plain.{Plain, opens, offers, settles, withdraws, Reply, Opened, Taken, Withdrawn, Refused, own, verdict, item_reply, now_open, joined, now_settled, now_withdrawn, fits, offered}
use Rattle.docket.specs.Standing.{Stands, Heeds, admits, state_of}
use Rattle.sessions.specs.Examinations.{Examines, said, holding, closed}

-- ── Opening: granted, or refused by 41 or 43 ──
granted : (a b : Bool) (t t' : TicketName) → Opened t ≡ cond a (own 41) (cond b (own 43) (Opened t')) → (a ≡ false) × (b ≡ false)
granted a b t t' e = grind arith

refused_as_opening : (a b : Bool) (q : Refusal) (t : TicketName) (y : Reply) → Refused q ≡ cond a (own 41) (cond b (own 43) (Opened t)) → Refused q ≡ cond a (own 41) (cond b (own 43) y)
refused_as_opening a b q t y e = grind arith

left_by_opening : (a b : Bool) (q : Refusal) (t : TicketName) (p x y : Plain) → Refused q ≡ cond a (own 41) (cond b (own 43) (Opened t)) → cond a p (cond b p x) ≡ cond a p (cond b p y)
left_by_opening a b q t p x y e = grind arith

-- ── Offering: taken, or refused by the kind ──
joins : {S : Type 0} (p : Plain) (is : List Item) (x : Item) (n : ℕ) (o : Result S ℕ) → Taken ≡ item_reply n o → joined (holding p is) x o ≡ holding p (is ++ (x ∷ []))
joins p is x n o e = grind arith

-- the number by which the kind refuses, and the place
pub record Barred {S : Type 0} (q : Refusal) (n : ℕ) (o : Result S ℕ) : Type 0 where
  pub number : answer o ≡ Err q.number
  pub place : q.place ≡ n

barred : {S : Type 0} (q : Refusal) (n : ℕ) (o : Result S ℕ) → Refused q ≡ item_reply n o → Barred q n o
barred q n o e = record { number = grind arith; place = grind arith }

-- ── Settling ──
ruled : (w : Bool) (n : ℕ) → verdict w n ≡ said (outcome_of None w n)
ruled w n = grind arith

settled : (p : Plain) (is : List Item) (w : Bool) (n : ℕ) → now_settled w (holding p is) ≡ closed p is (outcome_of None w n)
settled p is w n = grind arith

module _ {K F : Type 0} (kind : Ghosts K F) where
  -- the docket d₁ opened an examination, and is d now, with these items taken
  pub record Midway (d₁ d : Docket K F) (t : TicketName) (is : List Item) : Type 0 where
    pub case : d.case ≡ d₁.case
    pub number : d.number ≡ d₁.number
    pub admitted : admits d t ≡ true
    pub stands : (p : Plain) → Stands kind d₁ (now_open p) → Stands kind d (holding p is)

  pub midway_none : (d : Docket K F) (t : TicketName) → admits d t ≡ true → Midway d d t []
  midway_none d t e = record { case = refl; number = refl; admitted = e; stands = λ p s. s }

  -- the ticket fits the plain docket
  fitting : (d : Docket K F) (t : TicketName) (p : Plain) (is : List Item) → admits d t ≡ true → Stands kind d (holding p is) → fits d.number (holding p is) t ≡ true
  fitting d t p is e s = rw (s.counts.opened, s.counts.«open») at e

  pub midway_more : (d₁ d d' : Docket K F) (t : TicketName) (is : List Item) (x : Item) → Midway d₁ d t is → Heeds kind d (offers t x) Taken d' → d'.counts ≡ d.counts → Midway d₁ d' t (is ++ (x ∷ []))
  midway_more d₁ d d' t is x so does counts =
      record {
        case = does.case ∙ so.case;
        number = does.number ∙ so.number;
        admitted = rw (does.number, counts) so.admitted;
        stands = λ p s₁.
            let s = so.stands p s₁ in
            let m = kind.machine d.case in
            let fit = fitting d t p is so.admitted s in
            let told : Taken ≡ item_reply (length is) (offered m (holding p is) x) = rw fit at (does.answers (holding p is) s) in
            let left : Stands kind d' (joined (holding p is) x (offered m (holding p is) x)) = rw fit at (does.stands (holding p is) s) in
            rw (joins p is x (length is) (offered m (holding p is) x) told) at left;
      }

  module _ (d₀ d₁ : Docket K F) (t : TicketName) (opening : Heeds kind d₀ opens (Opened t) d₁) (items : List Item) where
    -- an examination that is open ends as a, in d'', with the plain docket closed by the outcome
    pub record Ended (a : Reply) (d'' : Docket K F) : Type 0 where
      pub answers : (p : Plain) → Stands kind d₁ (now_open p) → a ≡ said (outcome (kind.machine d₀.case) items)
      pub stands : (p : Plain) → Stands kind d₁ (now_open p) → Stands kind d'' (closed p items (outcome (kind.machine d₀.case) items))

    examined : (d : Docket K F) (is : List Item) (a : Reply) (d'' : Docket K F) → Midway d₁ d t is → d''.case ≡ d.case → d''.number ≡ d.number → Ended a d'' → Examines kind d₀ items a d''
    examined d is a d'' so case number ends =
        let open_now : (p : Plain) → Stands kind d₀ p → (eqb p.«open» 1 ≡ false) × (eqb p.opened 65535 ≡ false) × Stands kind d₁ (now_open p)
        = λ p s.
        let g = granted (eqb p.«open» 1) (eqb p.opened 65535) t _ (opening.answers p s) in
        (g.0, g.1, rw (g.0, g.1) at (opening.stands p s)) in
        record {
          case = case ∙ so.case ∙ opening.case;
          number = number ∙ so.number ∙ opening.number;
          answers = λ p s. let o = open_now p s in rw (o.0, o.1) (ends.answers p o.2);
          stands = λ p s. let o = open_now p s in rw (o.0, o.1) (ends.stands p o.2);
        }

    pub ends-settled : (d d'' : Docket K F) (a : Reply) → Midway d₁ d t items → Heeds kind d (settles t) a d'' → Examines kind d₀ items a d''
    ends-settled d d'' a so does =
        let e : d.case ≡ d₀.case = so.case ∙ opening.case in
        let m = kind.machine d₀.case in
        let all : (p : Plain) → Stands kind d (holding p items) → outcome_of None (completes m items) (length items) ≡ outcome m items
        = λ p s.
        let reach : reached m items ≡ Ok (state_of kind d) = ap (λ k. reached (kind.machine k) items) (sym e) ∙ s.at refl in
        let at_end : reached m (take (length items) items) ≡ Ok (state_of kind d) = rw (take_all (length items) items (omega arith)) reach in
        outcome-all m items (state_of kind d) (length items) (examining_taken m items (state_of kind d) (length items) (omega arith) at_end) (omega arith) in
        examined d items a d'' so does.case does.number (record {
          answers = λ p s₁.
              let s = so.stands p s₁ in
              let told : a ≡ verdict (completes (kind.machine d.case) items) (length items) = rw (fitting d t p items so.admitted s) at (does.answers (holding p items) s) in
              told ∙ ap (λ k. verdict (completes (kind.machine k) items) (length items)) e ∙ ruled (completes m items) (length items) ∙ ap said (all p s);
          stands = λ p s₁.
              let s = so.stands p s₁ in
              let left : Stands kind d'' (now_settled (completes (kind.machine d.case) items) (holding p items)) = rw (fitting d t p items so.admitted s) at (does.stands (holding p items) s) in
              subst (Stands kind d'')
              (ap (λ k. now_settled (completes (kind.machine k) items) (holding p items)) e ∙ settled p items (completes m items) (length items) ∙ ap (closed p items) (all p s)) left;
        })

    pub ends-refused : (d d' d'' : Docket K F) (i : ℕ) (x : Item) (q : Refusal) (n : ℕ) → i < length items → Midway d₁ d t (take i items) → Heeds kind d (offers t (get_or items i x)) (Refused q) d' → d' ≡ d →
        Heeds kind d' (withdraws t) (Withdrawn n) d'' →
        Examines kind d₀ items (Refused q) d''
    ends-refused d d' d'' i x q n l so offering kept withdrawing =
        let does : Heeds kind d (withdraws t) (Withdrawn n) d'' = subst (λ y. Heeds kind y (withdraws t) (Withdrawn n) d'') kept withdrawing in
        let e : d.case ≡ d₀.case = so.case ∙ opening.case in
        let m = kind.machine d₀.case in
        let st = state_of kind d in
        let is = take i items in
        let long : length is ≡ i = length-take-le i items (omega arith) in
        let fit : (p : Plain) → Stands kind d (holding p is) → fits d.number (holding p is) t ≡ true = λ p s. fitting d t p is so.admitted s in
        let here : (p : Plain) → Stands kind d (holding p is) → (q.place ≡ i) × (refused q ≡ outcome m items)
        = λ p s.
        let reach : reached m is ≡ Ok st = ap (λ k. reached (kind.machine k) is) (sym e) ∙ s.at refl in
        let told : Refused q ≡ item_reply (length is) (offered m (holding p is) (get_or items i x)) = rw (fit p s, e) at (offering.answers (holding p is) s) in
        let b = barred q (length is) (m.step st (get_or items i x)) (rw reach at told) in
        let same : q ≡ record { number = q.number; place = i } = ap (λ k. record { number = q.number; place = k }) (b.place ∙ long) in
        (b.place ∙ long, ap refused same ∙ outcome-refused m items st i (examining_taken m items st i (omega arith) reach) x l q.number b.number) in
        examined d is (Refused q) d'' so does.case does.number (record {
          answers = λ p s₁. ap said (here p (so.stands p s₁)).1;
          stands = λ p s₁.
              let s = so.stands p s₁ in
              let left : Stands kind d'' (now_withdrawn (holding p is)) = rw (fit p s) at (does.stands (holding p is) s) in
              subst (Stands kind d'') (ap (λ k. now_withdrawn (holding p (take k items))) (sym (here p s).0) ∙ ap (closed p items) (here p s).1) left;
        })

  -- ── No examination was opened ──
  pub not_opened : (d₀ d' : Docket K F) (items : List Item) (q : Refusal) → Heeds kind d₀ opens (Refused q) d' → Examines kind d₀ items (Refused q) d'
  not_opened d₀ d' items q does =
      record {
        case = does.case;
        number = does.number;
        answers = λ p s. refused_as_opening (eqb p.«open» 1) (eqb p.opened 65535) q _ _ (does.answers p s);
        stands = λ p s. subst (Stands kind d') (left_by_opening (eqb p.«open» 1) (eqb p.opened 65535) q _ p _ _ (does.answers p s)) (does.stands p s);
      }
