-- The law of certificates: what holds of the state after the items so far, and how each item keeps it.
use Rattle.std.proofs.Common.{◌≡◌, ℕ, suc, ◌+◌, true, false, cond, not, eqb, List, [], ◌∷◌, ◌++◌, drop, Ok, Err, Result, sym, refl, ap, ◌∙◌, subst, append_assoc, append-nil, add-zero, arith}
use Rattle.std.proofs.lemmas.Bool.{true≢false, eqb-true, not-true}
use Rattle.records.specs.declared.Item.{Item}
use Rattle.records.specs.declared.action.Action.{Action}
use Rattle.records.specs.declared.action.Action.TheVariants.{Read, Write, Sync}
use Rattle.records.specs.Names.{Case, thread, default}
use Rattle.machines.specs.declared.items.CertificateItem.{CertificateItem}
use Rattle.machines.specs.declared.items.CertificateItem.TheVariants.{Move, Come}
use Rattle.machines.specs.Items.{certificate_item, one, said}
use Rattle.machines.specs.Machine.{reached}
use Rattle.machines.specs.Memory.{upd, agrees}
use Rattle.machines.specs.Run.{waits, sees}
use Rattle.machines.specs.Certificate.{OrderState, move_in, relist, comes, certifies, certificate_step_of, fresh_order, certificate_machine}
use Rattle.laws.specs.Runs.{volatile_op}
use Rattle.laws.specs.Orders.{Reordered, still, moves, elsewhere, ordered, come, comes_by, order, writes_in, turns_in, last_in, Fits, OrderLaw}
use Rattle.laws.proofs.Nexts.{next, Each, each_none, each_more}
use Rattle.machines.proofs.Tables.{upd_at, upd_off}
use Rattle.laws.proofs.Changes.{everywhere, count-append, count-here, count-there, sees-append, stored-sees, agrees-sound}
use Rattle.machines.proofs.Feeds.{ok_inj, not_ok, needed}
use Rattle.laws.proofs.Feeds.{kept, brought-more}
use Rattle.laws.proofs.Moves.{move_in_lem, reorders}

-- ── Lists in two parts ──
come-append : (t : ℕ) (is js : List CertificateItem) → come t (is ++ js) ≡ come t is + come t js
come-append t [] js = omega arith
come-append t (Move u p n ∷ is) js = come-append t is js
come-append t (Come u ∷ is) js = count-append (eqb u t) _ _ _ (come-append t is js)

writes-append : (l m : List Action) → writes_in (l ++ m) ≡ writes_in l ++ writes_in m
writes-append [] m = refl
writes-append (Read n x w ∷ l) m = writes-append l m
writes-append (Write n x ∷ l) m = ap (λ k. waits n x ∷ k) (writes-append l m)
writes-append (Sync n k o ∷ l) m =
    ap (λ k. volatile_op n o ++ k) (writes-append l m) ∙ sym (append_assoc (volatile_op n o) (writes_in l) (writes_in m))

turns-append : (l m : List Action) → turns_in (l ++ m) ≡ turns_in l + turns_in m
turns-append [] m = omega arith
turns-append (Read n x w ∷ l) m = turns-append l m
turns-append (Write n x ∷ l) m = turns-append l m
turns-append (Sync n k o ∷ l) m = let e = turns-append l m in omega arith

-- ── The actions that came ──
-- each fits those before it, and they left memory and the turns so
record Fitting (came : List Action) (memory : ℕ → ℕ) (turns : ℕ) : Type 0 where
  last : (x : ℕ) → memory x ≡ last_in came x
  passed : turns ≡ turns_in came
  fits : Each Fits came

-- one action more, which fits, with what it writes and the turn that it takes
fitting-more : (a : Action) (came : List Action) (m m' : ℕ → ℕ) (k k' : ℕ) → Fitting came m k → Fits came a
    → ((x : ℕ) → m' x ≡ sees x (writes_in (a ∷ [])) (m x)) → k' ≡ k + turns_in (a ∷ []) → Fitting (came ++ (a ∷ [])) m' k'
fitting-more a came m m' k k' h g e f = record {
  last = λ x.
      e x ∙ ap (sees x (writes_in (a ∷ []))) (h.last x)
      ∙ sym (ap (λ ws. sees x ws (default x)) (writes-append came (a ∷ []))
      ∙ sees-append x (writes_in came) (writes_in (a ∷ [])) (default x));
  passed = f ∙ ap (λ n. n + turns_in (a ∷ [])) h.passed ∙ sym (turns-append came (a ∷ []));
  fits = each_more Fits came a h.fits g;
}

-- the first of what is left of thread t comes
record Comes (t : ℕ) (s s' : OrderState) : Type 0 where
  action : Action
  later : List Action
  first : s.left t ≡ action ∷ later
  begun : s'.begun ≡ true
  left : s'.left ≡ upd s.left t later
  fitting : (came : List Action) → Fitting came s.memory s.turns → Fitting (came ++ (action ∷ [])) s'.memory s'.turns

comes_in : (t : ℕ) (s s' : OrderState) → certifies s (Come t) ≡ Ok s' → Comes t s s'
comes_in t s s' e = by (s.left t) refl e
  where
    by : (l : List Action) → s.left t ≡ l → comes t s l ≡ Ok s' → Comes t s s'
    by [] q d = absurd (not_ok d)
    by (Read n x w ∷ rs) q d =
        let g = needed (eqb (s.memory x) w) 38 _ d in
        subst (Comes t s) (ok_inj g.1) (record {
          action = Read n x w;
          later = rs;
          first = q;
          begun = refl;
          left = refl;
          fitting = λ came h.
              fitting-more (Read n x w) came _ _ _ _ h (sym (eqb-true _ _ g.0) ∙ h.last x) (λ y. refl) (sym (add-zero _));
        })
    by (Write n x ∷ rs) q d =
        subst (Comes t s) (ok_inj d) (record {
          action = Write n x;
          later = rs;
          first = q;
          begun = refl;
          left = refl;
          fitting = λ came h. fitting-more (Write n x) came _ _ _ _ h tt (λ y. refl) (sym (add-zero _));
        })
    by (Sync n k o ∷ rs) q d =
        let f = needed (eqb k (suc s.turns)) 37 _ d in
        let g = needed (agrees o s.memory) 38 _ f.1 in
        subst (Comes t s) (ok_inj g.1) (record {
          action = Sync n k o;
          later = rs;
          first = q;
          begun = refl;
          left = refl;
          fitting = λ came h. fitting-more (Sync n k o) came _ _ _ _ h
              (eqb-true _ _ f.0 ∙ ap suc h.passed, agrees-sound o s.memory (last_in came) h.last g.0)
              (λ y. stored-sees n o s.memory y ∙ ap (λ ws. sees y ws (s.memory y)) (sym (append-nil (volatile_op n o))))
              (omega arith);
        })

-- ── The state along a certificate ──
record Along (c : Case) (js : List CertificateItem) (s : OrderState) : Type 0 where
  lists : ℕ → List Action
  reordered : (t : ℕ) → Reordered t js (thread c t) (lists t)
  left : (t : ℕ) → s.left t ≡ drop (come t js) (lists t)
  fitting : Fitting (order lists js) s.memory s.turns
  -- before the order begins nothing has come, whatever the lists
  none : s.begun ≡ false → (t : ℕ) → come t js ≡ 0
  empty : s.begun ≡ false → (ls : ℕ → List Action) → order ls js ≡ []

module _ {c : Case} {js : List CertificateItem} {s : OrderState} (h : Along c js s) where
  along_come : (t : ℕ) (s' : OrderState) → Comes t s s' → Along c (js ++ (Come t ∷ [])) s'
  along_come t s' p =
      let now = Come t ∷ [] in
      let n = next (come t js) (h.lists t) (sym (h.left t) ∙ p.first) in
      let more = brought-more (comes_by h.lists) js (Come t) ∙ ap (λ o. order h.lists js ++ one o) n.is in
      record {
        lists = h.lists;
        reordered = λ u. reorders (h.reordered u) (ordered still);
        left = everywhere _ t
            (ap (λ f. f t) p.left ∙ upd_at s.left t p.later ∙ sym n.past
            ∙ ap (λ k. drop k (h.lists t)) (sym (count-here t _ _ (come-append t js now))))
            (λ u ne. ap (λ f. f u) p.left ∙ upd_off s.left t p.later u ne ∙ h.left u
            ∙ ap (λ k. drop k (h.lists u)) (sym (count-there t u _ _ ne (come-append u js now))));
        fitting = subst (λ o. Fitting o s'.memory s'.turns) (sym more) (p.fitting (order h.lists js) h.fitting);
        none = λ b. absurd (true≢false (sym p.begun ∙ b));
        empty = λ b. absurd (true≢false (sym p.begun ∙ b));
      }

  along_move : (t p n : ℕ) (s' : OrderState) → certifies s (Move t p n) ≡ Ok s' → Along c (js ++ (Move t p n ∷ [])) s'
  along_move t p n s' e =
      let g = needed (not s.begun) 31 _ e in
      by (not-true s.begun g.0) (move_in p n (s.left t)) refl g.1
    where
      by : s.begun ≡ false → (o : Result (List Action) ℕ) → move_in p n (s.left t) ≡ o → relist t s o ≡ Ok s'
          → Along c (js ++ (Move t p n ∷ [])) s'
      by b (Err m) q d = absurd (not_ok d)
      by b (Ok L) q d =
          let now = Move t p n ∷ [] in
          let lists = upd h.lists t L in
          let whole : (u : ℕ) → s.left u ≡ h.lists u = λ u. h.left u ∙ ap (λ k. drop k (h.lists u)) (h.none b u) in
          let move = move_in_lem p n (h.lists t) (ap (move_in p n) (sym (whole t)) ∙ q) in
          let none : (u : ℕ) → come u (js ++ now) ≡ 0 = λ u. come-append u js now ∙ add-zero _ ∙ h.none b u in
          let empty : (ls : ℕ → List Action) → order ls (js ++ now) ≡ [] =
          λ ls. brought-more (comes_by ls) js (Move t p n) ∙ append-nil _ ∙ h.empty b ls in
          subst (Along c (js ++ now)) (ok_inj d) (record {
            lists = lists;
            reordered = everywhere _ t
                (subst (Reordered t (js ++ now) (thread c t)) (sym (upd_at h.lists t L))
                (reorders (h.reordered t) (moves move still)))
                (λ u ne. subst (Reordered u (js ++ now) (thread c u)) (sym (upd_off h.lists t L u ne))
                (reorders (h.reordered u) (elsewhere (λ w. ne (sym w)) still)));
            left = λ u. ap (cond (eqb u t) L) (whole u) ∙ ap (λ k. drop k (lists u)) (sym (none u));
            fitting = subst (λ o. Fitting o s.memory s.turns) (h.empty b h.lists ∙ sym (empty lists)) h.fitting;
            none = λ b'. none;
            empty = λ b'. empty;
          })

  along_more : (j : CertificateItem) (s' : OrderState) → certifies s j ≡ Ok s' → Along c (js ++ (j ∷ [])) s'
  along_more (Move t p n) s' e = along_move t p n s' e
  along_more (Come t) s' e = along_come t s' (comes_in t s s' e)

along : (c : Case) (js : List Item) (s : OrderState) → reached (certificate_machine c) js ≡ Ok s → Along c (said certificate_item js) s
along c js s e =
    kept certificate_item certificate_step_of (λ r. refl) (Along c) (λ done j r r' h. along_more h j r') js (fresh_order c) s fresh e
  where
    fresh : Along c [] (fresh_order c)
    fresh = record {
      lists = thread c;
      reordered = λ t. still;
      left = λ t. refl;
      fitting = record { last = λ x. refl; passed = refl; fits = each_none Fits };
      none = λ b t. refl;
      empty = λ b ls. refl;
    }

pub order_law_lem : OrderLaw
order_law_lem c js s e =
    let h = along c js s e in
    record { lists = h.lists; reordered = h.reordered; left = h.left; fits = h.fitting.fits }
