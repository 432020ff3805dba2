-- The laws of runs: what holds of the state after the items so far, and how each item keeps it.
use Rattle.std.proofs.Common.{◌≡◌, ℕ, suc, ◌+◌, ◌≤◌, true, eqb, List, [], ◌∷◌, ◌++◌, length, take, drop, Some, Ok, sym, refl, ap, ◌∙◌, subst, subst₂, append-nil, add-zero, add-one, arith}
use Rattle.std.specs.List.{slice_get}
use Rattle.std.proofs.lemmas.List.{length-append, length-drop, take-append-drop, drop-append-le}
use Rattle.std.proofs.lemmas.Bool.{false≢true, eqb-true}
use Rattle.records.specs.declared.Item.{Item}
use Rattle.records.specs.declared.action.Action.{Action}
use Rattle.records.specs.declared.action.Action.TheVariants.{Read, Write, Sync}
use Rattle.records.specs.Names.{Case, thread, default}
use Rattle.machines.specs.declared.items.RunItem.{RunItem}
use Rattle.machines.specs.declared.items.RunItem.TheVariants.{Perform, Drain}
use Rattle.machines.specs.Items.{run_item, one, said}
use Rattle.machines.specs.Machine.{reached}
use Rattle.machines.specs.Memory.{upd, agrees}
use Rattle.machines.specs.Run.{Waiting, waits, RunState, sees, isNil, perform, drain, runs, run_step_of, run_step, fresh_run, run_machine}
use Rattle.laws.specs.Brought.{brought}
use Rattle.laws.specs.Runs.{performed, drained, plain_writes, volatile_write, sync_in, waiting, lands, landed, synchronized, turns_passed, memory_at, After, Sound, RunLaws}
use Rattle.laws.proofs.Nexts.{next}
use Rattle.machines.proofs.Tables.{upd_at, upd_off}
use Rattle.laws.proofs.Changes.{everywhere, count-append, count-here, count-there, sees-append, stored-sees, agrees-sound}
use Rattle.machines.proofs.Feeds.{ok_inj, not_ok, needed}
use Rattle.laws.proofs.Feeds.{feed-last, kept, brought-more}

-- ── Lists in two parts ──
performed-append : (t : ℕ) (is js : List RunItem) → performed t (is ++ js) ≡ performed t is + performed t js
performed-append t [] js = omega arith
performed-append t (Perform u ∷ is) js = count-append (eqb u t) _ _ _ (performed-append t is js)
performed-append t (Drain u ∷ is) js = performed-append t is js

drained-append : (t : ℕ) (is js : List RunItem) → drained t (is ++ js) ≡ drained t is + drained t js
drained-append t [] js = omega arith
drained-append t (Perform u ∷ is) js = drained-append t is js
drained-append t (Drain u ∷ is) js = count-append (eqb u t) _ _ _ (drained-append t is js)

plain-append : (l m : List Action) → plain_writes (l ++ m) ≡ plain_writes l ++ plain_writes m
plain-append [] m = refl
plain-append (Read n x w ∷ l) m = plain-append l m
plain-append (Write n x ∷ l) m = ap (λ k. waits n x ∷ k) (plain-append l m)
plain-append (Sync n k o ∷ l) m = plain-append l m

-- ── A thread's row ──
-- of a thread's actions l, p are performed, and of its plain writes d are drained: what is left, and what waits
record Row (l : List Action) (p d : ℕ) (rest : List Action) (buffer : List Waiting) : Type 0 where
  left : rest ≡ drop p l
  waiting : buffer ≡ drop d (plain_writes (take p l))
  enough : d ≤ length (plain_writes (take p l))

same_row : {l : List Action} {p p' d d' : ℕ} {r r' : List Action} {b b' : List Waiting}
    → p ≡ p' → d ≡ d' → r ≡ r' → b ≡ b' → Row l p d r b → Row l p' d' r' b'
same_row {l} {p' = p'} {d' = d'} {r = r} {b = b} e f g h k =
    subst₂ (Row l p' d') g h (subst₂ (λ q n. Row l q n r b) e f k)

row-performs : {l : List Action} {p d : ℕ} {a : Action} {rs : List Action} {b : List Waiting}
    → Row l p d (a ∷ rs) b → Row l (suc p) d rs (b ++ plain_writes (a ∷ []))
row-performs {l} {p} {d} {a} r =
    let n = next p l (sym r.left) in
    let more : plain_writes (take (suc p) l) ≡ plain_writes (take p l) ++ plain_writes (a ∷ []) =
    ap plain_writes n.upto ∙ plain-append (take p l) (a ∷ []) in
    record {
      left = sym n.past;
      waiting = ap (λ k. k ++ plain_writes (a ∷ [])) r.waiting ∙ sym (ap (drop d) more ∙ drop-append-le d _ _ r.enough);
      enough = omega (arith, r.enough, ap length more, length-append (plain_writes (take p l)) (plain_writes (a ∷ [])));
    }

module _ {l : List Action} {p d : ℕ} {rest : List Action} {w : Waiting} {b : List Waiting} (r : Row l p d rest (w ∷ b)) where
  row-drains : Row l p (suc d) rest b
  row-drains = record {
    left = r.left;
    waiting = sym (next d (plain_writes (take p l)) (sym r.waiting)).past;
    enough = omega (arith, ap length r.waiting, length-drop d (plain_writes (take p l)));
  }

  -- the oldest waiting write comes after those drained among all plain writes of the thread
  row-oldest : slice_get (plain_writes l) d ≡ Some w
  row-oldest =
      let done = plain_writes (take p l) in
      let whole : plain_writes l ≡ done ++ plain_writes (drop p l) =
      ap plain_writes (sym (take-append-drop p l)) ∙ plain-append (take p l) (drop p l) in
      let rest : drop d (plain_writes l) ≡ w ∷ (b ++ plain_writes (drop p l)) =
      ap (drop d) whole ∙ drop-append-le d done _ r.enough ∙ ap (λ k. k ++ plain_writes (drop p l)) (sym r.waiting) in
      (next d (plain_writes l) rest).is

-- ── An action is performed ──
record Performs (t : ℕ) (s s' : RunState) : Type 0 where
  action : Action
  later : List Action
  first : s.rest t ≡ action ∷ later
  rest : s'.rest ≡ upd s.rest t later
  buffer_here : s'.buffer t ≡ s.buffer t ++ plain_writes (action ∷ [])
  buffer_there : (u : ℕ) → (u ≡ t → ⊥) → s'.buffer u ≡ s.buffer u
  memory : (x : ℕ) → s'.memory x ≡ sees x (volatile_write (Some action)) (s.memory x)
  turns : s'.turns ≡ s.turns + length (sync_in (Some action))
  sound : (c : Case) (is : List RunItem) → After c is s → Sound c is t action

nil_is : {A : Type 0} (l : List A) → isNil l ≡ true → l ≡ []
nil_is [] e = refl
nil_is (a ∷ l) e = absurd (false≢true e)

performs : (t : ℕ) (s s' : RunState) → runs s (Perform t) ≡ Ok s' → Performs t s s'
performs t s s' e = by (s.rest t) refl e
  where
    by : (l : List Action) → s.rest t ≡ l → perform t s l ≡ Ok s' → Performs t s s'
    by [] q d = absurd (not_ok d)
    by (Read n x w ∷ rs) q d =
        let g = needed (eqb (sees x (s.buffer t) (s.memory x)) w) 25 _ d in
        subst (Performs t s) (ok_inj g.1) (record {
          action = Read n x w;
          later = rs;
          first = q;
          rest = refl;
          buffer_here = sym (append-nil (s.buffer t));
          buffer_there = λ u ne. refl;
          memory = λ y. refl;
          turns = sym (add-zero s.turns);
          sound = λ c is h.
              sym (eqb-true _ _ g.0) ∙ ap (λ b. sees x b (s.memory x)) (h.buffer t)
              ∙ ap (sees x (waiting c is t)) (h.memory x);
        })
    by (Write n x ∷ rs) q d =
        let b = s.buffer t ++ (waits n x ∷ []) in
        subst (Performs t s) (ok_inj d) (record {
          action = Write n x;
          later = rs;
          first = q;
          rest = refl;
          buffer_here = upd_at s.buffer t b;
          buffer_there = upd_off s.buffer t b;
          memory = λ y. refl;
          turns = sym (add-zero s.turns);
          sound = λ c is h. tt;
        })
    by (Sync n k o ∷ rs) q d =
        let f = needed (isNil (s.buffer t)) 23 _ d in
        let g = needed (eqb k (suc s.turns)) 24 _ f.1 in
        let a = needed (agrees o s.memory) 25 _ g.1 in
        subst (Performs t s) (ok_inj a.1) (record {
          action = Sync n k o;
          later = rs;
          first = q;
          rest = refl;
          buffer_here = sym (append-nil (s.buffer t));
          buffer_there = λ u ne. refl;
          memory = stored-sees n o s.memory;
          turns = sym (add-one s.turns);
          sound = λ c is h. (
            sym (h.buffer t) ∙ nil_is (s.buffer t) f.0,
            eqb-true _ _ g.0 ∙ ap suc h.turns,
            agrees-sound o s.memory (memory_at c is) h.memory a.0,
          );
        })

-- ── The state along a run ──
record Along (c : Case) (is : List RunItem) (s : RunState) : Type 0 where
  rows : (t : ℕ) → Row (thread c t) (performed t is) (drained t is) (s.rest t) (s.buffer t)
  memory : (x : ℕ) → s.memory x ≡ memory_at c is x
  turns : s.turns ≡ turns_passed c is

module _ {c : Case} {is : List RunItem} {s : RunState} (h : Along c is s) where
  after : After c is s
  after = record { rest = λ t. (h.rows t).left; buffer = λ t. (h.rows t).waiting; memory = h.memory; turns = h.turns }

  -- one item more, by which these writes land
  memory_more : (i : RunItem) (ws : List Waiting) (m : ℕ → ℕ)
      → lands c is i ≡ ws → ((x : ℕ) → m x ≡ sees x ws (s.memory x)) → (x : ℕ) → m x ≡ memory_at c (is ++ (i ∷ [])) x
  memory_more i ws m e step x =
      let more = brought-more (lands c) is i ∙ ap (λ k. landed c is ++ k) e in
      step x ∙ ap (sees x ws) (h.memory x)
      ∙ sym (ap (λ l. sees x l (default x)) more ∙ sees-append x (landed c is) ws (default x))

  turns_more : (i : RunItem) (qs : List Action) (n : ℕ)
      → synchronized c is i ≡ qs → n ≡ s.turns + length qs → n ≡ turns_passed c (is ++ (i ∷ []))
  turns_more i qs n e step =
      step ∙ ap (λ m. m + length qs) h.turns
      ∙ sym (ap length (brought-more (synchronized c) is i ∙ ap (λ k. brought (synchronized c) is ++ k) e) ∙ length-append (brought (synchronized c) is) qs)

  -- the action that is performed is the next in program order
  next_action : (t : ℕ) (s' : RunState) (p : Performs t s s') → slice_get (thread c t) (performed t is) ≡ Some p.action
  next_action t s' p = (next (performed t is) (thread c t) (sym (h.rows t).left ∙ p.first)).is

  along_perform : (t : ℕ) (s' : RunState) → Performs t s s' → Along c (is ++ (Perform t ∷ [])) s'
  along_perform t s' p =
      let now = Perform t ∷ [] in
      let same : (u : ℕ) → drained u is ≡ drained u (is ++ now) = λ u. sym (drained-append u is now ∙ add-zero _) in
      record {
        rows = everywhere _ t
            (same_row (sym (count-here t _ _ (performed-append t is now))) (same t)
            (sym (ap (λ f. f t) p.rest ∙ upd_at s.rest t p.later)) (sym p.buffer_here)
            (row-performs (same_row refl refl p.first refl (h.rows t))))
            (λ u ne. same_row (sym (count-there t u _ _ ne (performed-append u is now))) (same u)
            (sym (ap (λ f. f u) p.rest ∙ upd_off s.rest t p.later u ne)) (sym (p.buffer_there u ne)) (h.rows u));
        memory = memory_more (Perform t) _ s'.memory (ap volatile_write (next_action t s' p)) p.memory;
        turns = turns_more (Perform t) _ s'.turns (ap sync_in (next_action t s' p)) p.turns;
      }

  along_drain : (t : ℕ) (s' : RunState) → runs s (Drain t) ≡ Ok s' → Along c (is ++ (Drain t ∷ [])) s'
  along_drain t s' e = by (s.buffer t) refl e
    where
      by : (b : List Waiting) → s.buffer t ≡ b → drain t s b ≡ Ok s' → Along c (is ++ (Drain t ∷ [])) s'
      by [] q d = absurd (not_ok d)
      by (waits n x ∷ b) q d =
          let now = Drain t ∷ [] in
          let same : (u : ℕ) → performed u is ≡ performed u (is ++ now) = λ u. sym (performed-append u is now ∙ add-zero _) in
          let row = same_row refl refl refl q (h.rows t) in
          subst (Along c (is ++ now)) (ok_inj d) (record {
            rows = everywhere _ t
                (same_row (same t) (sym (count-here t _ _ (drained-append t is now))) refl
                (sym (upd_at s.buffer t b)) (row-drains row))
                (λ u ne. same_row (same u) (sym (count-there t u _ _ ne (drained-append u is now))) refl
                (sym (upd_off s.buffer t b u ne)) (h.rows u));
            memory = memory_more (Drain t) _ (upd s.memory x n) (ap one (row-oldest row)) (λ y. refl);
            turns = turns_more (Drain t) [] s.turns refl (sym (add-zero s.turns));
          })

  along_more : (i : RunItem) (s' : RunState) → runs s i ≡ Ok s' → Along c (is ++ (i ∷ [])) s'
  along_more (Perform t) s' e = along_perform t s' (performs t s s' e)
  along_more (Drain t) s' e = along_drain t s' e

along : (c : Case) (is : List Item) (s : RunState) → reached (run_machine c) is ≡ Ok s → Along c (said run_item is) s
along c is s e = kept run_item run_step_of (λ r. refl) (Along c) (λ done i r r' h. along_more h i r') is (fresh_run c) s fresh e
  where
    fresh : Along c [] (fresh_run c)
    fresh = record { rows = λ t. record { left = refl; waiting = refl; enough = omega arith }; memory = λ x. refl; turns = refl }

pub run_laws_lem : RunLaws
run_laws_lem = record {
  after = λ c is s e. after (along c is s e);
  sound = λ c is i s t e q.
      let r = feed-last run_step is i (Ok (fresh_run c)) e in
      let h = along c is r.0 r.1 in
      let p = performs t r.0 s (ap (run_step_of r.0) (sym q) ∙ r.2) in
      (p.action, next_action h t s p, p.sound c (said run_item is) (after h));
}
