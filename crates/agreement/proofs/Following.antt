-- One thread along the run: what is told of its places before each item, and how an item changes it.
use Rattle.std.proofs.Common.{◌≡◌, ℕ, suc, ◌+◌, ◌<◌, ◌≤◌, Bool, true, false, cond, not, ◌||◌, eqb, ltb, List, [], ◌∷◌, ◌++◌, length, get_or, sym, refl, ap, ◌∙◌, subst, ap₂, ⊎_elim, append-nil, arith}
use Rattle.std.specs.List.{AllByRecursion}
use Rattle.std.proofs.ByRecursion.{All-append}
use Rattle.std.proofs.lemmas.Bool.{false≢true, eqb-true, eq-eqb, lt-ltb, ltb-true, not-false, not_from_true, or_parts, or_cases, cond-true, cond-false, cond_both}
use Rattle.records.specs.declared.action.Action.{Action}
use Rattle.records.specs.declared.action.Action.TheVariants.{Read, Write}
use Rattle.records.specs.Actions.{name_of}
use Rattle.records.specs.Names.{Case, thread}
use Rattle.machines.specs.declared.items.RunItem.{RunItem}
use Rattle.machines.specs.declared.items.RunItem.TheVariants.{Perform, Drain}
use Rattle.machines.specs.Run.{Waiting, waits, sees}
use Rattle.agreement.specs.Convert.{Group, group, holds, joins, Mark, shifts, passing, settling}
use Rattle.agreement.specs.Moments.{count, index, performs, drains, is_read, is_write, no_action, action_at, writes_before, performed}
use Rattle.agreement.specs.Moments.{drained, effect_of, effect, served_by, host_of, host, earlier, over, moves_of}
use Rattle.agreement.proofs.Relations.{waits_of, waits_of-snoc, waits_of-joins}
use Rattle.agreement.proofs.Dictionary.{before_head}
use Rattle.agreement.proofs.Tallies.{all-each, one_if, one_left, one_right, tally_by, tally-append, tally-snoc, tally_zero}
use Rattle.agreement.proofs.Tallies.{count_none}
use Rattle.agreement.proofs.Groups.{Alike, a_nil, alike-snoc, alike-joins, places, writes_in, newest_first, newest_to}
use Rattle.agreement.proofs.Groups.{newest_first-snoc, newest_first-length, places-snoc, all-writes, newest_in, newest_first-joins}
use Rattle.agreement.proofs.Groups.{tally-joins}
use Rattle.agreement.proofs.Indices.{index-skip, index-first, index-next}
use Rattle.agreement.proofs.Waiting.{when, Grouped, Goes, host-write, effect-write, when-host, not_yet, dues-writes, dues}
use Rattle.agreement.proofs.Waiting.{grouped-snoc, grouped-join, served_none, served_old, served_newest}
use Rattle.agreement.proofs.Passing.{Marked, marked, over_none, over-all, over-newer}

-- ── The waiting writes of groups by places ──
module _ (c : Case) (t : ℕ) where
  abbrev pub calls : List Group → List Waiting
  calls [] = []
  calls (group q y ps ∷ hs) = waits (name_of (action_at c t q)) y ∷ calls hs

  calls-snoc : (q y : ℕ) (hs : List Group)
      → calls (hs ++ (group q y [] ∷ [])) ≡ calls hs ++ (waits (name_of (action_at c t q)) y ∷ [])
  calls-snoc q y [] = refl
  calls-snoc q y (group p z ps ∷ hs) = ap {B = List Waiting} (λ l. waits (name_of (action_at c t p)) z ∷ l) (calls-snoc q y hs)

  calls-joins : (n x : ℕ) (hs : List Group) → calls (joins n x hs) ≡ calls hs
  calls-joins n x [] = refl
  calls-joins n x (group q y ps ∷ hs) =
      let w = waits (name_of (action_at c t q)) y in
      cond_both (holds x hs) (group q y ps ∷ joins n x hs) (group q y (ps ++ (n ∷ [])) ∷ hs) (λ g. calls g ≡ w ∷ calls hs)
      (λ _. ap {B = List Waiting} (λ l. w ∷ l) (calls-joins n x hs)) (λ _. refl)

  pub sees-none : (x m : ℕ) (hs : List Group) → holds x hs ≡ false → sees x (calls hs) m ≡ m
  sees-none x m [] h = refl
  sees-none x m (group q y ps ∷ hs) h =
      let o = or_parts (eqb x y) (holds x hs) h in
      sees-none x (cond (eqb x y) (name_of (action_at c t q)) m) hs o.1 ∙ cond-false (eqb x y) _ m o.0

  -- whatever test the first group passes, the newest is found
  newest_cases : (P : ℕ → Type 0) (x q y : ℕ) (hs : List Group) → (eqb x y || holds x hs) ≡ true
      → (holds x hs ≡ true → P (newest_to x hs)) → (holds x hs ≡ false → eqb x y ≡ true → P q)
      → P (cond (holds x hs) (newest_to x hs) q)
  newest_cases P x q y hs o newer this =
      cond_both (holds x hs) (newest_to x hs) q P newer
      (λ e. this e (⊎_elim (λ (k : eqb x y ≡ true). k) (λ (k : holds x hs ≡ true). absurd (false≢true (sym e ∙ k)))
      (or_cases (eqb x y) (holds x hs) o)))

  pub sees_newest : (x m : ℕ) (hs : List Group) → holds x hs ≡ true → sees x (calls hs) m ≡ name_of (action_at c t (newest_to x hs))
  sees_newest x m [] h = absurd (false≢true h)
  sees_newest x m (group q y ps ∷ hs) h =
      let m' = cond (eqb x y) (name_of (action_at c t q)) m in
      newest_cases (λ z. sees x (calls hs) m' ≡ name_of (action_at c t z)) x q y hs h
      (λ e. sees_newest x m' hs e) (λ e k. sees-none x m' hs e ∙ cond-true (eqb x y) _ m k)

  pub newest_kind : (js : List RunItem) (x d : ℕ) (hs : List Group) → Grouped c js t d hs → holds x hs ≡ true
      → action_at c t (newest_to x hs) ≡ Write (name_of (action_at c t (newest_to x hs))) x
  newest_kind js x d [] gr h = absurd (false≢true h)
  newest_kind js x d (group q y ps ∷ hs) gr h =
      let w = gr.0.kind in
      newest_cases (λ z. action_at c t z ≡ Write (name_of (action_at c t z)) x) x q y hs h
      (λ e. newest_kind js x (suc d) hs gr.2 e)
      (λ e k. w.1 ∙ ap₂ {C = Action} (λ n z. Write n z) (sym (ap name_of w.1)) (sym (eqb-true x y k)))

same-tail : {u v : Waiting} {a b : List Waiting} → u ∷ a ≡ v ∷ b → a ≡ b
same-tail e = cc

-- ── Where a thread stands ──
-- its next place, the places that have come, the waiting writes with their reads, the drained writes, newest first
pub record Row : Type 0 where
  pub next : ℕ
  pub come : List ℕ
  pub held : List Group
  pub old : List ℕ

-- after its next action comes, or is a write that waits, or a read of x that joins; with other groups; after its oldest
-- group is drained
abbrev pub row_comes : Row → Row
row_comes s = record { next = suc s.next; come = s.come ++ (s.next ∷ []); held = s.held; old = s.old }

abbrev pub row_writes : ℕ → Row → Row
row_writes x s = record { next = suc s.next; come = s.come; held = s.held ++ (group s.next x [] ∷ []); old = s.old }

abbrev pub row_joins : ℕ → Row → Row
row_joins x s = record { next = suc s.next; come = s.come; held = joins s.next x s.held; old = s.old }

abbrev pub row_holding : List Group → Row → Row
row_holding hs s = record { next = s.next; come = s.come; held = hs; old = s.old }

abbrev pub row_drains : ℕ → List ℕ → List Group → Row → Row
row_drains q ps hs s = record { next = s.next; come = s.come ++ (q ∷ ps); held = hs; old = q ∷ s.old }

module _ (c : Case) (js : List RunItem) (t : ℕ) where
  pub sooner-comes : (p z : ℕ) → when c js t p < when c js t z → earlier c js t p z ≡ true
  sooner-comes p z l = before_head (when c js t p) (when c js t z) (t ∷ host c js t p ∷ p ∷ []) (t ∷ host c js t z ∷ z ∷ []) l

  -- at index i of the run, with the items `is` to come, `rest` to perform, b waiting and gs the groups by names
  pub record Follows (i : ℕ) (is : List RunItem) (s : Row) (rest : List Action) (b : List Waiting)
      (gs : List Group) : Type 0 where
    -- the actions and items ahead
    pub actions-ahead : (k : ℕ) → action_at c t (s.next + k) ≡ get_or rest k no_action
    pub actions-left : s.next + length rest ≡ length (thread c t)
    pub performs-ahead : (k : ℕ) → index (performs t) (s.next + k) js ≡ i + index (performs t) k is
    pub drains-ahead : (k : ℕ) → index (drains t) (length s.old + k) js ≡ i + index (drains t) k is
    -- what waits, by names and by places
    pub alike : Alike gs s.held
    pub by_name : waits_of gs ≡ b
    pub by_place : b ≡ calls c t s.held
    pub grouped : Grouped c js t (length s.old) s.held
    pub wrote : writes_before c t s.next ≡ newest_first s.held s.old
    -- what has come
    pub past : AllByRecursion (λ q. (when c js t q < i) × (drained c js t q < i)) s.old
    pub gone : AllByRecursion (λ p. when c js t p < i) s.come
    pub each-once : (f : ℕ → Bool) → count f s.next ≡ tally_by f s.come + tally_by f (places s.held)

  -- ── An item that is not this thread's ──
  pub stands_by : (i : ℕ) (j : RunItem) (is : List RunItem) (s : Row) (rest : List Action) (b : List Waiting) (gs : List Group)
      → performs t j ≡ false → drains t j ≡ false → Follows i (j ∷ is) s rest b gs → Follows (suc i) is s rest b gs
  stands_by i j is s rest b gs p d v =
      record {
        actions-ahead = v.actions-ahead;
        actions-left = v.actions-left;
        performs-ahead = λ k. let x = v.performs-ahead k in let y = index-skip (performs t) k j is p in omega arith;
        drains-ahead = λ k. let x = v.drains-ahead k in let y = index-skip (drains t) k j is d in omega arith;
        alike = v.alike;
        by_name = v.by_name;
        by_place = v.by_place;
        grouped = v.grouped;
        wrote = v.wrote;
        past = all-each (λ q h. (omega arith, omega arith)) s.old v.past;
        gone = all-each (λ q h. omega arith) s.come v.gone;
        each-once = v.each-once;
      }

  -- ── Its next action is performed ──
  module _ (i : ℕ) (is : List RunItem) (s : Row) (a : Action) (rs : List Action) (b : List Waiting) (gs : List Group)
      (v : Follows i (Perform t ∷ is) s (a ∷ rs) b gs) where
    pub next_action : action_at c t s.next ≡ a
    next_action = let e : s.next ≡ s.next + 0 = omega arith in ap (action_at c t) e ∙ v.actions-ahead 0

    pub next-now : performed c js t s.next ≡ i
    next-now =
        let e : s.next ≡ s.next + 0 = omega arith in
        let f = v.performs-ahead 0 in
        let g = index-first (performs t) (Perform t) is (eq-eqb t t refl) in
        ap (λ k. index (performs t) k js) e ∙ (omega arith)

    drains-later : (k : ℕ) → index (drains t) (length s.old + k) js ≡ suc i + index (drains t) k is
    drains-later k = let f = v.drains-ahead k in let g = index-skip (drains t) k (Perform t) is refl in omega arith

    -- waiting writes come later, and all of them and their reads are before the next place
    later-writes : AllByRecursion (λ q. i < drained c js t q) (writes_in s.held)
    later-writes = dues-writes c js t (λ z. i < z) (length s.old) s.held v.grouped
        (λ k. let f = drains-later k in omega arith)

    later : AllByRecursion (λ x. i < when c js t x) (places s.held)
    later = dues c js t (λ z. i < z) (length s.old) s.held v.grouped later-writes

    low : AllByRecursion (λ x. x < s.next) (places s.held)
    low =
        let f : ℕ → Bool = λ k. not (ltb k s.next) in
        let e = v.each-once f in
        let z = count_none f s.next (λ k l. not_from_true (ltb k s.next) (lt-ltb k s.next l)) in
        all-each (λ x h. ltb-true x s.next (not-false (ltb x s.next) h)) (places s.held)
        (tally_zero f (places s.held) (omega arith))

    low-writes : AllByRecursion (λ q. q < s.next) (writes_in s.held)
    low-writes = all-writes (λ q. q < s.next) s.held low

    -- what is alike however the action goes on; the rest is what has come and what waits
    onward : (s' : Row) (b' : List Waiting) (gs' : List Group) → s'.next ≡ suc s.next → s'.old ≡ s.old
        → Alike gs' s'.held → waits_of gs' ≡ b' → b' ≡ calls c t s'.held → Grouped c js t (length s.old) s'.held
        → writes_before c t (suc s.next) ≡ newest_first s'.held s.old → AllByRecursion (λ p. when c js t p < suc i) s'.come
        → ((f : ℕ → Bool) → one_if (f s.next) (tally_by f s.come + tally_by f (places s.held))
        ≡ tally_by f s'.come + tally_by f (places s'.held))
        → Follows (suc i) is s' rs b' gs'
    onward s' b' gs' en eo al bn bp gr wr go eq =
        record {
          actions-ahead = λ k.
              let e : s'.next + k ≡ s.next + suc k = omega arith in
              ap (action_at c t) e ∙ v.actions-ahead (suc k);
          actions-left = let e = v.actions-left in omega arith;
          performs-ahead = λ k.
              let e : s'.next + k ≡ s.next + suc k = omega arith in
              let f = v.performs-ahead (suc k) in
              let g = index-next (performs t) k (Perform t) is (eq-eqb t t refl) in
              ap (λ k. index (performs t) k js) e ∙ (omega arith);
          drains-ahead = λ k. ap (λ l. index (drains t) (length l + k) js) eo ∙ drains-later k;
          alike = al;
          by_name = bn;
          by_place = bp;
          grouped = subst (λ l. Grouped c js t (length l) s'.held) (sym eo) gr;
          wrote = ap (writes_before c t) en ∙ wr ∙ ap (newest_first s'.held) (sym eo);
          past = subst (AllByRecursion (λ q. (when c js t q < suc i) × (drained c js t q < suc i))) (sym eo)
              (all-each (λ q h. (omega arith, omega arith)) s.old v.past);
          gone = go;
          each-once = λ f. ap (count f) en ∙ ap (one_if (f s.next)) (v.each-once f) ∙ eq f;
        }

    gone_on : AllByRecursion (λ p. when c js t p < suc i) s.come
    gone_on = all-each (λ q h. omega arith) s.come v.gone

    -- no write: the writes before the next place are the same
    no_write : is_write a ≡ false → writes_before c t (suc s.next) ≡ newest_first s.held s.old
    no_write e = cond-false (is_write (action_at c t s.next)) _ _ (ap is_write next_action ∙ e) ∙ v.wrote

    -- it comes now
    pub step-come : is_write a ≡ false → when c js t s.next ≡ i → Follows (suc i) is (row_comes s) rs b gs
    step-come e w =
        onward (row_comes s) b gs refl refl v.alike v.by_name v.by_place v.grouped (no_write e)
        (All-append (λ p. when c js t p < suc i) s.come (s.next ∷ []) gone_on ((omega arith), tt))
        (λ f.
        let waiting = tally_by f (places s.held) in
        sym (one_left (f s.next) (tally_by f s.come) waiting)
        ∙ ap (λ z. z + waiting) (sym (tally-snoc f s.come s.next)))

    -- a write: it waits
    pub step-write : (n x : ℕ) → a ≡ Write n x
        → Follows (suc i) is (row_writes x s) rs (b ++ (waits n x ∷ [])) (gs ++ (group n x [] ∷ []))
    step-write n x e =
        onward (row_writes x s) (b ++ (waits n x ∷ [])) (gs ++ (group n x [] ∷ [])) refl refl (alike-snoc n x s.next v.alike)
        (waits_of-snoc gs n x [] ∙ ap {B = List Waiting} (λ b. b ++ (waits n x ∷ [])) v.by_name)
        (ap₂ {C = List Waiting} (λ b k. b ++ (waits k x ∷ [])) v.by_place (sym (ap name_of (next_action ∙ e)))
        ∙ sym (calls-snoc c t s.next x s.held))
        (grouped-snoc c js t (length s.old) s.next x s.held v.grouped low-writes (record {
          kind = (n, next_action ∙ e);
          rank = ap length v.wrote ∙ newest_first-length s.held s.old;
          readers = tt;
          ascending = tt;
        }))
        (cond-true (is_write (action_at c t s.next)) _ _ (ap is_write (next_action ∙ e))
        ∙ ap {B = List ℕ} (λ l. s.next ∷ l) v.wrote ∙ sym (newest_first-snoc s.held s.next x s.old))
        gone_on
        (λ f.
        let came = tally_by f s.come in
        sym (one_right (f s.next) came (tally_by f (places s.held))) ∙ ap (λ z. came + z)
        (sym (ap (tally_by f) (places-snoc s.held s.next x) ∙ tally-snoc f (places s.held) s.next)))

    -- ── A read ──
    module _ (n x r : ℕ) (e : a ≡ Read n x r) where
      host_is : host c js t s.next ≡ served_by c js t s.next x (newest_first s.held s.old)
      host_is = ap (host_of c js t s.next) (next_action ∙ e) ∙ ap (served_by c js t s.next x) v.wrote

      -- that sees memory comes now
      pub free-host : holds x s.held ≡ false → host c js t s.next ≡ s.next
      free-host h =
          host_is ∙ served_none c js t s.next x (length s.old) s.held s.old v.grouped h
          ∙ served_old c js t s.next x s.old (all-each (λ q k. let z = next-now in omega arith) s.old v.past)

      pub free-when : holds x s.held ≡ false → when c js t s.next ≡ i
      free-when h = ap (effect c js t) (free-host h) ∙ ap (effect_of c js t s.next) (next_action ∙ e) ∙ next-now

      -- that sees a waiting write goes with it
      pub join-host : holds x s.held ≡ true → host c js t s.next ≡ newest_to x s.held
      join-host h =
          host_is ∙ served_newest c js t s.next x (length s.old) s.held s.old v.grouped h
          (all-each (λ q k. let z = next-now in omega arith) (writes_in s.held) later-writes)

      pub step-join : holds x s.held ≡ true → Follows (suc i) is (row_joins x s) rs b (joins n x gs)
      step-join h =
          onward (row_joins x s) b (joins n x gs) refl refl (alike-joins n s.next x v.alike)
          (waits_of-joins n x gs ∙ v.by_name)
          (v.by_place ∙ sym (calls-joins c t s.next x s.held))
          (grouped-join c js t s.next x (ap is_read (next_action ∙ e)) (length s.old) s.held v.grouped low h
          (join-host h))
          (no_write (ap is_write e) ∙ sym (newest_first-joins s.next x s.held s.old)) gone_on
          (λ f.
          let came = tally_by f s.come in
          sym (one_right (f s.next) came (tally_by f (places s.held)))
          ∙ ap (λ z. came + z) (sym (tally-joins s.next x f s.held h)))

      -- ── Its moves ──
      marks-are : Marked c js t s.next (length s.come) s.held
      marks-are =
          marked c js t s.next s.come (length s.old) s.held v.grouped
          (all-each (λ p h. all-each (λ z k. sooner-comes p z (omega arith)) (places s.held) later) s.come v.gone)
          (all-each (λ p h. other p h s.held (length s.old) v.grouped later-writes) s.come v.gone)
          (λ f. v.each-once f ∙ sym (tally-append f s.come (places s.held)))
        where
          other : (p : ℕ) → when c js t p < i → (hs : List Group) (d : ℕ) → Grouped c js t d hs
              → AllByRecursion (λ q. i < drained c js t q) (writes_in hs) → AllByRecursion (λ z. host c js t p ≡ z → ⊥) (writes_in hs)
          other p h [] d gr l = tt
          other p h (group q y ps ∷ hs) d gr l =
              ((λ k. let o = when-host c js t gr.0 p k in let u = l.0 in omega arith), other p h hs (suc d) gr.2 l.1)

      behind-old : i ≤ when c js t s.next → AllByRecursion (λ q. earlier c js t s.next q ≡ false) s.old
      behind-old l = all-each (λ q h. not_yet c js t q s.next (sooner-comes q s.next (omega arith))) s.old v.past

      moves_are : moves_of c js t s.next (action_at c t s.next) ≡ over c js t s.next (newest_first s.held s.old)
      moves_are = ap (moves_of c js t s.next) (next_action ∙ e) ∙ ap (over c js t s.next) v.wrote

      pub free-moves : holds x s.held ≡ false
          → moves_of c js t s.next (action_at c t s.next) ≡ shifts (length s.come) (passing s.held)
      free-moves h =
          let w = free-when h in
          let ms = shifts (length s.come) (passing s.held) in
          moves_are
          ∙ over-all c js t s.next s.held s.old (length s.come) marks-are
          (all-writes (λ q. earlier c js t s.next q ≡ true) s.held
          (all-each (λ z k. sooner-comes s.next z (omega arith)) (places s.held) later))
          ∙ ap {B = List Mark} (λ l. ms ++ l) (over_none c js t s.next s.old (behind-old (omega arith))) ∙ append-nil ms

      pub join-moves : holds x s.held ≡ true
          → moves_of c js t s.next (action_at c t s.next) ≡ shifts (length s.come) (settling x s.held)
      join-moves h =
          moves_are
          ∙ over-newer c js t s.next x (length s.old) s.held s.old (length s.come)
          v.grouped low-writes h goes marks-are (behind-old late)
        where
          effects : (hs : List Group) (d : ℕ) → Grouped c js t d hs → AllByRecursion (λ q. effect c js t q ≡ drained c js t q) (writes_in hs)
          effects [] d gr = tt
          effects (group q y ps ∷ hs) d gr = (effect-write c js t gr.0, effects hs (suc d) gr.2)

          comes_with : when c js t s.next ≡ drained c js t (newest_to x s.held)
          comes_with =
              ap (effect c js t) (join-host h)
              ∙ newest_in (λ q. effect c js t q ≡ drained c js t q) x s.held h
              (effects s.held (length s.old) v.grouped)

          goes : Goes c js t (newest_to x s.held) s.next
          goes = ap₂ {C = List ℕ} (λ k z. k ∷ t ∷ z ∷ s.next ∷ []) comes_with (join-host h)

          late : i ≤ when c js t s.next
          late = let l = newest_in (λ q. i < drained c js t q) x s.held h later-writes in let q = comes_with in omega arith

  -- ── Its oldest write is drained ──
  module _ (i : ℕ) (is : List RunItem) (s : Row) (rest : List Action) (b : List Waiting) (gs ks : List Group) (q y : ℕ)
      (ps : List ℕ) (hs : List Group) (r : Alike ks hs)
      (v : Follows i (Drain t ∷ is) (row_holding (group q y ps ∷ hs) s) rest b gs) where
    pub drained-now : drained c js t q ≡ i
    drained-now =
        let e : length s.old ≡ length s.old + 0 = omega arith in
        let f = v.drains-ahead 0 in
        let g = index-first (drains t) (Drain t) is (eq-eqb t t refl) in
        ap (λ k. index (drains t) k js) (v.grouped.0.rank ∙ e) ∙ (omega arith)

    pub drain-when : AllByRecursion (λ p. when c js t p ≡ i) (q ∷ ps)
    drain-when = (
      when-host c js t v.grouped.0 q (host-write c js t v.grouped.0) ∙ drained-now,
      all-each (λ p h. when-host c js t v.grouped.0 p h.1 ∙ drained-now) ps v.grouped.0.readers,
    )

    pub step-drain : (w : Waiting) (b' : List Waiting) → b ≡ w ∷ b' → waits_of ks ≡ b'
        → Follows (suc i) is (row_drains q ps hs s) rest b' ks
    step-drain w b' eb ek =
        record {
          actions-ahead = v.actions-ahead;
          actions-left = v.actions-left;
          performs-ahead = λ k. let x = v.performs-ahead k in let z = index-skip (performs t) k (Drain t) is refl in omega arith;
          drains-ahead = λ k.
              let f = v.drains-ahead (suc k) in
              let g = index-next (drains t) k (Drain t) is (eq-eqb t t refl) in
              let e : suc (length s.old) + k ≡ length s.old + suc k = omega arith in
              ap (λ k. index (drains t) k js) e ∙ (omega arith);
          alike = r;
          by_name = ek;
          by_place = same-tail (sym eb ∙ v.by_place);
          grouped = v.grouped.2;
          wrote = v.wrote;
          past = (
            (let e = drain-when.0 in omega arith, let e = drained-now in omega arith),
            all-each (λ q h. (omega arith, omega arith)) s.old v.past,
          );
          gone = All-append (λ p. when c js t p < suc i) s.come (q ∷ ps) (all-each (λ q h. omega arith) s.come v.gone)
              (all-each (λ p h. omega arith) (q ∷ ps) drain-when);
          each-once = λ f.
              v.each-once f
              ∙ (let g = tally-append f s.come (q ∷ ps) in let h = tally-append f (q ∷ ps) (places hs) in omega arith);
        }

-- ── Before the first item ──
abbrev pub new_row : Row
new_row = record { next = 0; come = []; held = []; old = [] }

pub follows-first : (c : Case) (is : List RunItem) (u : ℕ) → Follows c is u 0 is new_row (thread c u) [] []
follows-first c is u =
    record {
      actions-ahead = λ k. let e : 0 + k ≡ k = omega arith in ap (action_at c u) e;
      actions-left = omega arith;
      performs-ahead = λ k. let e : 0 + k ≡ k = omega arith in ap (λ z. index (performs u) z is) e ∙ (omega arith);
      drains-ahead = λ k. let e : 0 + k ≡ k = omega arith in ap (λ z. index (drains u) z is) e ∙ (omega arith);
      alike = a_nil;
      by_name = refl;
      by_place = refl;
      grouped = tt;
      wrote = refl;
      past = tt;
      gone = tt;
      each-once = λ f. refl;
    }
