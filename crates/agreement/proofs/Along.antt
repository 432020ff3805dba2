-- All threads along a complete run: the plan follows the moments, and the indices are what the machine does.
use Rattle.std.proofs.Common.{◌≡◌, ℕ, suc, ◌+◌, ◌-◌, ◌<◌, ◌≤◌, Bool, true, false, eqb, ◌≢◌, List, [], ◌∷◌, ◌++◌, length, get_or, Ok, sym, refl, ap, ◌∙◌, subst, ap₂, inl, inr, ⊎_elim, arith, length-append}
use mathlib.Core.Path.{fun_ext}
use Rattle.std.specs.List.{AllByRecursion}
use Rattle.std.proofs.lemmas.Bool.{false≢true, ne_eqb, cases_eq}
use Rattle.records.specs.declared.action.Action.{Action}
use Rattle.records.specs.declared.action.Action.TheVariants.{Read, Write, Sync}
use Rattle.records.specs.declared.action.SyncOp.{SyncOp}
use Rattle.records.specs.Actions.{name_of}
use Rattle.records.specs.Names.{Case, thread, default}
use Rattle.machines.specs.declared.items.RunItem.{RunItem}
use Rattle.machines.specs.declared.items.RunItem.TheVariants.{Perform, Drain}
use Rattle.machines.specs.Memory.{upd, stored}
use Rattle.machines.specs.Run.{Waiting, waits, RunState, sees, runs, fresh_run}
use Rattle.agreement.specs.Convert.{Group, group, holds, joins, Mark, shift, shifts, passing, settling, Plan, each, plan_read}
use Rattle.agreement.specs.Convert.{plan_perform, plan_drain, plan, comings, all_moves, emitted}
use Rattle.agreement.specs.Moments.{count, is_read, is_write, no_action, action_at, Site, site, threads_in, times, performed, effect_of}
use Rattle.agreement.specs.Moments.{effect, host_of, host, Rising, moves_of, moves_from, Converted, Saw, Served, Told}
use Rattle.machines.proofs.Tables.{upd_at, upd_off}
use Rattle.agreement.proofs.Updates.{on₂, on₃, on₄, back₁₀, back₂₀, back₁₁, back₂₁, From, below, from_upd}
use Rattle.agreement.proofs.Relations.{Run, r_end, r_write, r_read, r_sync, r_drain, waits_of, waits_of-cons}
use Rattle.agreement.proofs.RunSteps.{t_read, t_write, t_sync, t_drain, taken-run, run_at}
use Rattle.agreement.proofs.Tallies.{all-each, tally_by, tally-append, count-one}
use Rattle.agreement.proofs.Groups.{Alike, alike-holds, alike-passing, alike-settling, alike-each, oldest, alike-nil, places}
use Rattle.agreement.proofs.Groups.{newest_to}
use Rattle.agreement.proofs.Shifts.{shifts-nil, shifts-append, shifts-more}
use Rattle.agreement.proofs.Waiting.{when, RisingIn, rise, dues-writes, dues}
use Rattle.agreement.proofs.Following.{calls, sees-none, sees_newest, newest_kind, Row, row_comes, row_writes, row_joins}
use Rattle.agreement.proofs.Following.{row_holding, row_drains}
use Rattle.agreement.proofs.Following.{Follows, stands_by, next_action, next-now, step-come, step-write, free-host, free-when}
use Rattle.agreement.proofs.Following.{join-host, step-join, free-moves, join-moves, drained-now, drain-when, step-drain, new_row}
use Rattle.agreement.proofs.Following.{follows-first}
use Rattle.agreement.proofs.Sites.{each_site, flushed_sites, threads-each, threads-flushed, times-same, times-off, times-flushed}
use Rattle.agreement.proofs.Sites.{Late, late_down, late-each, first-late, rising-each, rising-left, rising-flushed, late-flushed}

module _ (c : Case) (js : List RunItem) where
  -- ── What is told from an index on ──
  -- place r of thread u comes once if it is an action: in these places of the thread or in the list
  abbrev pub OnceIn : List ℕ → List Site → ℕ → ℕ → Type 0
  OnceIn ps l u r = tally_by (λ k. eqb r k) ps + times u r l ≡ count (λ k. eqb r k) (length (thread c u))

  -- of the plan p and the machine's state m before the items `is`, with the rows st
  pub record Outcome (p : Plan) (i : ℕ) (is : List RunItem) (m : RunState) (st : ℕ → Row) : Type 0 where
    pub order : List Site
    pub same : threads_in order ≡ p.order
    pub rising : Rising c js order
    pub late : Late c js i order
    pub once : (u r : ℕ) → OnceIn (st u).come order u r
    pub moves_are : (u : ℕ) → moves_from c js u (length (m.rest u)) (st u).next ≡ shifts (length (st u).come) (p.marks u)
    pub saw : (u r : ℕ) → (st u).next ≤ r → Saw c js u r
    pub told : Told c js i (Ok m) is

  -- the action that was just performed saw its host, and so did those behind it
  saw-each : (t : ℕ) (st : ℕ → Row) (s : Row) → s.next ≡ suc (st t).next → Saw c js t (st t).next
      → ((u r : ℕ) → (upd st t s u).next ≤ r → Saw c js u r) → (u r : ℕ) → (st u).next ≤ r → Saw c js u r
  saw-each t st s e w h =
      back₁₀ t (λ u s. (r : ℕ) → s.next ≤ r → Saw c js u r) st h
      (λ m r l. ⊎_elim (λ (q : r ≡ (st t).next). subst (λ z. Saw c js t z) (sym q) w) (λ (q : r ≢ (st t).next). m r (omega arith))
      (cases_eq r (st t).next))

  -- some actions of a thread come first
  once-each : (t : ℕ) (xs : List ℕ) (l : List Site) (st : ℕ → Row) (s : Row) → s.come ≡ (st t).come ++ xs
      → ((u r : ℕ) → OnceIn (upd st t s u).come l u r) → (u r : ℕ) → OnceIn (st u).come (each_site t xs l) u r
  once-each t xs l st s e h u r =
      ⊎_elim (λ (q : u ≡ t). subst (λ v. OnceIn (st v).come (each_site t xs l) v r) (sym q) at_t) off (cases_eq u t)
    where
      at_t : OnceIn (st t).come (each_site t xs l) t r
      at_t =
          let a = ap (λ z. tally_by (λ k. eqb r k) z.come) (upd_at st t s) in
          let b = ap (tally_by (λ k. eqb r k)) e ∙ tally-append (λ k. eqb r k) (st t).come xs in
          let d = times-same t r xs l in
          let f = h t r in
          omega arith

      off : u ≢ t → OnceIn (st u).come (each_site t xs l) u r
      off n =
          let a = ap (λ z. tally_by (λ k. eqb r k) z.come) (upd_off st t s u n) in
          let d = times-off t u r xs l n in
          let f = h u r in
          omega arith

  -- ── One item ──
  module _ (N : ℕ) where
    -- what is told behind the item, from any rows and groups that follow
    abbrev Onward : List RunItem → RunState → ℕ → Type 0
    Onward is k i =
        (st : ℕ → Row) (gs : ℕ → List Group) → From N gs
        → ((u : ℕ) → Follows c js u (suc i) is (st u) (k.rest u) (k.buffer u) (gs u))
        → Outcome (plan N is k.rest gs) (suc i) is k st

    module _ (i t : ℕ) (is : List RunItem) (m : RunState) (st : ℕ → Row) (gs : ℕ → List Group) (fg : From N gs) (lt : t < N) where
      -- the thread t performs the action a
      module _ (a : Action) (rs : List Action) (e : m.rest t ≡ a ∷ rs)
          (inv : (u : ℕ) → Follows c js u i (Perform t ∷ is) (st u) (m.rest u) (m.buffer u) (gs u)) where
        -- the state behind it where nothing new waits, and what its read was served by
        abbrev after : (ℕ → ℕ) → ℕ → RunState
        after mem k = run_at (upd m.rest t rs) m.buffer mem k

        abbrev ServedAs : Action → Type 0
        ServedAs b = Served c js t (st t).next b (m.buffer t)

        mine : Follows c js t i (Perform t ∷ is) (st t) (a ∷ rs) (m.buffer t) (gs t)
        mine = subst (λ l. Follows c js t i (Perform t ∷ is) (st t) l (m.buffer t) (gs t)) e (inv t)

        others : (u : ℕ) → u ≢ t → Follows c js u (suc i) is (st u) (m.rest u) (m.buffer u) (gs u)
        others u n =
            stands_by c js u i (Perform t) is (st u) (m.rest u) (m.buffer u) (gs u) (ne_eqb t u (λ q. n (sym q))) refl (inv u)

        is_next : action_at c t (st t).next ≡ a
        is_next = next_action c js t i is (st t) a rs (m.buffer t) (gs t) mine

        now : performed c js t (st t).next ≡ i
        now = next-now c js t i is (st t) a rs (m.buffer t) (gs t) mine

        tell : {k : RunState} → runs m (Perform t) ≡ Ok k → ServedAs a
            → Told c js (suc i) (Ok k) is → Told c js i (Ok m) (Perform t ∷ is)
        tell q s h = (
          (
            (st t).next,
            rs,
            e ∙ ap {B = List Action} (λ a. a ∷ rs) (sym is_next),
            now,
            subst ServedAs (sym is_next) s,
          ),
          subst (λ o. Told c js (suc i) o is) (sym q) h,
        )

        -- its moves, and those of the actions behind it
        moves_on : (ms hs : List Mark) → moves_of c js t (st t).next (action_at c t (st t).next) ≡ ms
            → moves_from c js t (length rs) (suc (st t).next) ≡ hs → moves_from c js t (length (m.rest t)) (st t).next ≡ ms ++ hs
        moves_on ms hs p q = ap (λ l. moves_from c js t (length l) (st t).next) e ∙ ap₂ {C = List Mark} ◌++◌ p q

        -- it comes now, with these moves
        abbrev comes_next : Plan → List Mark → Plan
        comes_next p ms = record { marks = upd p.marks t (ms ++ shift (p.marks t)); order = t ∷ p.order }

        come-now : (mem : ℕ → ℕ) (k : ℕ) → runs m (Perform t) ≡ Ok (after mem k)
            → Onward is (after mem k) i → is_write a ≡ false
            → host c js t (st t).next ≡ (st t).next → when c js t (st t).next ≡ i → ServedAs a
            → (ms : List Mark) → moves_of c js t (st t).next (action_at c t (st t).next) ≡ shifts (length (st t).come) ms
            → (p : Plan) → p ≡ plan N is (upd m.rest t rs) gs
            → Outcome (comes_next p ms) i (Perform t ∷ is) m st
        come-now mem k ran onward w alone due sv ms mv p pe =
            let n = (st t).next in
            let count-come = length (st t).come in
            let s = row_comes (st t) in
            let h = subst (λ p. Outcome p (suc i) is (after mem k) (upd st t s)) (sym pe)
            (onward (upd st t s) gs fg (on₂ t (λ u s r. Follows c js u (suc i) is s r (m.buffer u) (gs u)) st m.rest others
            (step-come c js t i is (st t) a rs (m.buffer t) (gs t) mine w due))) in
            record {
              order = site t n ∷ h.order;
              same = ap {B = List ℕ} (λ l. t ∷ l) h.same;
              rising = (first-late c js t n (suc i) h.order (omega arith) h.late, h.rising);
              late = ((omega arith), late_down c js i h.order h.late);
              once = once-each t (n ∷ []) h.order st s refl h.once;
              moves_are = back₂₁ t (λ u r s m. moves_from c js u (length r) s.next ≡ shifts (length s.come) m) m.rest st
                  p.marks h.moves_are
                  (λ q. moves_on (shifts count-come ms) (shifts count-come (shift (p.marks t))) mv
                  (q ∙ ap (λ k. shifts k (p.marks t)) (length-append (st t).come (n ∷ []))
                  ∙ sym (shifts-more count-come 1 (p.marks t)))
                  ∙ sym (shifts-append count-come ms (shift (p.marks t))));
              saw = saw-each t st s refl (λ n x r k o. absurd (o alone)) h.saw;
              told = tell ran sv h.told;
            }

        step_sync : (n j : ℕ) (o : SyncOp) → a ≡ Sync n j o → (mem : ℕ → ℕ) (k : ℕ)
            → runs m (Perform t) ≡ Ok (after mem k)
            → Onward is (after mem k) i
            → Outcome (plan_perform (λ r g. plan N is r g) t m.rest gs (Sync n j o ∷ rs)) i (Perform t ∷ is) m st
        step_sync n j o q mem k ran onward =
            let p = is_next ∙ q in
            let alone = ap (host_of c js t (st t).next) p in
            come-now mem k ran onward (ap is_write q) alone (ap (effect c js t) alone ∙ ap (effect_of c js t (st t).next) p ∙ now)
            (subst ServedAs (sym q) tt) []
            (ap (moves_of c js t (st t).next) p ∙ sym (shifts-nil (length (st t).come))) (plan N is (upd m.rest t rs) gs) refl

        abbrev after_write : ℕ → ℕ → RunState
        after_write n x =
            run_at (upd m.rest t rs) (upd m.buffer t (m.buffer t ++ (waits n x ∷ []))) m.memory m.turns

        step-plain-write : (n x : ℕ) → a ≡ Write n x
            → runs m (Perform t) ≡ Ok (after_write n x) → Onward is (after_write n x) i
            → Outcome (plan_perform (λ r g. plan N is r g) t m.rest gs (Write n x ∷ rs)) i (Perform t ∷ is) m st
        step-plain-write n x q ran onward =
            let p = is_next ∙ q in
            let s = row_writes x (st t) in
            let g = gs t ++ (group n x [] ∷ []) in
            let ms = (plan N is (upd m.rest t rs) (upd gs t g)).marks in
            let h = onward (upd st t s) (upd gs t g) (from_upd N gs t g fg lt)
            (on₄ t (λ u s r b g. Follows c js u (suc i) is s r b g) st m.rest m.buffer gs others
            (step-write c js t i is (st t) a rs (m.buffer t) (gs t) mine n x q)) in
            record {
              order = h.order;
              same = h.same;
              rising = h.rising;
              late = late_down c js i h.order h.late;
              once = back₁₀ t (λ u s. (r : ℕ) → OnceIn s.come h.order u r) st h.once (λ z. z);
              moves_are = back₂₀ t (λ u r s. moves_from c js u (length r) s.next ≡ shifts (length s.come) (ms u))
                  m.rest st h.moves_are
                  (λ z. moves_on [] _ (ap (moves_of c js t (st t).next) p) z);
              saw = saw-each t st s refl (λ n x r k o. absurd (o (ap (host_of c js t (st t).next) p))) h.saw;
              told = tell ran (subst ServedAs (sym q) tt) h.told;
            }

        -- the waiting write that serves a read
        module _ (n x r : ℕ) (q : a ≡ Read n x r) (o : holds x (st t).held ≡ true) where
          abbrev server : ℕ
          server = name_of (action_at c t (newest_to x (st t).held))

          hosted : action_at c t (host c js t (st t).next) ≡ Write server x
          hosted =
              ap (action_at c t) (join-host c js t i is (st t) a rs (m.buffer t) (gs t) mine n x r q o)
              ∙ newest_kind c t js x (length (st t).old) (st t).held mine.grouped o

          serves : (k : ℕ) → sees x (m.buffer t) k ≡ server
          serves k = ap (λ b. sees x b k) mine.by_place ∙ sees_newest c t x k (st t).held o

          saw-server : sees x (m.buffer t) (m.memory x) ≡ r → Saw c js t (st t).next
          saw-server found n' x' r' z alone =
              let f : Read n x r ≡ Read n' x' r' = sym (is_next ∙ q) ∙ z in
              let g : r ≡ r' = cc in
              let h : x ≡ x' = cc in
              hosted ∙ ap₂ {C = Action} (λ n z. Write n z) (sym (serves (m.memory x)) ∙ found ∙ g) h

        -- a read that finds no waiting write comes now; one that finds one joins it
        step-read : (n x r : ℕ) → a ≡ Read n x r → sees x (m.buffer t) (m.memory x) ≡ r
            → runs m (Perform t) ≡ Ok (after m.memory m.turns)
            → Onward is (after m.memory m.turns) i → (b : Bool) → holds x (st t).held ≡ b
            → Outcome (plan_read (λ r g. plan N is r g) t m.rest gs n x rs b) i (Perform t ∷ is) m st
        step-read n x r q found ran onward false o =
            let alone = free-host c js t i is (st t) a rs (m.buffer t) (gs t) mine n x r q o in
            come-now m.memory m.turns ran onward (ap is_write q) alone
            (free-when c js t i is (st t) a rs (m.buffer t) (gs t) mine n x r q o)
            (subst ServedAs (sym q)
            (inl (alone, λ k. ap (λ b. sees x b k) mine.by_place ∙ sees-none c t x k (st t).held o)))
            (passing (gs t))
            (free-moves c js t i is (st t) a rs (m.buffer t) (gs t) mine n x r q o
            ∙ ap (shifts (length (st t).come)) (sym (alike-passing mine.alike)))
            (plan N is (upd m.rest t rs) gs) refl
        step-read n x r q found ran onward true o =
            let s = row_joins x (st t) in
            let g = joins n x (gs t) in
            let count-come = length (st t).come in
            let ms = (plan N is (upd m.rest t rs) (upd gs t g)).marks in
            let h = onward (upd st t s) (upd gs t g) (from_upd N gs t g fg lt)
            (on₃ t (λ u s r g. Follows c js u (suc i) is s r (m.buffer u) g) st m.rest gs others
            (step-join c js t i is (st t) a rs (m.buffer t) (gs t) mine n x r q o)) in
            record {
              order = h.order;
              same = h.same;
              rising = h.rising;
              late = late_down c js i h.order h.late;
              once = back₁₀ t (λ u s. (r : ℕ) → OnceIn s.come h.order u r) st h.once (λ z. z);
              moves_are = back₂₁ t (λ u r s m. moves_from c js u (length r) s.next ≡ shifts (length s.come) m)
                  m.rest st ms h.moves_are
                  (λ z. moves_on (shifts count-come (settling x (gs t))) (shifts count-come (ms t))
                  (join-moves c js t i is (st t) a rs (m.buffer t) (gs t) mine n x r q o
                  ∙ ap (shifts count-come) (sym (alike-settling x mine.alike))) z
                  ∙ sym (shifts-append count-come (settling x (gs t)) (ms t)));
              saw = saw-each t st s refl (saw-server n x r q o found) h.saw;
              told = tell ran (subst ServedAs (sym q)
                  (inr (server n x r q o, hosted n x r q o, serves n x r q o))) h.told;
            }

      -- the thread t drains the oldest group
      step-oldest : (w y : ℕ) (ns : List ℕ) (ks : List Group) (b : List Waiting) → gs t ≡ group w y ns ∷ ks
          → m.buffer t ≡ waits w y ∷ b
          → ((u : ℕ) → Follows c js u i (Drain t ∷ is) (st u) (m.rest u) (m.buffer u) (gs u)) → (mem : ℕ → ℕ)
          → runs m (Drain t) ≡ Ok (run_at m.rest (upd m.buffer t b) mem m.turns) → waits_of ks ≡ b
          → Onward is (run_at m.rest (upd m.buffer t b) mem m.turns) i
          → Outcome (plan_drain (λ r g. plan N is r g) t m.rest gs (group w y ns ∷ ks)) i (Drain t ∷ is) m st
      step-oldest w y ns ks b e eb inv mem ran ek onward =
          let f = oldest (subst (λ g. Alike g (st t).held) e (inv t).alike) in
          let q = f.place in
          let ps = f.readers in
          let hs = f.newer in
          let v = subst (λ h. Follows c js t i (Drain t ∷ is) (row_holding h (st t)) (m.rest t) (m.buffer t) (gs t))
          f.are (inv t) in
          let s = row_drains q ps hs (st t) in
          let count-come = length (st t).come in
          let p = plan N is m.rest (upd gs t ks) in
          let now = drain-when c js t i is (st t) (m.rest t) (m.buffer t) (gs t) ks q y ps hs f.alike v in
          let h = onward (upd st t s) (upd gs t ks) (from_upd N gs t ks fg lt)
          (on₃ t (λ u s b g. Follows c js u (suc i) is s (m.rest u) b g) st m.buffer gs
          (λ u n. stands_by c js u i (Drain t) is (st u) (m.rest u) (m.buffer u) (gs u) refl (ne_eqb t u (λ z. n (sym z)))
          (inv u))
          (step-drain c js t i is (st t) (m.rest t) (m.buffer t) (gs t) ks q y ps hs f.alike v (waits w y) b eb ek)) in
          let waiting_is : waits w y ∷ b ≡ waits (name_of (action_at c t q)) y ∷ calls c t hs = sym eb ∙ v.by_place in
          let kind = v.grouped.0.kind in
          let name_is : w ≡ name_of (action_at c t q) = cc in
          record {
            order = each_site t (q ∷ ps) h.order;
            same = ap {B = List ℕ} (λ l. t ∷ l)
                (threads-each t ps h.order ∙ ap (each t ps) h.same ∙ sym (alike-each t ns ps p.order f.many));
            rising = rising-each c js t (q ∷ ps) h.order
                (rising-left c js t (q ∷ ps) (places hs) (rise c js t (length (st t).old) (group q y ps ∷ hs) v.grouped))
                (all-each (λ x k. first-late c js t x (suc i) h.order (omega arith) h.late) (q ∷ ps) now) h.rising;
            late = late-each c js i t (q ∷ ps) h.order now (late_down c js i h.order h.late);
            once = once-each t (q ∷ ps) h.order st s refl h.once;
            moves_are = back₁₁ t (λ u s ms. moves_from c js u (length (m.rest u)) s.next ≡ shifts (length s.come) ms) st
                p.marks h.moves_are
                (λ z. z ∙ ap (λ k. shifts k (p.marks t))
                (length-append (st t).come (q ∷ ps) ∙ ap (λ k. count-come + suc k) (sym f.many))
                ∙ sym (shifts-more count-come (suc (length ns)) (p.marks t)));
            saw = back₁₀ t (λ u s. (r : ℕ) → s.next ≤ r → Saw c js u r) st h.saw (λ z. z);
            told = (
              (
                q,
                w,
                y,
                b,
                eb,
                kind.1 ∙ ap (λ n. Write n y) (sym (ap name_of kind.1) ∙ sym name_is),
                drained-now c js t i is (st t) (m.rest t) (m.buffer t) (gs t) ks q y ps hs f.alike v,
              ),
              subst (λ o. Told c js (suc i) o is) (sym ran) h.told,
            );
          }

    -- ── After the last item ──
    module _ (i : ℕ) (m : RunState) (st : ℕ → Row) (gs : ℕ → List Group) (fg : From N gs) (e : (u : ℕ) → m.rest u ≡ [])
        (inv : (u : ℕ) → Follows c js u i [] (st u) (m.rest u) (m.buffer u) (gs u)) where
      held_at : ℕ → List Group
      held_at u = (st u).held

      past_end : (u r : ℕ) → (st u).next ≤ r → action_at c u r ≡ no_action
      past_end u r l =
          let z : r ≡ (st u).next + (r - (st u).next) = omega arith in
          ap (action_at c u) z ∙ (inv u).actions-ahead (r - (st u).next) ∙ ap (λ a. get_or a (r - (st u).next) no_action) (e u)

      at_end : (u : ℕ) → AllByRecursion (λ x. when c js u x ≡ i) (places (st u).held)
      at_end u =
          dues c js u (λ z. z ≡ i) (length (st u).old) (st u).held (inv u).grouped
          (dues-writes c js u (λ z. z ≡ i) (length (st u).old) (st u).held (inv u).grouped
          (λ k. let f = (inv u).drains-ahead k in omega arith))

      by_age : (u : ℕ) → RisingIn c js u (places (st u).held)
      by_age u = rise c js u (length (st u).old) (st u).held (inv u).grouped

      step_end : Outcome (plan N [] m.rest gs) i [] m st
      unfolding held_at
      step_end =
          record {
            order = flushed_sites N 0 held_at;
            same = threads-flushed N 0 gs held_at (λ u. (inv u).alike);
            rising = rising-flushed c js i held_at at_end by_age N 0;
            late = late-flushed c js i held_at at_end by_age N 0;
            once = λ u r.
                let left = (inv u).actions-left in
                let none = ap length (e u) in
                let all : (st u).next ≡ length (thread c u) = omega arith in
                ap (λ z. tally_by (λ k. eqb r k) (st u).come + z)
                (times-flushed N 0 u r held_at (omega arith)
                (λ l. alike-nil (subst (λ g. Alike g (st u).held) (fg u (omega arith)) (inv u).alike)))
                ∙ sym ((inv u).each-once (λ k. eqb r k)) ∙ ap (count (λ k. eqb r k)) all;
            moves_are = λ u. ap (λ l. moves_from c js u (length l) (st u).next) (e u) ∙ sym (shifts-nil (length (st u).come));
            saw = λ u r l n x s k o. absurd (false≢true (sym (ap is_read (past_end u r l)) ∙ ap is_read k));
            told = tt;
          }

    -- ── The whole run ──
    along : {is : List RunItem} {rest : ℕ → List Action} {buf : ℕ → List Waiting} {mem : ℕ → ℕ} {k : ℕ} → Run is rest buf mem k
        → (i : ℕ) (st : ℕ → Row) (gs : ℕ → List Group) → From N rest → From N gs
        → ((u : ℕ) → Follows c js u i is (st u) (rest u) (buf u) (gs u))
        → Outcome (plan N is rest gs) i is (run_at rest buf mem k) st
    along {rest = rest} {buf} {mem} {k} (r_end e) i st gs fr fg inv = step_end i (run_at rest buf mem k) st gs fg e inv
    along (r_write {is} {rest} {buf} {mem} {k} {t} {n} {x} {rs} e d) i st gs fr fg inv =
        let lt = below N rest t fr e in
        let m = run_at rest buf mem k in
        subst (λ l. Outcome (plan_perform (λ r g. plan N is r g) t rest gs l) i (Perform t ∷ is) m st) (sym e)
        (step-plain-write i t is m st gs fg lt (Write n x) rs e inv n x refl (taken-run {m = m} (t_write e))
        (λ st' gs' fg' inv'. along d (suc i) st' gs' (from_upd N rest t rs fr lt) fg' inv'))
    along (r_read {is} {rest} {buf} {mem} {k} {t} {n} {x} {s} {rs} e q d) i st gs fr fg inv =
        let lt = below N rest t fr e in
        let m = run_at rest buf mem k in
        subst (λ l. Outcome (plan_perform (λ r g. plan N is r g) t rest gs l) i (Perform t ∷ is) m st) (sym e)
        (step-read i t is m st gs fg lt (Read n x s) rs e inv n x s refl q (taken-run {m = m} (t_read e q))
        (λ st' gs' fg' inv'. along d (suc i) st' gs' (from_upd N rest t rs fr lt) fg' inv')
        (holds x (gs t)) (sym (alike-holds x (inv t).alike)))
    along (r_sync {is} {rest} {buf} {mem} {k} {t} {n} {j} {o} {rs} e b due q d) i st gs fr fg inv =
        let lt = below N rest t fr e in
        let m = run_at rest buf mem k in
        subst (λ l. Outcome (plan_perform (λ r g. plan N is r g) t rest gs l) i (Perform t ∷ is) m st) (sym e)
        (step_sync i t is m st gs fg lt (Sync n j o) rs e inv n j o refl (stored n o mem) (suc k)
        (taken-run {m = m} (t_sync e b due q))
        (λ st' gs' fg' inv'. along d (suc i) st' gs' (from_upd N rest t rs fr lt) fg' inv'))
    along (r_drain {is} {rest} {buf} {mem} {k} {t} {n} {x} {b} e d) i st gs fr fg inv =
        let m = run_at rest buf mem k in
        let f = waits_of-cons (gs t) ((inv t).by_name ∙ e) in
        subst (λ g. Outcome (plan_drain (λ r g. plan N is r g) t rest gs g) i (Drain t ∷ is) m st) (sym f.2)
        (step-oldest i t is m st gs fg (below N gs t fg f.2) n x f.0 f.1 b f.2 e inv (upd mem x n)
        (taken-run {m = m} (t_drain e)) f.3
        (λ st' gs' fg' inv'. along d (suc i) st' gs' fr fg' inv'))

-- ── From the start ──
-- the whole of a complete run, by a plan for as many threads as the case has
pub whole : (c : Case) (is : List RunItem) → Run is (thread c) (λ t. []) default 0 → From (length c) (thread c)
    → Outcome c is (plan (length c) is (thread c) (λ t. [])) 0 is (fresh_run c) (λ u. new_row)
whole c is d fr = along c is (length c) d 0 (λ u. new_row) (λ u. []) fr (λ u l. refl) (follows-first c is)

pub converted : (c : Case) (is : List RunItem)
    → Outcome c is (plan (length c) is (thread c) (λ t. [])) 0 is (fresh_run c) (λ u. new_row)
    → Converted c is (emitted c is)
converted c is h =
    let N = length c in
    let p = plan N is (thread c) (λ t. []) in
    record {
      order = h.order;
      in_order = record {
        once = λ t q. (let a = h.once t q in let z : times t q h.order ≡ count (λ k. eqb q k) (length (thread c t)) =
            omega arith in z)
            ∙ count-one q (length (thread c t));
        rising = h.rising;
      };
      listed = ap₂ (λ ms l. all_moves N 0 ms (comings l)) (fun_ext (λ u. sym (h.moves_are u))) (sym h.same);
    }
