-- What a change of one row, of memory or of the turns makes of the state that the run checker's table stands for.
use Rattle.std.proofs.Common.{◌≡◌, ℕ, suc, ◌+◌, ◌<◌, Bool, true, false, eqb, List, [], ◌∷◌, ◌++◌, map, length, get_or, drop, set, is_some, Some, None, Ok, Err, Result, sym, refl, ap, ◌∙◌, arith}
use Rattle.std.specs.List.{slice_get, between}
use Rattle.std.proofs.lemmas.List.{map-set, length-map, get_or-map, map_push, drop-drop, set-get_or}
use Rattle.std.proofs.lemmas.Bool.{eq-eqb, ne_eqb, false≢true}
use Rattle.records.specs.declared.action.Action.{Action}
use Rattle.records.specs.declared.action.Action.TheVariants.{Read, Sync}
use Rattle.records.specs.declared.action.SyncOp.{SyncOp}
use Rattle.records.specs.Names.{Case, thread, named}
use Rattle.machines.specs.declared.faults.Mismatch.{Mismatch}
use Rattle.machines.specs.declared.memory.Memory.{Memory}
use Rattle.machines.specs.declared.rows.PendingWrite.{PendingWrite}
use Rattle.machines.specs.declared.rows.Row.{Row}
use Rattle.machines.specs.declared.rows.Run.{Run}
use Rattle.machines.specs.Faults.{run_number, run_fault}
use Rattle.machines.specs.Machine.{moved}
use Rattle.machines.specs.Memory.{upd, held, stored, in_step}
use Rattle.machines.specs.Rows.{window, waits_of, next_of, window_of, run_state}
use Rattle.machines.specs.Windows.{oldest, younger}
use Rattle.machines.specs.Windows.{oldest, younger}
use Rattle.machines.specs.Run.{RunState, waits, isNil, sees, perform}
use Rattle.machines.proofs.Steps.{need_fails, need-holds, comes_in_step, out_of_step}
use Rattle.machines.proofs.Tables.{table-set, upd_still}
use Rattle.machines.proofs.Threads.{drop-some, drop-none}

-- ── The oldest waiting write ──
pub oldest-some : (ws : List PendingWrite) (w : PendingWrite) → Some w ≡ oldest ws → ws ≡ w ∷ younger ws
oldest-some [] w e = absurd (false≢true (ap is_some (sym e)))
oldest-some (v ∷ ws) w e = let q : v ≡ w = cc in ap (λ x. x ∷ ws) q

is_nil-map : {X Y : Type 0} (f : X → Y) (l : List X) → isNil (map f l) ≡ eqb (length l) 0
is_nil-map f [] = refl
is_nil-map f (x ∷ l) = sym (ne_eqb (suc (length l)) 0 (λ e. omega arith))

-- ── What the machine answers ──
-- the state after thread t performed all but rs of its actions, with this memory and these turns
abbrev goes : ℕ → RunState → List Action → (ℕ → ℕ) → ℕ → RunState
goes t s rs memory k = record { rest = upd s.rest t rs; buffer = s.buffer; memory = memory; turns = k }

module _ (t : ℕ) (s : RunState) (rs : List Action) where
  pub read-other : (n x w : ℕ) → (sees x (s.buffer t) (s.memory x) ≡ w → ⊥) → perform t s (Read n x w ∷ rs) ≡ Err 25
  read-other n x w ne = need_fails _ 25 _ (ne_eqb _ _ ne)

  pub read-seen : (n x w : ℕ) → sees x (s.buffer t) (s.memory x) ≡ w → perform t s (Read n x w ∷ rs) ≡ Ok (goes t s rs s.memory s.turns)
  read-seen n x w e = need-holds _ 25 _ (eq-eqb _ _ e)

  module _ (n k : ℕ) (o : SyncOp) where
    pub sync_waits : isNil (s.buffer t) ≡ false → perform t s (Sync n k o ∷ rs) ≡ Err 23
    sync_waits e = need_fails _ 23 _ e

    pub sync-out : isNil (s.buffer t) ≡ true → (f : Mismatch) → Err f ≡ in_step k o s.memory s.turns → perform t s (Sync n k o ∷ rs) ≡ Err (run_number (run_fault f))
    sync-out empty f e = need-holds _ 23 _ empty ∙ out_of_step (λ f. run_number (run_fault f)) k o s.memory s.turns _ f e

    pub sync-in : isNil (s.buffer t) ≡ true → Ok tt ≡ in_step k o s.memory s.turns → perform t s (Sync n k o ∷ rs) ≡ Ok (goes t s rs (stored n o s.memory) (suc s.turns))
    sync-in empty e = need-holds _ 23 _ empty ∙ comes_in_step (λ f. run_number (run_fault f)) k o s.memory s.turns _ e

-- ── One row of the table ──
-- the row of thread t is row, which d stands in for past the end
module _ (c : Case) (m : Run) (t : ℕ) (h : t < length m.rows) (d : Row) where
  abbrev s : RunState
  s = run_state c m

  abbrev row : Row
  row = get_or m.rows t d

  pub next_is : next_of m.rows t ≡ row.window.next
  next_is = get_or-map (λ r. r.window.next) m.rows t d 0 h

  pub rest_is : s.rest t ≡ drop row.window.next (thread c t)
  rest_is = ap (λ n. drop n (thread c t)) next_is

  pub rest-none : None ≡ slice_get (thread c t) row.window.next → s.rest t ≡ []
  rest-none e = rest_is ∙ drop-none (thread c t) row.window.next (sym e)

  pub rest_some : (b a : Action) → Some b ≡ slice_get (thread c t) row.window.next → b ≡ a → s.rest t ≡ a ∷ drop (row.window.next + 1) (thread c t)
  rest_some b a e q = rest_is ∙ drop-some (thread c t) row.window.next b (sym e) ∙ ap (λ x. x ∷ drop (row.window.next + 1) (thread c t)) q

  pub buffer_is : s.buffer t ≡ map (waits_of t) (window row)
  buffer_is = ap (map (waits_of t)) (get_or-map window m.rows t d [] h)

  pub nil_is : (ws : List PendingWrite) → ws ≡ window row → (b : Bool) → b ≡ eqb (length ws) 0 → isNil (s.buffer t) ≡ b
  nil_is ws e b q = ap isNil buffer_is ∙ is_nil-map (waits_of t) (window row) ∙ ap (λ l. eqb (length l) 0) (sym e) ∙ sym q

  rest-set : (r : Row) → (λ u. drop (next_of (set m.rows t r) u) (thread c u)) ≡ upd s.rest t (drop r.window.next (thread c t))
  rest-set r =
      (λ i u. drop (get_or (map-set (λ (x : Row). x.window.next) m.rows t r i) u 0) (thread c u))
      ∙ table-set (λ u n. drop n (thread c u)) (λ _. 0) (map (λ x. x.window.next) m.rows) t r.window.next (omega (arith, length-map m.rows (λ (x : Row). x.window.next)))

  buffer-set : (r : Row) → (λ u. map (waits_of u) (window_of (set m.rows t r) u)) ≡ upd s.buffer t (map (waits_of t) (window r))
  buffer-set r =
      (λ i u. map (waits_of u) (get_or (map-set window m.rows t r i) u []))
      ∙ table-set (λ u ws. map (waits_of u) ws) (λ _. []) (map window m.rows) t (window r) (omega (arith, length-map m.rows window))

  -- the row and memory as they were, given back
  pub unchanged : (r : Row) → r ≡ row → (by : Memory) → by ≡ m.memory → ◌≡◌ {A = Run} (record { rows = set m.rows t r; memory = by }) m
  unchanged r e by k = let q = ap (set m.rows t) e ∙ set-get_or m.rows t d in (λ i. record { rows = q i; memory = k i })

  pub stays : (r : Row) → r ≡ row → (by : Memory) → by ≡ m.memory → (o : Result RunState ℕ) (n : ℕ) → o ≡ Err n → run_state c (record { rows = set m.rows t r; memory = by }) ≡ moved s o
  stays r e by k o n q = ap (run_state c) (unchanged r e by k) ∙ sym (ap (moved s) q)

  -- the next action a is performed: the row is r now, and rs is left
  module _ (r : Row) (next : r.window.next ≡ row.window.next + 1) (a : Action) (rs : List Action) (left : s.rest t ≡ a ∷ rs) where
    rest-less : (λ u. drop (next_of (set m.rows t r) u) (thread c u)) ≡ upd s.rest t rs
    rest-less =
        let n : r.window.next ≡ next_of m.rows t + 1 = next ∙ ap (λ k. k + 1) (sym next_is) in
        rest-set r ∙ ap (upd s.rest t) (ap (λ k. drop k (thread c t)) n ∙ sym (drop-drop 1 (next_of m.rows t) (thread c t)) ∙ ap (drop 1) left)

    pub passed : r.window.from ≡ row.window.from → r.window.upto ≡ row.window.upto → r.writes ≡ row.writes → (by : Memory) (memory : ℕ → ℕ) (k : ℕ) → held by.writes ≡ memory → by.turns ≡ k
        → run_state c (record { rows = set m.rows t r; memory = by }) ≡ goes t s rs memory k
    passed from upto writes by memory k h q =
        let b = buffer-set r ∙ upd_still s.buffer t (map (waits_of t) (window r)) ((λ i. map (waits_of t) (between (from i) (upto i) (writes i))) ∙ sym buffer_is) in
        (λ i. record { rest = rest-less i; buffer = b i; memory = h i; turns = q i })

    pub joined : (w : PendingWrite) (n : ℕ) → n ≡ named t w.place → window r ≡ window row ++ (w ∷ [])
        → run_state c (record { rows = set m.rows t r; memory = m.memory })
        ≡ record { rest = upd s.rest t rs; buffer = upd s.buffer t (s.buffer t ++ (waits n w.location ∷ [])); memory = s.memory; turns = s.turns }
    joined w n q e =
        let f : map (waits_of t) (window r) ≡ s.buffer t ++ (waits n w.location ∷ []) =
        ap (map (waits_of t)) e ∙ map_push (waits_of t) (window row) w ∙ (λ i. sym buffer_is i ++ (waits (sym q i) w.location ∷ [])) in
        let b = buffer-set r ∙ ap (upd s.buffer t) f in
        (λ i. record { rest = rest-less i; buffer = b i; memory = s.memory; turns = s.turns })

  -- the oldest waiting write w goes to memory under the name n
  module _ (w : PendingWrite) (old : Some w ≡ oldest (window row)) (n : ℕ) (is : n ≡ named t w.place) where
    pub front : s.buffer t ≡ waits n w.location ∷ map (waits_of t) (younger (window row))
    front = buffer_is ∙ ap (map (waits_of t)) (oldest-some (window row) w old) ∙ ap (λ k. waits k w.location ∷ map (waits_of t) (younger (window row))) (sym is)

    pub left : (r : Row) → r.window.next ≡ row.window.next → window r ≡ younger (window row) → (by : Memory) → held by.writes ≡ upd s.memory w.location n → by.turns ≡ s.turns
        → run_state c (record { rows = set m.rows t r; memory = by })
        ≡ record { rest = s.rest; buffer = upd s.buffer t (map (waits_of t) (younger (window row))); memory = upd s.memory w.location n; turns = s.turns }
    left r next e by u k =
        let q = rest-set r ∙ upd_still s.rest t (drop r.window.next (thread c t)) (ap (λ k. drop k (thread c t)) (next ∙ sym next_is)) in
        let b = buffer-set r ∙ ap (λ ws. upd s.buffer t (map (waits_of t) ws)) e in
        (λ i. record { rest = q i; buffer = b i; memory = u i; turns = k i })
