-- The run's steps that compute, and complete runs as a relation.
use Rattle.std.proofs.Common.{◌≡◌, ℕ, zero, suc, ◌<◌, ◌≤◌, true, eqb, ◌≢◌, List, [], ◌∷◌, ◌++◌, Ok, Result, sym, refl, ap, ◌∙◌, subst, ⊎_elim, not-suc-le-zero, arith}
use Rattle.std.proofs.lemmas.Bool.{false≢true, eqb-true, eq-eqb, cases_lt, cases_eq, and_parts, and_from}
use Rattle.records.specs.declared.action.Action.{Action}
use Rattle.records.specs.declared.action.Action.TheVariants.{Read, Write, Sync}
use Rattle.records.specs.declared.action.SyncOp.{SyncOp}
use Rattle.machines.specs.declared.items.RunItem.{RunItem}
use Rattle.machines.specs.declared.items.RunItem.TheVariants.{Perform, Drain}
use Rattle.machines.specs.Machine.{feed}
use Rattle.machines.specs.Memory.{upd, agrees, stored}
use Rattle.machines.specs.Run.{Waiting, waits, RunState, sees, isNil, perform, drain, runs, spent}
use Rattle.agreement.proofs.Updates.{From, below, from_upd}
use Rattle.machines.proofs.Feeds.{ok_inj, not_ok, needed, need_met, stepped, Ends, ends-step}
use Rattle.agreement.proofs.Relations.{Run, r_end, r_write, r_read, r_sync, r_drain}

-- ── What an item that is taken does ──
pub data RunTaken (m : RunState) : RunItem → RunState → Type 0 where
  t_read : {t n x s : ℕ} {rs : List Action} → m.rest t ≡ Read n x s ∷ rs → sees x (m.buffer t) (m.memory x) ≡ s
      → RunTaken m (Perform t)
      (record { rest = upd m.rest t rs; buffer = m.buffer; memory = m.memory; turns = m.turns })
  t_write : {t n x : ℕ} {rs : List Action} → m.rest t ≡ Write n x ∷ rs
      → RunTaken m (Perform t)
      (record {
        rest = upd m.rest t rs;
        buffer = upd m.buffer t (m.buffer t ++ (waits n x ∷ []));
        memory =
            m.memory;
        turns = m.turns;
      })
  t_sync : {t n k : ℕ} {o : SyncOp} {rs : List Action} → m.rest t ≡ Sync n k o ∷ rs
      → m.buffer t ≡ [] → k ≡ suc m.turns → agrees o m.memory ≡ true
      → RunTaken m (Perform t)
      (record { rest = upd m.rest t rs; buffer = m.buffer; memory = stored n o m.memory; turns = suc m.turns })
  t_drain : {t n x : ℕ} {b : List Waiting} → m.buffer t ≡ waits n x ∷ b
      → RunTaken m (Drain t)
      (record { rest = m.rest; buffer = upd m.buffer t b; memory = upd m.memory x n; turns = m.turns })

nil_is {ℓ} : {A : Type ℓ} (l : List A) → isNil l ≡ true → l ≡ []
nil_is [] e = refl
nil_is (a ∷ l) e = absurd (false≢true e)

pub run_taken : (m : RunState) (i : RunItem) {k : RunState} → runs m i ≡ Ok k → RunTaken m i k
run_taken m (Perform t) {k} e = go (m.rest t) refl e
  where
    go : (l : List Action) → m.rest t ≡ l → perform t m l ≡ Ok k → RunTaken m (Perform t) k
    go [] q e' = absurd (not_ok e')
    go (Read n x s ∷ rs) q e' =
        let h = needed (eqb (sees x (m.buffer t) (m.memory x)) s) 25 _ e' in
        subst (RunTaken m (Perform t)) (ok_inj h.1) (t_read q (eqb-true _ _ h.0))
    go (Write n x ∷ rs) q e' = subst (RunTaken m (Perform t)) (ok_inj e') (t_write q)
    go (Sync n j o ∷ rs) q e' =
        let h₁ = needed (isNil (m.buffer t)) 23 _ e' in
        let h₂ = needed (eqb j (suc m.turns)) 24 _ h₁.1 in
        let h₃ = needed (agrees o m.memory) 25 _ h₂.1 in
        subst (RunTaken m (Perform t)) (ok_inj h₃.1) (t_sync q (nil_is (m.buffer t) h₁.0) (eqb-true _ _ h₂.0) h₃.0)
run_taken m (Drain t) {k} e = go (m.buffer t) refl e
  where
    go : (l : List Waiting) → m.buffer t ≡ l → drain t m l ≡ Ok k → RunTaken m (Drain t) k
    go [] q e' = absurd (not_ok e')
    go (waits n x ∷ b) q e' = subst (RunTaken m (Drain t)) (ok_inj e') (t_drain q)

-- a step that is asked for is taken
pub taken-run : {m k : RunState} {i : RunItem} → RunTaken m i k → runs m i ≡ Ok k
taken-run {m} (t_read {t} {x = x} {s = s} q e) =
    ap (perform t m) q ∙ need_met (eqb (sees x (m.buffer t) (m.memory x)) s) 25 _ (eq-eqb _ _ e)
taken-run {m} (t_write {t} q) = ap (perform t m) q
taken-run {m} (t_sync {t} {k = k} {o = o} q b e a) =
    ap (perform t m) q ∙ need_met (isNil (m.buffer t)) 23 _ (ap isNil b)
    ∙ need_met (eqb k (suc m.turns)) 24 _ (eq-eqb _ _ e) ∙ need_met (agrees o m.memory) 25 _ a
taken-run {m} (t_drain {t} q) = ap (drain t m) q

-- ── Nothing left ──
pub spent_all : (n : ℕ) (f : ℕ → List Action) → spent n f ≡ true → (t : ℕ) → t < n → f t ≡ []
spent_all zero f e t h = absurd (not-suc-le-zero h)
spent_all (suc n) f e t h =
    let p = and_parts (isNil (f n)) (spent n f) e in
    ⊎_elim (λ (q : t ≡ n). subst (λ u. f u ≡ []) (sym q) (nil_is (f n) p.0))
    (λ (q : t ≢ n). spent_all n f p.1 t (omega arith)) (cases_eq t n)

pub all-spent : (n : ℕ) (f : ℕ → List Action) → ((t : ℕ) → f t ≡ []) → spent n f ≡ true
all-spent zero f h = refl
all-spent (suc n) f h = and_from (isNil (f n)) (spent n f) (ap isNil (h n)) (all-spent n f h)

pub done_all : (n : ℕ) (f : ℕ → List Action) → From n f → spent n f ≡ true → (t : ℕ) → f t ≡ []
done_all n f fr e t = ⊎_elim (λ (h : t < n). spent_all n f e t h) (λ (h : n ≤ t). fr t h) (cases_lt t n)

-- ── Items that lead to the end are a complete run ──
one_more : {m k : RunState} {i : RunItem} (n : ℕ) (is : List RunItem) → RunTaken m i k → From n m.rest
    → (From n k.rest → Run is k.rest k.buffer k.memory k.turns)
    → Run (i ∷ is) m.rest m.buffer m.memory m.turns
one_more {m} n is (t_read {t} {rs = rs} q e) fr onward =
    r_read q e (onward (from_upd n m.rest t rs fr (below n m.rest t fr q)))
one_more {m} n is (t_write {t} {rs = rs} q) fr onward =
    r_write q (onward (from_upd n m.rest t rs fr (below n m.rest t fr q)))
one_more {m} n is (t_sync {t} {rs = rs} q b e a) fr onward =
    r_sync q b e a (onward (from_upd n m.rest t rs fr (below n m.rest t fr q)))
one_more n is (t_drain q) fr onward = r_drain q (onward fr)

pub run_in : (n : ℕ) (is : List RunItem) (m m' : RunState) → From n m.rest
    → feed runs (Ok m) is ≡ Ok m' → spent n m'.rest ≡ true → Run is m.rest m.buffer m.memory m.turns
run_in n [] m m' fr e c = r_end (done_all n m.rest fr (subst (λ s. spent n s.rest ≡ true) (sym (ok_inj e)) c))
run_in n (i ∷ is) m m' fr e c =
    let h = stepped runs i is m m' e in
    one_more n is (run_taken m i h.steps) fr (λ fr'. run_in n is h.next m' fr' h.onward c)

-- ── A complete run leads to the end ──
abbrev pub run_at : (ℕ → List Action) → (ℕ → List Waiting) → (ℕ → ℕ) → ℕ → RunState
run_at rest buf mem k = record { rest = rest; buffer = buf; memory = mem; turns = k }

abbrev pub RunEnds : ℕ → Result RunState ℕ → List RunItem → Type 0
RunEnds n o is = Ends runs (λ s. spent n s.rest) o is

pub run_out : (n : ℕ) {is : List RunItem} {rest : ℕ → List Action} {buf : ℕ → List Waiting} {mem : ℕ → ℕ} {k : ℕ}
    → Run is rest buf mem k → RunEnds n (Ok (run_at rest buf mem k)) is
run_out n {rest = rest} {buf} {mem} {k} (r_end e) =
    record { last = run_at rest buf mem k; taken = refl; complete = all-spent n rest e }
run_out n (r_write {is} {rest} {buf} {mem} {k} e d) = ends-step (taken-run {m = run_at rest buf mem k} (t_write e)) (run_out n d)
run_out n (r_read {is} {rest} {buf} {mem} {k} e q d) = ends-step (taken-run {m = run_at rest buf mem k} (t_read e q)) (run_out n d)
run_out n (r_sync {is} {rest} {buf} {mem} {k} e b due q d) =
    ends-step (taken-run {m = run_at rest buf mem k} (t_sync e b due q)) (run_out n d)
run_out n (r_drain {is} {rest} {buf} {mem} {k} e d) = ends-step (taken-run {m = run_at rest buf mem k} (t_drain e)) (run_out n d)
