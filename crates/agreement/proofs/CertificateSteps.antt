-- The certificate's steps that compute, and moves and orders as relations.
use Rattle.std.proofs.Common.{◌≡◌, ℕ, zero, suc, ◌+◌, ◌<◌, ◌≤◌, Bool, true, false, not, eqb, List, [], ◌∷◌, Ok, Err, Result, sym, refl, ap, ◌∙◌, subst, ⊎_elim, arith}
use mathlib.Core.Path.{fun_ext}
use native.Mathlib.Nat.{not-suc-le_self}
use Rattle.std.proofs.lemmas.Bool.{false≢true, eqb-true, eq-eqb, cases_lt, not-true, not_from_false}
use Rattle.records.specs.declared.action.Action.{Action}
use Rattle.records.specs.declared.action.Action.TheVariants.{Read, Write, Sync}
use Rattle.records.specs.declared.action.SyncOp.{SyncOp}
use Rattle.machines.specs.declared.items.CertificateItem.{CertificateItem}
use Rattle.machines.specs.declared.items.CertificateItem.TheVariants.{Move, Come}
use Rattle.machines.specs.Machine.{feed}
use Rattle.machines.specs.Memory.{upd, agrees, stored}
use Rattle.machines.specs.Run.{spent}
use Rattle.machines.specs.Certificate.{OrderState, move_in, relist, comes, certifies}
use Rattle.agreement.specs.Convert.{Mark, mark, comings, move_items, all_moves, moved_or, replay_from}
use Rattle.machines.proofs.Tables.{upd_at, upd_still}
use Rattle.agreement.proofs.Updates.{upd_upd, on₁, back₁₀, From, below, from_upd}
use Rattle.machines.proofs.Feeds.{ok_inj, not_ok, needed, need_met, stepped, Ends, ends-step}
use Rattle.agreement.proofs.Moving.{OneMove, Moves, still, step, none_moves}
use Rattle.agreement.proofs.Relations.{Ord, o_end, o_write, o_read, o_sync}
use Rattle.agreement.proofs.RunSteps.{all-spent, done_all}
use Rattle.agreement.proofs.MoveSteps.{move_taken, taken-move}

-- ── What an item that is taken does ──
pub data CertificateTaken (s : OrderState) : CertificateItem → OrderState → Type 0 where
  c_move : {t p c : ℕ} {K : List Action} → s.begun ≡ false → move_in p c (s.left t) ≡ Ok K → OneMove p c (s.left t) K
      → CertificateTaken s (Move t p c)
      (record { begun = false; left = upd s.left t K; memory = s.memory; turns = s.turns })
  c_read : {t n x w : ℕ} {rs : List Action} → s.left t ≡ Read n x w ∷ rs → s.memory x ≡ w
      → CertificateTaken s (Come t)
      (record { begun = true; left = upd s.left t rs; memory = s.memory; turns = s.turns })
  c_write : {t n x : ℕ} {rs : List Action} → s.left t ≡ Write n x ∷ rs
      → CertificateTaken s (Come t)
      (record { begun = true; left = upd s.left t rs; memory = upd s.memory x n; turns = s.turns })
  c_sync : {t n k : ℕ} {o : SyncOp} {rs : List Action} → s.left t ≡ Sync n k o ∷ rs → k ≡ suc s.turns
      → agrees o s.memory ≡ true
      → CertificateTaken s (Come t)
      (record { begun = true; left = upd s.left t rs; memory = stored n o s.memory; turns = suc s.turns })

pub certificate_taken : (s : OrderState) (j : CertificateItem) {k : OrderState} → certifies s j ≡ Ok k → CertificateTaken s j k
certificate_taken s (Move t p c) {k} e =
    let h = needed (not s.begun) 31 _ e in go (not-true s.begun h.0) (move_in p c (s.left t)) refl h.1
  where
    go : s.begun ≡ false → (r : Result (List Action) ℕ) → move_in p c (s.left t) ≡ r → relist t s r ≡ Ok k
        → CertificateTaken s (Move t p c) k
    go b (Err n) q e' = absurd (not_ok e')
    go b (Ok K) q e' = subst (CertificateTaken s (Move t p c)) (ok_inj e') (c_move b q (taken-move p c (s.left t) q))
certificate_taken s (Come t) {k} e = go (s.left t) refl e
  where
    go : (l : List Action) → s.left t ≡ l → comes t s l ≡ Ok k → CertificateTaken s (Come t) k
    go [] q e' = absurd (not_ok e')
    go (Read n x w ∷ rs) q e' =
        let h = needed (eqb (s.memory x) w) 38 _ e' in
        subst (CertificateTaken s (Come t)) (ok_inj h.1) (c_read q (eqb-true _ _ h.0))
    go (Write n x ∷ rs) q e' = subst (CertificateTaken s (Come t)) (ok_inj e') (c_write q)
    go (Sync n j o ∷ rs) q e' =
        let h₁ = needed (eqb j (suc s.turns)) 37 _ e' in
        let h₂ = needed (agrees o s.memory) 38 _ h₁.1 in
        subst (CertificateTaken s (Come t)) (ok_inj h₂.1) (c_sync q (eqb-true _ _ h₁.0) h₂.0)

taken-certificate : {s k : OrderState} {j : CertificateItem} → CertificateTaken s j k → certifies s j ≡ Ok k
taken-certificate {s} (c_move {t} b q m) = need_met (not s.begun) 31 _ (not_from_false s.begun b) ∙ ap (relist t s) q
taken-certificate {s} (c_read {t} {x = x} {w = w} q e) = ap (comes t s) q ∙ need_met (eqb (s.memory x) w) 38 _ (eq-eqb _ _ e)
taken-certificate {s} (c_write {t} q) = ap (comes t s) q
taken-certificate {s} (c_sync {t} {k = k} {o = o} q e a) =
    ap (comes t s) q ∙ need_met (eqb k (suc s.turns)) 37 _ (eq-eqb _ _ e) ∙ need_met (agrees o s.memory) 38 _ a

-- what every action that comes does
pub record Came (s : OrderState) (t : ℕ) (k : OrderState) : Type 0 where
  pub action : Action
  pub others : List Action
  pub next : s.left t ≡ action ∷ others
  pub begins : k.begun ≡ true
  pub leaves : k.left ≡ upd s.left t others

pub came : {t : ℕ} {s k : OrderState} → CertificateTaken s (Come t) k → Came s t k
came (c_read {n = n} {x} {w} {rs} q e) = record { action = Read n x w; others = rs; next = q; begins = refl; leaves = refl }
came (c_write {n = n} {x} {rs} q) = record { action = Write n x; others = rs; next = q; begins = refl; leaves = refl }
came (c_sync {n = n} {k} {o} {rs} q e a) = record { action = Sync n k o; others = rs; next = q; begins = refl; leaves = refl }

-- a move is of one of the threads
pub movable : (n : ℕ) (f : ℕ → List Action) (t : ℕ) {p c : ℕ} {K : List Action} → From n f → OneMove p c (f t) K → t < n
movable n f t {p} {c} {K} fr m =
    ⊎_elim (λ (h : t < n). h) (λ (h : n ≤ t). absurd (none_moves (subst (λ l. OneMove p c l K) (fr t h) m))) (cases_lt t n)

-- ── Items that lead to the end are moves, and then a complete order ──
-- the items are those of an order
record Ordered (js : List CertificateItem) (L : ℕ → List Action) (mem : ℕ → ℕ) (k : ℕ) : Type 0 where
  order : List ℕ
  are : js ≡ comings order
  taken : Ord order L mem k

first-comes : {t : ℕ} {s k : OrderState} (n : ℕ) (js : List CertificateItem) → CertificateTaken s (Come t) k → From n s.left
    → (k.begun ≡ true → From n k.left → Ordered js k.left k.memory k.turns)
    → Ordered (Come t ∷ js) s.left s.memory s.turns
first-comes {t} {s} n js (c_read {rs = rs} q e) fr onward =
    let g = onward refl (from_upd n s.left t rs fr (below n s.left t fr q)) in
    record { order = t ∷ g.order; are = ap {B = List CertificateItem} (λ z. Come t ∷ z) g.are; taken = o_read q e g.taken }
first-comes {t} {s} n js (c_write {rs = rs} q) fr onward =
    let g = onward refl (from_upd n s.left t rs fr (below n s.left t fr q)) in
    record { order = t ∷ g.order; are = ap {B = List CertificateItem} (λ z. Come t ∷ z) g.are; taken = o_write q g.taken }
first-comes {t} {s} n js (c_sync {rs = rs} q e a) fr onward =
    let g = onward refl (from_upd n s.left t rs fr (below n s.left t fr q)) in
    record {
      order = t ∷ g.order;
      are = ap {B = List CertificateItem} (λ z. Come t ∷ z) g.are;
      taken = o_sync q e a g.taken;
    }

-- no move is taken once an action has come
pub no_move : {t p c : ℕ} {s k : OrderState} → s.begun ≡ true → CertificateTaken s (Move t p c) k → ⊥
no_move b (c_move f q m) = false≢true (sym f ∙ b)

order_in : (n : ℕ) (js : List CertificateItem) (s s' : OrderState) → s.begun ≡ true → From n s.left
    → feed certifies (Ok s) js ≡ Ok s' → spent n s'.left ≡ true → Ordered js s.left s.memory s.turns
order_in n [] s s' b fr e c =
    record {
      order = [];
      are = refl;
      taken = o_end (done_all n s.left fr (subst (λ z. spent n z.left ≡ true) (sym (ok_inj e)) c));
    }
order_in n (Move t p d ∷ js) s s' b fr e c =
    let h = stepped certifies (Move t p d) js s s' e in absurd (no_move b (certificate_taken s (Move t p d) h.steps))
order_in n (Come t ∷ js) s s' b fr e c =
    let h = stepped certifies (Come t) js s s' e in
    first-comes n js (certificate_taken s (Come t) h.steps) fr (λ b' fr'. order_in n js h.next s' b' fr' h.onward c)

-- moves from one list to another
pub record SomeMoves (K L : List Action) : Type 0 where
  pub marks : List Mark
  pub lead : Moves marks K L

-- a certificate's moves, and then its order; and the replay of the certificate is that of the order
pub record Certified (js : List CertificateItem) (P : ℕ → List Action) (mem : ℕ → ℕ) (k : ℕ) : Type 0 where
  pub lists : ℕ → List Action
  pub moving : (u : ℕ) → SomeMoves (P u) (lists u)
  pub order : List ℕ
  pub taken : Ord order lists mem k
  pub replays : (next : ℕ → ℕ) → replay_from js P next ≡ replay_from (comings order) lists next

unmoved : {js : List CertificateItem} {P : ℕ → List Action} {mem : ℕ → ℕ} {k : ℕ} → Ordered js P mem k → Certified js P mem k
unmoved {js} {P} h =
    record {
      lists = P;
      moving = λ u. record { marks = []; lead = still refl };
      order = h.order;
      taken = h.taken;
      replays = λ next. ap (λ z. replay_from z P next) h.are;
    }

first-moves : {t p c : ℕ} {s k : OrderState} (n : ℕ) (js : List CertificateItem) → CertificateTaken s (Move t p c) k
    → From n s.left
    → (k.begun ≡ false → From n k.left → Certified js k.left k.memory k.turns)
    → Certified (Move t p c ∷ js) s.left s.memory s.turns
first-moves {t} {p} {c} {s} n js (c_move {K = K} b q m) fr onward =
    let h = onward refl (from_upd n s.left t K fr (movable n s.left t fr m)) in
    record {
      lists = h.lists;
      order = h.order;
      taken = h.taken;
      moving = back₁₀ t (λ u l. SomeMoves l (h.lists u)) s.left h.moving
          (λ g. record { marks = mark p c ∷ g.marks; lead = step m g.lead });
      replays = λ next. ap (λ r. replay_from js (upd s.left t (moved_or (s.left t) r)) next) q ∙ h.replays next;
    }

pub certificate_in : (n : ℕ) (js : List CertificateItem) (s s' : OrderState) → s.begun ≡ false → From n s.left
    → feed certifies (Ok s) js ≡ Ok s' → spent n s'.left ≡ true → Certified js s.left s.memory s.turns
certificate_in n [] s s' b fr e c =
    unmoved (record {
      order = [];
      are = refl;
      taken = o_end (done_all n s.left fr (subst (λ z. spent n z.left ≡ true) (sym (ok_inj e)) c));
    })
certificate_in n (Come t ∷ js) s s' b fr e c =
    let h = stepped certifies (Come t) js s s' e in
    unmoved (first-comes n js (certificate_taken s (Come t) h.steps) fr
    (λ b' fr'. order_in n js h.next s' b' fr' h.onward c))
certificate_in n (Move t p d ∷ js) s s' b fr e c =
    let h = stepped certifies (Move t p d) js s s' e in
    first-moves n js (certificate_taken s (Move t p d) h.steps) fr
    (λ b' fr'. certificate_in n js h.next s' b' fr' h.onward c)

-- ── An order leads to the end, and so do moves before it ──
abbrev pub order_at : Bool → (ℕ → List Action) → (ℕ → ℕ) → ℕ → OrderState
order_at b L mem k = record { begun = b; left = L; memory = mem; turns = k }

abbrev pub CertificateEnds : ℕ → Result OrderState ℕ → List CertificateItem → Type 0
CertificateEnds n o js = Ends certifies (λ s. spent n s.left) o js

pub order-out : (n : ℕ) {os : List ℕ} {L : ℕ → List Action} {mem : ℕ → ℕ} {k : ℕ} (b : Bool) → Ord os L mem k
    → CertificateEnds n (Ok (order_at b L mem k)) (comings os)
order-out n {L = L} {mem} {k} b (o_end e) = record { last = order_at b L mem k; taken = refl; complete = all-spent n L e }
order-out n b (o_write {os} {L} {mem} {k} e d) =
    ends-step (taken-certificate {s = order_at b L mem k} (c_write e)) (order-out n true d)
order-out n b (o_read {os} {L} {mem} {k} e q d) =
    ends-step (taken-certificate {s = order_at b L mem k} (c_read e q)) (order-out n true d)
order-out n b (o_sync {os} {L} {mem} {k} e due q d) =
    ends-step (taken-certificate {s = order_at b L mem k} (c_sync e due q)) (order-out n true d)

-- the moves of one thread
module _ (t : ℕ) (js : List CertificateItem) (f : ℕ → List Action) (mem : ℕ → ℕ) (k : ℕ) where
  thread-out : {ms : List Mark} {K L : List Action} → Moves ms K L
      → feed certifies (Ok (order_at false (upd f t K) mem k)) (move_items t ms js)
      ≡ feed certifies (Ok (order_at false (upd f t L) mem k)) js
  thread-out (still e) = ap (λ l. feed certifies (Ok (order_at false (upd f t l) mem k)) js) e
  thread-out (step {p} {c} {ms} {J} {K} m d) =
      let s : OrderState = order_at false (upd f t J) mem k in
      let here : OneMove p c (s.left t) K = subst (λ l. OneMove p c l K) (sym (upd_at f t J)) m in
      ap (λ o. feed certifies o (move_items t ms js)) (taken-certificate {s = s} (c_move refl (move_taken here) here))
      ∙ ap (λ g. feed certifies (Ok (order_at false g mem k)) (move_items t ms js)) (upd_upd f t J K)
      ∙ thread-out d

-- the moves of d threads from i on
pub moves_out : (d i : ℕ) (js : List CertificateItem) (P L : ℕ → List Action) (mem : ℕ → ℕ) (k : ℕ) (ms : ℕ → List Mark)
    → ((u : ℕ) → u < i → P u ≡ L u) → ((u : ℕ) → i + d ≤ u → P u ≡ L u) → ((u : ℕ) → i ≤ u → Moves (ms u) (P u) (L u))
    → feed certifies (Ok (order_at false P mem k)) (all_moves d i ms js) ≡ feed certifies (Ok (order_at false L mem k)) js
moves_out zero i js P L mem k ms low high mv =
    ap (λ f. feed certifies (Ok (order_at false f mem k)) js)
    (fun_ext (λ u. ⊎_elim (λ (h : u < i). low u h) (λ (h : i ≤ u). high u (omega arith)) (cases_lt u i)))
moves_out (suc d) i js P L mem k ms low high mv =
    ap (λ f. feed certifies (Ok (order_at false f mem k)) (move_items i (ms i) (all_moves d (suc i) ms js))) (sym (upd_still P i (P i) refl))
    ∙ thread-out i (all_moves d (suc i) ms js) P mem k (mv i (omega arith))
    ∙ moves_out d (suc i) js (upd P i (L i)) L mem k ms
    (on₁ i (λ u l. u < suc i → l ≡ L u) P (λ u n h. low u (omega arith)) (λ h. refl))
    (on₁ i (λ u l. suc i + d ≤ u → l ≡ L u) P (λ u n h. high u (omega arith)) (λ h. refl))
    (on₁ i (λ u l. suc i ≤ u → Moves (ms u) l (L u)) P (λ u n h. mv u (omega arith)) (λ h. absurd (not-suc-le_self i h)))
