-- How many items are taken and how large their numbers are, whether or not they lead to the end.
use Rattle.std.proofs.Common.{◌≡◌, ℕ, suc, ◌+◌, ◌*◌, ◌<◌, ◌≤◌, true, false, ◌≢◌, List, [], ◌∷◌, ◌++◌, length, Ok, sym, refl, ap, ◌∙◌, subst, ap₂, arith, length-append}
use mathlib.Core.Path.{fun_ext}
use Rattle.std.specs.List.{AllByRecursion}
use Rattle.records.specs.declared.action.Action.{Action}
use Rattle.records.specs.declared.action.Action.TheVariants.{Read, Sync}
use Rattle.machines.specs.declared.items.RunItem.{RunItem}
use Rattle.machines.specs.declared.items.RunItem.TheVariants.{Perform, Drain}
use Rattle.machines.specs.declared.items.CertificateItem.{CertificateItem}
use Rattle.machines.specs.declared.items.CertificateItem.TheVariants.{Move, Come}
use Rattle.machines.specs.Machine.{feed}
use Rattle.machines.specs.Memory.{upd, stored}
use Rattle.machines.specs.Run.{Waiting, waits, RunState, runs}
use Rattle.machines.specs.Certificate.{OrderState, certifies}
use Rattle.agreement.specs.Convert.{moved_or, sum_over, move_count, after_moves, reversed}
use Rattle.machines.proofs.Tables.{upd_at, upd_off}
use Rattle.agreement.proofs.Updates.{on₁, From, below, from_upd}
use Rattle.machines.proofs.Feeds.{ok_inj, stepped, bounded, each-taken}
use Rattle.agreement.proofs.RunSteps.{RunTaken, t_read, t_write, t_sync, t_drain, run_taken}
use Rattle.agreement.proofs.MoveSteps.{move-fits}
use Rattle.agreement.proofs.CertificateSteps.{CertificateTaken, c_move, certificate_taken, Came, came, movable, no_move}
use Rattle.agreement.proofs.Reversals.{Forward, move_forward, move-reverses, move-length, reversed-few}
use Rattle.agreement.proofs.Sums.{sum_at, sum_le, sum-times}

-- ── Runs ──
-- only the first n threads have anything to perform or to drain
pub record RunWithin (n : ℕ) (m : RunState) : Type 0 where
  pub rest_within : From n m.rest
  pub buffer_within : From n m.buffer

-- two for each action to perform, one for each write to drain
abbrev row_weight : List Action → List Waiting → ℕ
row_weight r b = 2 * length r + length b

abbrev pub run_weight : ℕ → RunState → ℕ
run_weight n m = sum_over n 0 (λ u. row_weight (m.rest u) (m.buffer u))

abbrev pub run_thread : RunItem → ℕ
run_thread (Perform t) = t
run_thread (Drain t) = t

-- an item changes the row of its thread, and makes it lighter
record Lighter (n : ℕ) (m k : RunState) (t : ℕ) : Type 0 where
  within : RunWithin n k
  in_range : t < n
  off : (u : ℕ) → u ≢ t → row_weight (k.rest u) (k.buffer u) ≡ row_weight (m.rest u) (m.buffer u)
  less : row_weight (k.rest t) (k.buffer t) < row_weight (m.rest t) (m.buffer t)

performs-only : (n : ℕ) (m k : RunState) (t : ℕ) (a : Action) (rs : List Action) → RunWithin n m → m.rest t ≡ a ∷ rs
    → k.rest ≡ upd m.rest t rs → k.buffer ≡ m.buffer → Lighter n m k t
performs-only n m k t a rs w q er eb =
    let lt = below n m.rest t w.rest_within q in
    record {
      within = record {
        rest_within = subst (From n) (sym er) (from_upd n m.rest t rs w.rest_within lt);
        buffer_within = subst (From n) (sym eb) w.buffer_within;
      };
      in_range = lt;
      off = λ u d. ap₂ (λ r b. row_weight (r u) (b u)) er eb ∙ ap (λ r. row_weight r (m.buffer u)) (upd_off m.rest t rs u d);
      less =
          let x = ap (λ r. length (r t)) er ∙ ap (λ l. length l) (upd_at m.rest t rs) in
          let y = ap (λ b. length (b t)) eb in
          let z = ap (λ l. length l) q in
          omega arith;
    }

lighter : {n : ℕ} {m k : RunState} {i : RunItem} → RunWithin n m → RunTaken m i k → Lighter n m k (run_thread i)
lighter {n} {m} w (t_read {t} {n = a} {x} {s} {rs} q e) =
    performs-only n m (record { rest = upd m.rest t rs; buffer = m.buffer; memory = m.memory; turns = m.turns })
    t (Read a x s) rs w q refl refl
lighter {n} {m} w (t_sync {t} {n = a} {k = j} {o} {rs} q b e g) =
    performs-only n m (record {
      rest = upd m.rest t rs;
      buffer = m.buffer;
      memory = stored a o m.memory;
      turns = suc m.turns;
    })
    t (Sync a j o) rs w q refl refl
lighter {n} {m} w (t_write {t} {n = a} {x} {rs} q) =
    let lt = below n m.rest t w.rest_within q in
    let b = m.buffer t ++ (waits a x ∷ []) in
    record {
      within = record {
        rest_within = from_upd n m.rest t rs w.rest_within lt;
        buffer_within = from_upd n m.buffer t b w.buffer_within lt;
      };
      in_range = lt;
      off = λ u d. ap₂ (λ r c. row_weight r c) (upd_off m.rest t rs u d) (upd_off m.buffer t b u d);
      less =
          let u = ap (λ l. length l) (upd_at m.rest t rs) in
          let y = ap (λ l. length l) (upd_at m.buffer t b) in
          let z = ap (λ l. length l) q in
          let v = length-append (m.buffer t) (waits a x ∷ []) in
          omega arith;
    }
lighter {n} {m} w (t_drain {t} {b = b} q) =
    let lt = below n m.buffer t w.buffer_within q in
    record {
      within = record { rest_within = w.rest_within; buffer_within = from_upd n m.buffer t b w.buffer_within lt };
      in_range = lt;
      off = λ u d. ap (λ c. row_weight (m.rest u) c) (upd_off m.buffer t b u d);
      less =
          let x = ap (λ l. length l) (upd_at m.buffer t b) in
          let z = ap (λ l. length l) q in
          omega arith;
    }

pub run_few : (n : ℕ) (is : List RunItem) (m m' : RunState) → RunWithin n m → feed runs (Ok m) is ≡ Ok m'
    → length is ≤ run_weight n m
run_few n is m m' w e = bounded runs (RunWithin n) (run_weight n) lowers is m m' w e
  where
    lowers : (m k : RunState) (i : RunItem) → RunWithin n m → runs m i ≡ Ok k → RunWithin n k × (run_weight n k < run_weight n m)
    lowers m k i w' e' =
        let h = lighter w' (run_taken m i e') in
        let l = h.in_range in
        let a = sum_at (run_thread i) (λ u. row_weight (m.rest u) (m.buffer u)) (λ u. row_weight (k.rest u) (k.buffer u))
        h.off
        n 0 (omega arith) (omega arith) in
        let b = h.less in
        (h.within, omega arith)

pub run_small : (n : ℕ) (is : List RunItem) (m m' : RunState) → RunWithin n m → feed runs (Ok m) is ≡ Ok m'
    → AllByRecursion (λ i. run_thread i < n) is
run_small n is m m' w e =
    each-taken runs (RunWithin n) (λ i. run_thread i < n)
    (λ m k i w' e'. let h = lighter w' (run_taken m i e') in (h.within, h.in_range)) is m m' w e

-- ── Certificates ──
abbrev pub left_count : ℕ → OrderState → ℕ
left_count n s = sum_over n 0 (λ u. length (s.left u))

abbrev pub pair_count : ℕ → (ℕ → List Action) → ℕ
pair_count n f = sum_over n 0 (λ u. reversed (f u))

-- one action is left less when one comes
came-less : {n t : ℕ} {s k : OrderState} → From n s.left → Came s t k
    → From n k.left × (suc (left_count n k) ≡ left_count n s)
came-less {n} {t} {s} {k} fr h =
    let lt = below n s.left t fr h.next in
    let a = sum_at t (λ u. length (s.left u)) (λ u. length (k.left u))
    (λ u d. ap (λ f. length (f u)) h.leaves ∙ ap (λ l. length l) (upd_off s.left t h.others u d))
    n 0 (omega arith) (omega arith) in
    let b = ap (λ f. length (f t)) h.leaves ∙ ap (λ l. length l) (upd_at s.left t h.others) in
    let c = ap (λ l. length l) h.next in
    (subst (From n) (sym h.leaves) (from_upd n s.left t h.others fr lt), omega arith)

-- once one has come: no move, and one item for each action
record OrderTally (n : ℕ) (js : List CertificateItem) (s s' : OrderState) : Type 0 where
  none : move_count js ≡ 0
  items : length js + left_count n s' ≡ left_count n s

order-tally : (n : ℕ) (js : List CertificateItem) (s s' : OrderState) → s.begun ≡ true → From n s.left
    → feed certifies (Ok s) js ≡ Ok s' → OrderTally n js s s'
order-tally n [] s s' b fr e = record { none = refl; items = let x = ap (left_count n) (ok_inj e) in omega arith }
order-tally n (Move t p c ∷ js) s s' b fr e =
    let h = stepped certifies (Move t p c) js s s' e in absurd (no_move b (certificate_taken s (Move t p c) h.steps))
order-tally n (Come t ∷ js) s s' b fr e =
    let h = stepped certifies (Come t) js s s' e in
    let g = came (certificate_taken s (Come t) h.steps) in
    let l = came-less fr g in
    let r = order-tally n js h.next s' g.begins l.0 h.onward in
    let x = l.1 in
    record { none = r.none; items = let y = r.items in omega arith }

-- each move reverses one more pair and leaves the lists as long; one item for each move and each action that comes
pub record Tally (n : ℕ) (js : List CertificateItem) (s s' : OrderState) : Type 0 where
  pub reverses : pair_count n (after_moves js s.left) ≡ move_count js + pair_count n s.left
  pub lengths : (u : ℕ) → length (after_moves js s.left u) ≡ length (s.left u)
  pub items : length js + left_count n s' ≡ move_count js + left_count n s

tally-move : {t p c : ℕ} {s k : OrderState} (n : ℕ) (js : List CertificateItem) (s' : OrderState)
    → CertificateTaken s (Move t p c) k → From n s.left → ((u : ℕ) → Forward (s.left u))
    → (k.begun ≡ false → From n k.left → ((u : ℕ) → Forward (k.left u)) → Tally n js k s') → Tally n (Move t p c ∷ js) s s'
tally-move {t} {p} {c} {s} n js s' (c_move {K = K} b q m) fr ri onward =
    let lt = movable n s.left t fr m in
    let h = onward refl (from_upd n s.left t K fr lt)
    (on₁ t (λ u l. Forward l) s.left (λ u _. ri u) (move_forward m (ri t))) in
    let f : ℕ → List Action = upd s.left t K in
    let at_t = ap (λ l. reversed l) (upd_at s.left t K) ∙ move-reverses m (ri t) in
    let a = sum_at t (λ u. reversed (s.left u)) (λ u. reversed (f u))
    (λ u d. ap (λ l. reversed l) (upd_off s.left t K u d)) n 0 (omega arith) (omega arith) in
    let same : (u : ℕ) → length (f u) ≡ length (s.left u) =
    on₁ t (λ u l. length l ≡ length (s.left u)) s.left (λ u _. refl) (move-length m) in
    let o : pair_count n (after_moves (Move t p c ∷ js) s.left) ≡ pair_count n (after_moves js f) =
    ap (λ r. pair_count n (after_moves js (upd s.left t (moved_or (s.left t) r)))) q in
    let w : left_count n (record { begun = false; left = f; memory = s.memory; turns = s.turns }) ≡ left_count n s =
    ap (λ g. sum_over n 0 g) (fun_ext same) in
    let x = h.reverses in
    let y = h.items in
    record {
      reverses = omega arith;
      lengths = λ u. ap (λ r. length (after_moves js (upd s.left t (moved_or (s.left t) r)) u)) q ∙ h.lengths u ∙ same u;
      items = omega arith;
    }

pub tally : (n : ℕ) (js : List CertificateItem) (s s' : OrderState) → s.begun ≡ false → From n s.left
    → ((u : ℕ) → Forward (s.left u)) → feed certifies (Ok s) js ≡ Ok s' → Tally n js s s'
tally n [] s s' b fr ri e =
    record { reverses = omega arith; lengths = λ u. refl; items = let x = ap (left_count n) (ok_inj e) in omega arith }
tally n (Come t ∷ js) s s' b fr ri e =
    let h = stepped certifies (Come t) js s s' e in
    let g = came (certificate_taken s (Come t) h.steps) in
    let l = came-less fr g in
    let r = order-tally n js h.next s' g.begins l.0 h.onward in
    let x = l.1 in
    let y = r.none in
    let z = r.items in
    record { reverses = omega arith; lengths = λ u. refl; items = omega arith }
tally n (Move t p c ∷ js) s s' b fr ri e =
    let h = stepped certifies (Move t p c) js s s' e in
    tally-move n js s' (certificate_taken s (Move t p c) h.steps) fr ri
    (λ b' fr' ri'. tally n js h.next s' b' fr' ri' h.onward)

-- at most 16 moves for each action
pub moves_few : (n : ℕ) (js : List CertificateItem) (s s' : OrderState) → ((u : ℕ) → length (s.left u) ≤ 64) → Tally n js s s'
    → move_count js ≤ 16 * left_count n s
moves_few n js s s' short h =
    let f = after_moves js s.left in
    let a = sum_le n 0 (λ u. reversed (f u)) (λ u. 16 * length (f u))
    (λ u. let x = h.lengths u in let y = short u in reversed-few (f u) (omega arith)) in
    let b = sum-times 16 n 0 (λ u. length (f u)) in
    let c = ap (λ g. sum_over n 0 g) (fun_ext h.lengths) in
    let d = h.reverses in
    omega arith

-- ── The numbers of a certificate's items ──
abbrev pub Small : ℕ → CertificateItem → Type 0
Small n (Move t p c) = (t < n) × (p < 64) × (c < 64)
Small n (Come t) = t < n

pub record OrderWithin (n : ℕ) (s : OrderState) : Type 0 where
  pub left_within : From n s.left
  pub short : (u : ℕ) → length (s.left u) ≤ 64

small-item : (n : ℕ) (j : CertificateItem) {s k : OrderState} → OrderWithin n s → CertificateTaken s j k
    → OrderWithin n k × Small n j
small-item n (Move t p c) {s} w (c_move {K = K} b q m) =
    let lt = movable n s.left t w.left_within m in
    let l = move-fits m in
    let x = w.short t in
    let y = move-length m in (
      record {
        left_within = from_upd n s.left t K w.left_within lt;
        short = on₁ t (λ u l. length l ≤ 64) s.left (λ u _. w.short u) (omega arith);
      },
      (lt, omega arith, omega arith),
    )
small-item n (Come t) {s} w d =
    let h = came d in
    let lt = below n s.left t w.left_within h.next in
    let x = w.short t in
    let y = ap (λ l. length l) h.next in (
      record {
        left_within = subst (From n) (sym h.leaves) (from_upd n s.left t h.others w.left_within lt);
        short = subst (λ f. (u : ℕ) → length (f u) ≤ 64) (sym h.leaves)
            (on₁ t (λ u l. length l ≤ 64) s.left (λ u _. w.short u) (omega arith));
      },
      lt,
    )

pub certificate-small : (n : ℕ) (js : List CertificateItem) (s s' : OrderState) → OrderWithin n s
    → feed certifies (Ok s) js ≡ Ok s' → AllByRecursion (Small n) js
certificate-small n js s s' w e =
    each-taken certifies (OrderWithin n) (Small n) (λ s k j w' e'. small-item n j w' (certificate_taken s j e')) js s s' w e
