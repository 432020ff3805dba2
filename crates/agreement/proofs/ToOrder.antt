-- From a run to a certificate: the plan made along a complete run leads to lists that come in the plan's order.
use Rattle.std.proofs.Common.{◌≡◌, ℕ, zero, suc, ◌+◌, ◌<◌, ◌≤◌, Bool, true, false, cond, eqb, List, [], ◌∷◌, ◌++◌, length, sym, refl, ap, ◌∙◌, subst, ap₂, subst₂, inl, inr, ⊎_elim, not-suc-le-zero, arith}
use mathlib.Core.Path.{fun_ext}
use Rattle.std.proofs.lemmas.Bool.{cases_lt}
use Rattle.records.specs.declared.action.Action.{Action}
use Rattle.records.specs.declared.action.Action.TheVariants.{Read, Write, Sync}
use Rattle.records.specs.declared.action.SyncOp.{SyncOp}
use Rattle.machines.specs.declared.items.RunItem.{RunItem}
use Rattle.machines.specs.Memory.{upd, agrees, stored}
use Rattle.machines.specs.Run.{Waiting, waits, sees}
use Rattle.agreement.specs.Convert.{Group, group, holds, joins, shift, shifts, passing, settling, Plan, each, released, flushed}
use Rattle.agreement.specs.Convert.{plan_read, plan_perform, plan_drain, plan}
use Rattle.machines.proofs.Tables.{upd_at, upd_off, upd_still}
use Rattle.agreement.proofs.Updates.{upd_upd, on₁, on₂, back₂₀, back₁₂, back₂₂, From, below, from_upd}
use Rattle.agreement.proofs.Buffer.{Join, reads}
use Rattle.agreement.proofs.Moving.{Moves, still}
use Rattle.agreement.proofs.Sliding.{lay, lay-snoc, under, under-reads, after, slide, free-holds, join-holds, join_is, settle}
use Rattle.agreement.proofs.Relations.{Run, r_end, r_write, r_read, r_sync, r_drain, Ord, o_end, o_write, o_read, o_sync, waits_of}
use Rattle.agreement.proofs.Relations.{waits_of-snoc, waits_of-join, waits_of-nil, waits_of-cons, Sight, sight}

-- ── Steps of an order at a list that was just put in its place ──
module _ (L : ℕ → List Action) (t : ℕ) where
  read_next : (n x s : ℕ) (rs : List Action) {os : List ℕ} {mem : ℕ → ℕ} {k : ℕ} → mem x ≡ s
      → Ord os (upd L t rs) mem k → Ord (t ∷ os) (upd L t (Read n x s ∷ rs)) mem k
  read_next n x s rs {os} {mem} {k} m d =
      o_read (upd_at L t (Read n x s ∷ rs)) m (subst (λ f. Ord os f mem k) (sym (upd_upd L t (Read n x s ∷ rs) rs)) d)

  write-next : (n x : ℕ) (rs : List Action) {os : List ℕ} {k : ℕ} (mem : ℕ → ℕ)
      → Ord os (upd L t rs) (upd mem x n) k → Ord (t ∷ os) (upd L t (Write n x ∷ rs)) mem k
  write-next n x rs {os} {k} mem d =
      o_write (upd_at L t (Write n x ∷ rs)) (subst (λ f. Ord os f (upd mem x n) k) (sym (upd_upd L t (Write n x ∷ rs) rs)) d)

  sync_next : (n j : ℕ) (o : SyncOp) (rs : List Action) {os : List ℕ} {k : ℕ} (mem : ℕ → ℕ) → j ≡ suc k → agrees o mem ≡ true
      → Ord os (upd L t rs) (stored n o mem) (suc k) → Ord (t ∷ os) (upd L t (Sync n j o ∷ rs)) mem k
  sync_next n j o rs {os} {k} mem e m d =
      o_sync (upd_at L t (Sync n j o ∷ rs)) e m
      (subst (λ f. Ord os f (stored n o mem) (suc k)) (sym (upd_upd L t (Sync n j o ∷ rs) rs)) d)

  reads-next : (w y : ℕ) (ns : List ℕ) (rs : List Action) {os : List ℕ} {mem : ℕ → ℕ} {k : ℕ} → mem y ≡ w
      → Ord os (upd L t rs) mem k → Ord (each t ns os) (upd L t (reads w y ns ++ rs)) mem k
  reads-next w y [] rs m d = d
  reads-next w y (n ∷ ns) rs m d = read_next n y w (reads w y ns ++ rs) m (reads-next w y ns rs m d)

-- ── The groups that wait at the end ──
-- an order, whatever memory holds
abbrev Any_order : List ℕ → (ℕ → List Action) → ℕ → Type 0
Any_order os L k = (mem : ℕ → ℕ) → Ord os L mem k

-- those of one thread come
groups-next : (L : ℕ → List Action) (t k : ℕ) (gs : List Group) (rs : List Action) (os : List ℕ)
    → Any_order os (upd L t rs) k → Any_order (released t gs os) (upd L t (lay gs rs)) k
groups-next L t k [] rs os h mem = h mem
groups-next L t k (group w y ns ∷ gs) rs os h mem =
    write-next L t w y (reads w y ns ++ lay gs rs) mem
    (reads-next L t w y ns (lay gs rs) (upd_at mem y w) (groups-next L t k gs rs os h (upd mem y w)))

laid : (ℕ → List Group) → ℕ → List Action
laid gs u = lay (gs u) []

laid_upd : (gs : ℕ → List Group) (t : ℕ) (h : List Group) → laid (upd gs t h) ≡ upd (laid gs) t (lay h [])
unfolding laid
laid_upd gs t h = fun_ext (λ u. go u (eqb u t))
  where
    go : (u : ℕ) (b : Bool) → lay (cond b h (gs u)) [] ≡ cond b (lay h []) (lay (gs u) [])
    go u true = refl
    go u false = refl

flushed-later : (d j t : ℕ) (gs : ℕ → List Group) (h : List Group) → t < j → flushed d j (upd gs t h) ≡ flushed d j gs
flushed-later zero j t gs h l = refl
flushed-later (suc d) j t gs h l =
    ap₂ (λ g os. released j g os) (upd_off gs t h j (omega arith)) (flushed-later d (suc j) t gs h (omega arith))

-- those of every thread from i on come, thread by thread
flush : (d i k : ℕ) (gs : ℕ → List Group) → ((u : ℕ) → u < i → gs u ≡ []) → From (i + d) gs
    → Any_order (flushed d i gs) (laid gs) k
unfolding laid
flush zero i k gs low high mem =
    o_end (λ u. ap (λ g. lay g []) (⊎_elim (λ (h : u < i). low u h) (λ (h : i ≤ u). high u (omega arith)) (cases_lt u i)))
flush (suc d) i k gs low high mem =
    subst (λ L. Any_order (flushed (suc d) i gs) L k) (upd_still (laid gs) i (laid gs i) refl)
    (groups-next (laid gs) i k (gs i) [] (flushed d (suc i) gs)
    (subst₂ (λ os L. Any_order os L k) (flushed-later d (suc i) i gs [] (omega arith)) (laid_upd gs i [])
    (flush d (suc i) k (upd gs i [])
    (on₁ i (λ u g. u < suc i → g ≡ []) gs (λ u n h. low u (omega arith)) (λ h. refl))
    (on₁ i (λ u g. suc i + d ≤ u → g ≡ []) gs (λ u n h. high u (omega arith)) (λ h. refl))))) mem

-- ── Along the run ──
-- the plan takes the groups and what is left to lists that come in its order
pub record Emitted (p : Plan) (gs : ℕ → List Group) (rest : ℕ → List Action) (mem : ℕ → ℕ) (k : ℕ) : Type 0 where
  pub lists : ℕ → List Action
  pub local : (u : ℕ) → Moves (p.marks u) (lay (gs u) (rest u)) (lists u)
  pub taken : Ord p.order lists mem k

module _ (N : ℕ) (is : List RunItem) (rest : ℕ → List Action) (buf : ℕ → List Waiting) (mem : ℕ → ℕ) (k t : ℕ)
    (gs : ℕ → List Group) where
  -- a read comes now, or joins a waiting write
  emit_read : (n x s : ℕ) (rs : List Action) → rest t ≡ Read n x s ∷ rs → ((u : ℕ) → waits_of (gs u) ≡ buf u) → From N gs → t < N
      → ((hs : ℕ → List Group) → ((u : ℕ) → waits_of (hs u) ≡ buf u) → From N hs
      → Emitted (plan N is (upd rest t rs) hs) hs (upd rest t rs) mem k)
      → Sight n x s (gs t) (mem x) → Emitted (plan_read (λ r g. plan N is r g) t rest gs n x rs (holds x (gs t))) gs rest mem k
  emit_read n x s rs e eq fg lt onward (inl c) =
      let h = onward gs eq fg in
      let p = plan N is (upd rest t rs) gs in
      let L = h.lists in
      subst (λ b. Emitted (plan_read (λ r g. plan N is r g) t rest gs n x rs b) gs rest mem k) (sym (free-holds x (gs t) c.1))
      (record {
        lists = upd L t (Read n x s ∷ L t);
        local = back₁₂ t (λ u r ms l. Moves ms (lay (gs u) r) l) rest p.marks L h.local
            (λ m. subst (λ r. Moves (passing (gs t) ++ shift (p.marks t)) (lay (gs t) r) (Read n x s ∷ L t)) (sym e)
            (after (slide (gs t) n x s rs c.1) (under m)));
        taken = read_next L t n x s (L t) c.0 (subst (λ f. Ord p.order f mem k) (sym (upd_still L t (L t) refl)) h.taken);
      })
  emit_read n x s rs e eq fg lt onward (inr c) =
      let hs = joins n x (gs t) in
      let j = subst (λ h. Join n x s (gs t) h) (join_is c.1) c.1 in
      let h = onward (upd gs t hs) (on₁ t (λ u g. waits_of g ≡ buf u) gs (λ u _. eq u) (waits_of-join j ∙ eq t))
      (from_upd N gs t hs fg lt) in
      let p = plan N is (upd rest t rs) (upd gs t hs) in
      let L = h.lists in
      subst (λ b. Emitted (plan_read (λ r g. plan N is r g) t rest gs n x rs b) gs rest mem k) (sym (join-holds j))
      (record {
        lists = upd L t (L t);
        local = back₂₂ t (λ u g r ms l. Moves ms (lay g r) l) gs rest p.marks L h.local
            (λ m. subst (λ r. Moves (settling x (gs t) ++ p.marks t) (lay (gs t) r) (L t)) (sym e) (after (settle rs j) m));
        taken = subst (λ f. Ord p.order f mem k) (sym (upd_still L t (L t) refl)) h.taken;
      })

pub to_order : (N : ℕ) {is : List RunItem} {rest : ℕ → List Action} {buf : ℕ → List Waiting} {mem : ℕ → ℕ} {k : ℕ}
    → Run is rest buf mem k → (gs : ℕ → List Group) → ((u : ℕ) → waits_of (gs u) ≡ buf u) → From N rest → From N gs
    → Emitted (plan N is rest gs) gs rest mem k
to_order N {mem = mem} {k = k} (r_end {rest = rest} e) gs eq fr fg =
    record {
      lists = laid gs;
      local = λ u. unfold laid in still (ap (λ r. lay (gs u) r) (e u));
      taken = flush N 0 k gs (λ u l. absurd (not-suc-le-zero l)) (λ u l. fg u (omega arith)) mem;
    }
to_order N (r_write {is} {rest} {buf} {mem} {k} {t} {n} {x} {rs} e d) gs eq fr fg =
    let lt = below N rest t fr e in
    let g = gs t ++ (group n x [] ∷ []) in
    let h = to_order N d (upd gs t g)
    (on₂ t (λ u g b. waits_of g ≡ b) gs buf (λ u _. eq u)
    (waits_of-snoc (gs t) n x [] ∙ ap {B = List Waiting} (λ b. b ++ (waits n x ∷ [])) (eq t)))
    (from_upd N rest t rs fr lt) (from_upd N gs t g fg lt) in
    let p = plan N is (upd rest t rs) (upd gs t g) in
    let L = h.lists in
    subst (λ l. Emitted (plan_perform (λ r g. plan N is r g) t rest gs l) gs rest mem k) (sym e)
    (record {
      lists = L;
      local = back₂₀ t (λ u g r. Moves (p.marks u) (lay g r) (L u)) gs rest h.local
          (λ m. subst (λ j. Moves (p.marks t) j (L t)) (lay-snoc (gs t) n x rs ∙ ap (λ r. lay (gs t) r) (sym e)) m);
      taken = h.taken;
    })
to_order N (r_read {is} {rest} {buf} {mem} {k} {t} {n} {x} {s} {rs} e q d) gs eq fr fg =
    let lt = below N rest t fr e in
    subst (λ l. Emitted (plan_perform (λ r g. plan N is r g) t rest gs l) gs rest mem k) (sym e)
    (emit_read N is rest buf mem k t gs n x s rs e eq fg lt
    (λ hs eq' fg'. to_order N d hs eq' (from_upd N rest t rs fr lt) fg')
    (sight n x s (gs t) (mem x) (ap (λ b. sees x b (mem x)) (eq t) ∙ q)))
to_order N (r_sync {is} {rest} {buf} {mem} {k} {t} {n} {j} {o} {rs} e b due q d) gs eq fr fg =
    let h = to_order N d gs eq (from_upd N rest t rs fr (below N rest t fr e)) fg in
    let p = plan N is (upd rest t rs) gs in
    let L = h.lists in
    let none = waits_of-nil (gs t) (eq t ∙ b) in
    subst (λ l. Emitted (plan_perform (λ r g. plan N is r g) t rest gs l) gs rest mem k) (sym e)
    (record {
      lists = upd L t (Sync n j o ∷ L t);
      local = back₁₂ t (λ u r ms l. Moves ms (lay (gs u) r) l) rest p.marks L h.local
          (λ m. subst₂ (λ g r. Moves (shift (p.marks t)) (lay g r) (Sync n j o ∷ L t)) (sym none) (sym e)
          (under (subst (λ g. Moves (p.marks t) (lay g rs) (L t)) none m)));
      taken = sync_next L t n j o (L t) mem due q
          (subst (λ f. Ord p.order f (stored n o mem) (suc k)) (sym (upd_still L t (L t) refl)) h.taken);
    })
to_order N (r_drain {is} {rest} {buf} {mem} {k} {t} {n} {x} {b} e d) gs eq fr fg =
    let c = waits_of-cons (gs t) (eq t ∙ e) in
    let ns = c.0 in
    let h = to_order N d (upd gs t c.1) (on₂ t (λ u g b. waits_of g ≡ b) gs buf (λ u _. eq u) c.3)
    fr (from_upd N gs t c.1 fg (below N gs t fg c.2)) in
    let p = plan N is rest (upd gs t c.1) in
    let L = h.lists in
    subst (λ g. Emitted (plan_drain (λ r g. plan N is r g) t rest gs g) gs rest mem k) (sym c.2)
    (record {
      lists = upd L t (Write n x ∷ (reads n x ns ++ L t));
      local = back₁₂ t (λ u g ms l. Moves ms (lay g (rest u)) l) gs p.marks L h.local
          (λ m. subst (λ g. Moves (shifts (suc (length ns)) (p.marks t)) (lay g (rest t)) (Write n x ∷ (reads n x ns ++ L t)))
          (sym c.2) (under (under-reads n x ns m)));
      taken = write-next L t n x (reads n x ns ++ L t) mem
          (reads-next L t n x ns (L t) (upd_at mem x n)
          (subst (λ f. Ord p.order f (upd mem x n) k) (sym (upd_still L t (L t) refl)) h.taken));
    })
