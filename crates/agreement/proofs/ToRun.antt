-- From a certificate to a run: what the replay of a complete order performs and drains is a complete run.
use Rattle.std.proofs.Common.{◌≡◌, ℕ, suc, ◌+◌, ◌-◌, ◌<◌, ◌≤◌, true, List, [], ◌∷◌, ◌++◌, sym, refl, ap, ◌∙◌, subst, subst₂, arith}
use Rattle.std.specs.List.{AllByRecursion}
use Rattle.std.proofs.ByRecursion.{All-append, All-weaker}
use Rattle.records.specs.declared.action.Action.{Action}
use Rattle.records.specs.declared.action.Action.TheVariants.{Read, Write, Sync}
use Rattle.records.specs.declared.action.SyncOp.{SyncOp}
use Rattle.records.specs.Actions.{name_of}
use Rattle.machines.specs.declared.items.RunItem.{RunItem}
use Rattle.machines.specs.declared.items.RunItem.TheVariants.{Perform, Drain}
use Rattle.machines.specs.Memory.{upd, agrees, stored}
use Rattle.machines.specs.Run.{Waiting, waits, sees}
use Rattle.agreement.specs.Convert.{Group, group, comings, again, coming, replay_from}
use Rattle.machines.proofs.Tables.{upd_at, upd_still}
use Rattle.agreement.proofs.Updates.{upd_upd, on₄}
use Rattle.agreement.proofs.Buffer.{Join, here, there, reads, Emits, emit, write, join, pass, turn, emits, eager, nothing}
use Rattle.agreement.proofs.Relations.{Run, r_end, r_write, r_read, r_sync, r_drain, Ord, o_end, o_write, o_read, o_sync, waits_of}
use Rattle.agreement.proofs.Relations.{waits_of-snoc, waits_of-join, sees-free, sees-join}

-- the actions of a list are named i, i + 1, and so on
abbrev pub NamedFrom : ℕ → List Action → Type 0
NamedFrom i [] = Unit {0}
NamedFrom i (a ∷ rs) = (name_of a ≡ i) × NamedFrom (suc i) rs

-- ── What is performed: its names are below a bound ──
abbrev Below : ℕ → List ℕ → Type 0
Below m ns = AllByRecursion (λ n. n < m) ns

abbrev Seen : ℕ → List Action → Type 0
Seen m R = AllByRecursion (λ a. name_of a < m) R

abbrev Old : ℕ → List Group → Type 0
Old m [] = Unit {0}
Old m (group w y ns ∷ gs) = (w < m) × Below m ns × Old m gs

below-reads : (m w y : ℕ) (ns : List ℕ) → Below m ns → Seen m (reads w y ns)
below-reads m w y [] h = tt
below-reads m w y (n ∷ ns) h = (h.0, below-reads m w y ns h.1)

old_up : (m : ℕ) (gs : List Group) → Old m gs → Old (suc m) gs
old_up m [] h = tt
old_up m (group w y ns ∷ gs) h =
    let l = h.0 in (omega arith, All-weaker (λ n. n < m) (λ n. n < suc m) (λ n k. omega arith) ns h.1, old_up m gs h.2)

old-snoc : (m : ℕ) (gs : List Group) (w y : ℕ) → Old m gs → w < m → Old m (gs ++ (group w y [] ∷ []))
old-snoc m [] w y h l = (l, tt, tt)
old-snoc m (group v z ns ∷ gs) w y h l = (h.0, h.1, old-snoc m gs w y h.2 l)

old-join : (m : ℕ) {n x s : ℕ} {gs hs : List Group} → Join n x s gs hs → Old m gs → n < m → Old m hs
old-join m {n} (here {w} {y} {ns} e f g) h l = (h.0, All-append (λ k. k < m) ns (n ∷ []) h.1 (l, tt), h.2)
old-join m (there {g = group w y ns} j) h l = (h.0, h.1, old-join m j h.2 l)

-- what a thread performs before it emits a read or a capital that is not performed has smaller names
later-read : {gs : List Group} {r L : List Action} {n x s : ℕ} (nx : ℕ) → Emits [] gs r (Read n x s ∷ L) → NamedFrom nx r → nx ≤ n
later-read nx (write d) h = let l = later-read (suc nx) d h.1 in omega arith
later-read nx (join j d) h = let l = later-read (suc nx) d h.1 in omega arith
later-read nx (pass f d) h = let e = h.0 in omega arith

later_sync : {gs : List Group} {r L : List Action} {n j : ℕ} {o : SyncOp} (nx : ℕ) → Emits [] gs r (Sync n j o ∷ L)
    → NamedFrom nx r → nx ≤ n
later_sync nx (write d) h = let l = later_sync (suc nx) d h.1 in omega arith
later_sync nx (join j d) h = let l = later_sync (suc nx) d h.1 in omega arith
later_sync nx (turn d) h = let e = h.0 in omega arith

-- ── Steps of a run at a row that was just put in its place ──
module _ (rest : ℕ → List Action) (buf : ℕ → List Waiting) (t : ℕ) {is : List RunItem} where
  read-now : (n x s : ℕ) (rs : List Action) (b : List Waiting) {mem : ℕ → ℕ} {k : ℕ} → sees x b (mem x) ≡ s
      → Run is (upd rest t rs) (upd buf t b) mem k → Run (Perform t ∷ is) (upd rest t (Read n x s ∷ rs)) (upd buf t b) mem k
  read-now n x s rs b {mem} {k} e h =
      r_read (upd_at rest t (Read n x s ∷ rs)) (ap (λ c. sees x c (mem x)) (upd_at buf t b) ∙ e)
      (subst (λ f. Run is f (upd buf t b) mem k) (sym (upd_upd rest t (Read n x s ∷ rs) rs)) h)

  write-now : (n x : ℕ) (rs : List Action) (b : List Waiting) {mem : ℕ → ℕ} {k : ℕ}
      → Run is (upd rest t rs) (upd buf t (b ++ (waits n x ∷ []))) mem k
      → Run (Perform t ∷ is) (upd rest t (Write n x ∷ rs)) (upd buf t b) mem k
  write-now n x rs b {mem} {k} h =
      let more = b ++ (waits n x ∷ []) in
      let longer = ap (λ c. upd (upd buf t b) t (c ++ (waits n x ∷ []))) (upd_at buf t b) ∙ upd_upd buf t b more in
      r_write (upd_at rest t (Write n x ∷ rs))
      (subst₂ (λ f g. Run is f g mem k) (sym (upd_upd rest t (Write n x ∷ rs) rs)) (sym longer) h)

  sync_now : (n j : ℕ) (o : SyncOp) (rs : List Action) {k : ℕ} (mem : ℕ → ℕ) → j ≡ suc k → agrees o mem ≡ true
      → Run is (upd rest t rs) (upd buf t []) (stored n o mem) (suc k)
      → Run (Perform t ∷ is) (upd rest t (Sync n j o ∷ rs)) (upd buf t []) mem k
  sync_now n j o rs {k} mem e q h =
      r_sync (upd_at rest t (Sync n j o ∷ rs)) (upd_at buf t []) e q
      (subst (λ f. Run is f (upd buf t []) (stored n o mem) (suc k)) (sym (upd_upd rest t (Sync n j o ∷ rs) rs)) h)

  drain-now : (n x : ℕ) (rs : List Action) (b : List Waiting) {k : ℕ} (mem : ℕ → ℕ)
      → Run is (upd rest t rs) (upd buf t b) (upd mem x n) k
      → Run (Drain t ∷ is) (upd rest t rs) (upd buf t (waits n x ∷ b)) mem k
  drain-now n x rs b {k} mem h =
      r_drain (upd_at buf t (waits n x ∷ b))
      (subst (λ g. Run is (upd rest t rs) g (upd mem x n) k) (sym (upd_upd buf t (waits n x ∷ b) b)) h)

-- ── One action that comes ──
-- a thread's row, whose next action is named nx, and the list that it has yet to emit
pub record Own (nx : ℕ) (r : List Action) (b : List Waiting) (L : List Action) : Type 0 where
  pub seen : List Action
  pub groups : List Group
  pub same_waits : waits_of groups ≡ b
  pub emits_it : Emits seen groups r L
  pub names : NamedFrom nx r
  pub old_seen : Seen nx seen
  pub old : Old nx groups

module _ (rest : ℕ → List Action) (buf : ℕ → List Waiting) (t : ℕ) (tail : List RunItem) where
  -- what is left to do once the action has come
  abbrev Then : ℕ → List Action → (ℕ → ℕ) → ℕ → Type 0
  Then nx L mem k = (r : List Action) (b : List Waiting) → Own nx r b L → Run tail (upd rest t r) (upd buf t b) mem k

  -- one item A for each action up to the one that comes, before others
  abbrev DoesThen : List RunItem → ℕ → List Action → List Group → (ℕ → ℕ) → ℕ → Type 0
  DoesThen is m r gs mem k = Run (again m (Perform t) is) (upd rest t r) (upd buf t (waits_of gs)) mem k

  -- an action that is performed although another comes: a write, or a read of a waiting write
  write_more : (w y : ℕ) (gs : List Group) (rs : List Action) (is : List RunItem) (m : ℕ) {mem : ℕ → ℕ} {k : ℕ}
      → DoesThen is m rs (gs ++ (group w y [] ∷ [])) mem k → DoesThen is (suc m) (Write w y ∷ rs) gs mem k
  write_more w y gs rs is m {mem} {k} h =
      write-now rest buf t w y rs (waits_of gs)
      (subst (λ b. Run (again m (Perform t) is) (upd rest t rs) (upd buf t b) mem k) (waits_of-snoc gs w y []) h)

  join_more : {n x s : ℕ} {gs hs : List Group} (rs : List Action) (is : List RunItem) (m : ℕ) {mem : ℕ → ℕ} {k : ℕ}
      → Join n x s gs hs → DoesThen is m rs hs mem k → DoesThen is (suc m) (Read n x s ∷ rs) gs mem k
  join_more {n} {x} {s} {gs} {hs} rs is m {mem} {k} j h =
      read-now rest buf t n x s rs (waits_of gs) (sees-join (mem x) j)
      (subst (λ b. Run (again m (Perform t) is) (upd rest t rs) (upd buf t b) mem k) (waits_of-join j) h)

  come_read : {R : List Action} {gs : List Group} {r L : List Action} {n x s : ℕ} (mem : ℕ → ℕ) (k nx nx' : ℕ)
      → Emits R gs r (Read n x s ∷ L) → nx' ≡ nx + (suc n - nx) → NamedFrom nx r → Seen nx R → Old nx gs
      → mem x ≡ s → Then nx' L mem k → DoesThen tail (suc n - nx) r gs mem k
  come_read mem k nx nx' (emit {n} {x} {s} {R} {gs} {rs} {L} d) e nm sn ol q next =
      let l = sn.0 in
      let none : (suc n - nx) ≡ 0 = omega arith in
      let y : nx ≡ nx' = omega arith in
      subst (λ m. DoesThen tail m rs gs mem k) (sym none)
      (next rs (waits_of gs) (subst (λ m. Own m rs (waits_of gs) L) y
      (record { seen = R; groups = gs; same_waits = refl; emits_it = d; names = nm; old_seen = sn.1; old = ol })))
  come_read {n = n} mem k nx nx' (write {w} {y} {gs} {rs} d) e nm sn ol q next =
      let l = later-read (suc nx) d nm.1 in
      let v = nm.0 in
      let more : (suc n - nx) ≡ suc (suc n - suc nx) = omega arith in
      subst (λ m. DoesThen tail m (Write w y ∷ rs) gs mem k) (sym more)
      (write_more w y gs rs tail (suc n - suc nx)
      (come_read mem k (suc nx) nx' d (omega arith) nm.1 tt (old-snoc (suc nx) gs w y (old_up nx gs ol) (omega arith)) q next))
  come_read {n = n} mem k nx nx' (join {n = a} {x} {s} {gs} {hs} {rs} j d) e nm sn ol q next =
      let l = later-read (suc nx) d nm.1 in
      let v = nm.0 in
      let more : (suc n - nx) ≡ suc (suc n - suc nx) = omega arith in
      subst (λ m. DoesThen tail m (Read a x s ∷ rs) gs mem k) (sym more)
      (join_more rs tail (suc n - suc nx) j
      (come_read mem k (suc nx) nx' d (omega arith) nm.1 tt (old-join (suc nx) j (old_up nx gs ol) (omega arith)) q next))
  come_read mem k nx nx' (pass {n} {x} {s} {gs} {rs} {L} f d) e nm sn ol q next =
      let v = nm.0 in
      let one : (suc n - nx) ≡ 1 = omega arith in
      let y : suc nx ≡ nx' = omega arith in
      subst (λ m. DoesThen tail m (Read n x s ∷ rs) gs mem k) (sym one)
      (read-now rest buf t n x s rs (waits_of gs) (sees-free x gs (mem x) f ∙ q)
      (next rs (waits_of gs) (subst (λ m. Own m rs (waits_of gs) L) y
      (record { seen = []; groups = gs; same_waits = refl; emits_it = d; names = nm.1; old_seen = tt; old = old_up nx gs ol }))))

  come_sync : {R : List Action} {gs : List Group} {r L : List Action} {n j : ℕ} {o : SyncOp} (mem : ℕ → ℕ) (k nx nx' : ℕ)
      → Emits R gs r (Sync n j o ∷ L) → nx' ≡ nx + (suc n - nx) → NamedFrom nx r → Old nx gs
      → j ≡ suc k → agrees o mem ≡ true → Then nx' L (stored n o mem) (suc k) → DoesThen tail (suc n - nx) r gs mem k
  come_sync {n = n} mem k nx nx' (write {w} {y} {gs} {rs} d) e nm ol due q next =
      let l = later_sync (suc nx) d nm.1 in
      let v = nm.0 in
      let more : (suc n - nx) ≡ suc (suc n - suc nx) = omega arith in
      subst (λ m. DoesThen tail m (Write w y ∷ rs) gs mem k) (sym more)
      (write_more w y gs rs tail (suc n - suc nx)
      (come_sync mem k (suc nx) nx' d (omega arith) nm.1
      (old-snoc (suc nx) gs w y (old_up nx gs ol) (omega arith)) due q next))
  come_sync {n = n} mem k nx nx' (join {n = a} {x} {s} {gs} {hs} {rs} j d) e nm ol due q next =
      let l = later_sync (suc nx) d nm.1 in
      let v = nm.0 in
      let more : (suc n - nx) ≡ suc (suc n - suc nx) = omega arith in
      subst (λ m. DoesThen tail m (Read a x s ∷ rs) gs mem k) (sym more)
      (join_more rs tail (suc n - suc nx) j
      (come_sync mem k (suc nx) nx' d (omega arith) nm.1 (old-join (suc nx) j (old_up nx gs ol) (omega arith)) due q next))
  come_sync mem k nx nx' (turn {n} {k = j} {o} {rs} {L} d) e nm ol due q next =
      let v = nm.0 in
      let one : (suc n - nx) ≡ 1 = omega arith in
      let y : suc nx ≡ nx' = omega arith in
      subst (λ m. DoesThen tail m (Sync n j o ∷ rs) [] mem k) (sym one)
      (sync_now rest buf t n j o rs mem due q
      (next rs [] (subst (λ m. Own m rs [] L) y
      (record { seen = []; groups = []; same_waits = refl; emits_it = d; names = nm.1; old_seen = tt; old = tt }))))

  -- the oldest waiting write is drained
  come_drain : {w y : ℕ} {ns : List ℕ} {gs : List Group} {r L : List Action} {v z : ℕ} (mem : ℕ → ℕ) (k nx : ℕ)
      → Emits [] (group w y ns ∷ gs) r (Write v z ∷ L) → NamedFrom nx r → Below nx ns → Old nx gs
      → Then nx L (upd mem z v) k → Run (Drain t ∷ tail) (upd rest t r) (upd buf t (waits w y ∷ waits_of gs)) mem k
  come_drain {w} {y} {ns} {gs} {r} {L} {v} {z} mem k nx d nm bl ol next =
      let h = eager d in
      let same : waits v z ≡ waits w y = (cc) in
      subst (λ a. Run (Drain t ∷ tail) (upd rest t r) (upd buf t (a ∷ waits_of gs)) mem k) same
      (drain-now rest buf t v z r (waits_of gs) mem (next r (waits_of gs) (record {
        seen = reads w y ns;
        groups = gs;
        same_waits = refl;
        emits_it = subst (λ l. Emits (reads w y ns) gs r l) (sym h.3) (emits w y ns h.4);
        names = nm;
        old_seen = below-reads nx w y ns bl;
        old = ol;
      })))

  come_write : {R : List Action} {gs : List Group} {r L : List Action} {v z : ℕ} (mem : ℕ → ℕ) (k nx nx' : ℕ)
      → Emits R gs r (Write v z ∷ L) → nx' ≡ nx + (suc v - nx) → NamedFrom nx r → Old nx gs
      → Then nx' L (upd mem z v) k → DoesThen (Drain t ∷ tail) (suc v - nx) r gs mem k
  come_write {R = a ∷ R} mem k nx nx' d e nm ol next = elim d [ ]
  come_write {R = []} {gs = []} {L = L} {v} {z} mem k nx nx' (write {w} {y} {rs = rs} d) e nm ol next =
      let h = eager d in
      let i = nm.0 in
      let g = h.1 in
      let one : (suc v - nx) ≡ 1 = omega arith in
      let p : nx' ≡ suc nx = omega arith in
      subst (λ m. DoesThen (Drain t ∷ tail) m (Write w y ∷ rs) [] mem k) (sym one)
      (write-now rest buf t w y rs []
      (come_drain mem k (suc nx) d nm.1 tt tt (subst (λ m. Then m L (upd mem z v) k) p next)))
  come_write {R = []} {gs = []} mem k nx nx' (join j d) e nm ol next = elim j [ ]
  come_write {R = []} {gs = group w y ns ∷ gs} {r} {L} {v} {z} mem k nx nx' d e nm ol next =
      let h = eager d in
      let i = ol.0 in
      let g = h.1 in
      let none : (suc v - nx) ≡ 0 = omega arith in
      let p : nx' ≡ nx = omega arith in
      subst (λ m. DoesThen (Drain t ∷ tail) m r (group w y ns ∷ gs) mem k) (sym none)
      (come_drain mem k nx d nm ol.1 ol.2 (subst (λ m. Then m L (upd mem z v) k) p next))

-- ── The whole order ──
-- thread t before its next action a, and the list that it has yet to emit
module _ (t : ℕ) (L : ℕ → List Action) (a : Action) (rs : List Action) (e : L t ≡ a ∷ rs) (next : ℕ → ℕ) (rest : ℕ → List Action)
    (buf : ℕ → List Waiting) (own : (u : ℕ) → Own (next u) (rest u) (buf u) (L u)) where
  row_emits : Emits (own t).seen (own t).groups (rest t) (a ∷ rs)
  row_emits = subst (λ l. Emits (own t).seen (own t).groups (rest t) l) e (own t).emits_it

  -- what the replay adds for the action that comes
  replays : (os : List ℕ) {mem : ℕ → ℕ} {k : ℕ}
      → Run (coming (λ f g. replay_from (comings os) f g) t L next (a ∷ rs)) (upd rest t (rest t))
      (upd buf t (waits_of (own t).groups)) mem k
      → Run (replay_from (comings (t ∷ os)) L next) rest buf mem k
  replays os {mem} {k} h =
      subst (λ l. Run (coming (λ f g. replay_from (comings os) f g) t L next l) rest buf mem k) (sym e)
      (subst₂ (λ f g. Run (coming (λ l n. replay_from (comings os) l n) t L next (a ∷ rs)) f g mem k)
      (upd_still rest t (rest t) refl) (ap (λ b. upd buf t b) (own t).same_waits ∙ upd_still buf t (buf t) refl) h)

  -- the rows after it has come
  owns : {nx : ℕ} (r : List Action) (b : List Waiting) → Own nx r b rs
      → (u : ℕ) → Own (upd next t nx u) (upd rest t r u) (upd buf t b u) (upd L t rs u)
  owns r b o = on₄ t (λ u. Own) next rest buf L (λ u _. own u) o

pub to_run : {os : List ℕ} {L : ℕ → List Action} {mem : ℕ → ℕ} {k : ℕ} → Ord os L mem k
    → (next : ℕ → ℕ) (rest : ℕ → List Action) (buf : ℕ → List Waiting) → ((u : ℕ) → Own (next u) (rest u) (buf u) (L u))
    → Run (replay_from (comings os) L next) rest buf mem k
to_run (o_end e) next rest buf own =
    r_end (λ u. (nothing (subst (λ l. Emits (own u).seen (own u).groups (rest u) l) (e u) (own u).emits_it)).1)
to_run (o_write {os} {L} {mem} {k} {t} {n} {x} {rs} e d) next rest buf own =
    let nx = next t + (suc n - next t) in
    replays t L (Write n x) rs e next rest buf own os
    (come_write rest buf t (replay_from (comings os) (upd L t rs) (upd next t nx)) mem k (next t) nx
    (row_emits t L (Write n x) rs e next rest buf own) refl (own t).names (own t).old
    (λ r b o. to_run d (upd next t nx) (upd rest t r) (upd buf t b) (owns t L (Write n x) rs e next rest buf own r b o)))
to_run (o_read {os} {L} {mem} {k} {t} {n} {x} {s} {rs} e q d) next rest buf own =
    let nx = next t + (suc n - next t) in
    replays t L (Read n x s) rs e next rest buf own os
    (come_read rest buf t (replay_from (comings os) (upd L t rs) (upd next t nx)) mem k (next t) nx
    (row_emits t L (Read n x s) rs e next rest buf own) refl (own t).names (own t).old_seen (own t).old q
    (λ r b o. to_run d (upd next t nx) (upd rest t r) (upd buf t b) (owns t L (Read n x s) rs e next rest buf own r b o)))
to_run (o_sync {os} {L} {mem} {k} {t} {n} {j} {o} {rs} e due q d) next rest buf own =
    let nx = next t + (suc n - next t) in
    replays t L (Sync n j o) rs e next rest buf own os
    (come_sync rest buf t (replay_from (comings os) (upd L t rs) (upd next t nx)) mem k (next t) nx
    (row_emits t L (Sync n j o) rs e next rest buf own) refl (own t).names (own t).old due q
    (λ r b o'. to_run d (upd next t nx) (upd rest t r) (upd buf t b) (owns t L (Sync n j o) rs e next rest buf own r b o')))
