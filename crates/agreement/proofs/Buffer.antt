-- One thread alone, with the other threads out of sight: the lists that its store buffer can emit.
-- The buffer is a row of groups, oldest first: a waiting write and the reads that saw it there.
use Rattle.std.proofs.Common.{◌≡◌, ℕ, ◌≢◌, List, [], ◌∷◌, ◌++◌, refl, ap, ◌∙◌}
use Rattle.records.specs.declared.action.Action.{Action}
use Rattle.records.specs.declared.action.Action.TheVariants.{Read, Write, Sync}
use Rattle.records.specs.declared.action.SyncOp.{SyncOp}
use Rattle.agreement.specs.Convert.{Group, group}
use Rattle.agreement.proofs.Updates.{cons≢nil}

-- no waiting write to x
abbrev pub Free : ℕ → List Group → Type 0
Free x [] = Unit {0}
Free x (group w y ns ∷ gs) = (x ≢ y) × Free x gs

-- the read n of x, which saw s, joins the newest waiting write to x, which is s
pub data Join (n x s : ℕ) : List Group → List Group → Type 0 where
  here : {w y : ℕ} {ns : List ℕ} {gs : List Group} → s ≡ w → x ≡ y → Free x gs
      → Join n x s (group w y ns ∷ gs) (group w y (ns ++ (n ∷ [])) ∷ gs)
  there : {g : Group} {gs hs : List Group} → Join n x s gs hs → Join n x s (g ∷ gs) (g ∷ hs)

-- the reads of a group, as actions
abbrev pub reads : ℕ → ℕ → List ℕ → List Action
reads w y [] = []
reads w y (n ∷ ns) = Read n y w ∷ reads w y ns

-- Emits R gs rest L: with the reads R just released, the groups gs waiting and `rest` to perform, a thread can emit L.
pub data Emits : List Action → List Group → List Action → List Action → Type 0 where
  done : Emits [] [] [] []
  -- a released read comes
  emit : {n x s : ℕ} {R : List Action} {gs : List Group} {rs L : List Action}
      → Emits R gs rs L → Emits (Read n x s ∷ R) gs rs (Read n x s ∷ L)
  -- a write opens a new group; a read joins a group, or comes now; a capital needs an empty buffer, and comes now
  write : {w y : ℕ} {gs : List Group} {rs L : List Action}
      → Emits [] (gs ++ (group w y [] ∷ [])) rs L → Emits [] gs (Write w y ∷ rs) L
  join : {n x s : ℕ} {gs hs : List Group} {rs L : List Action}
      → Join n x s gs hs → Emits [] hs rs L → Emits [] gs (Read n x s ∷ rs) L
  pass : {n x s : ℕ} {gs : List Group} {rs L : List Action}
      → Free x gs → Emits [] gs rs L → Emits [] gs (Read n x s ∷ rs) (Read n x s ∷ L)
  turn : {n k : ℕ} {o : SyncOp} {rs L : List Action}
      → Emits [] [] rs L → Emits [] [] (Sync n k o ∷ rs) (Sync n k o ∷ L)
  -- the oldest write is drained and comes, and its reads behind it
  release : {w y : ℕ} {ns : List ℕ} {gs : List Group} {rs L : List Action}
      → Emits (reads w y ns) gs rs L → Emits [] (group w y ns ∷ gs) rs (Write w y ∷ L)

pub reads-snoc : (w y : ℕ) (ns : List ℕ) (n : ℕ) (K : List Action)
    → reads w y (ns ++ (n ∷ [])) ++ K ≡ reads w y ns ++ (Read n y w ∷ K)
reads-snoc w y [] n K = refl
reads-snoc w y (m ∷ ns) n K = ap {B = List Action} (λ z. Read m y w ∷ z) (reads-snoc w y ns n K)

-- released reads come first
module _ (w y : ℕ) where
  pub emits : (ns : List ℕ) {gs : List Group} {rs L : List Action}
      → Emits [] gs rs L → Emits (reads w y ns) gs rs (reads w y ns ++ L)
  emits [] d = d
  emits (n ∷ ns) d = emit (emits ns d)

  pub unemit : (ns : List ℕ) {gs : List Group} {rs L : List Action}
      → Emits (reads w y ns) gs rs L → (K : List Action) × (L ≡ reads w y ns ++ K) × Emits [] gs rs K
  unemit [] {gs} {rs} {L} d = (L, refl, d)
  unemit (n ∷ ns) (emit d) = let h = unemit ns d in (h.0, ap {B = List Action} (λ z. Read n y w ∷ z) h.1, h.2)

-- no move: each action is performed and comes at once
pub stay : (rs : List Action) → Emits [] [] rs rs
stay [] = done
stay (Read n x s ∷ rs) = pass tt (stay rs)
stay (Write w y ∷ rs) = write (release (stay rs))
stay (Sync n k o ∷ rs) = turn (stay rs)

-- if a write comes next, it is the oldest that waits, and it can be drained now
pub eager : {w y v z : ℕ} {ns : List ℕ} {gs : List Group} {rs L : List Action}
    → Emits [] (group w y ns ∷ gs) rs (Write v z ∷ L)
    → (K : List Action) × (w ≡ v) × (y ≡ z) × (L ≡ reads w y ns ++ K) × Emits [] gs rs K
eager (write d) = let h = eager d in (h.0, h.1, h.2, h.3, write h.4)
eager {w} {y} {ns = ns} (join {n} {x} {s} (here e f g) d) =
    let h = eager d in
    let same : Read n y w ≡ Read n x s = (cc) in (
      Read n x s ∷ h.0,
      h.1,
      h.2,
      h.3 ∙ reads-snoc w y ns n h.0 ∙ ap {B = List Action} (λ z. reads w y ns ++ (z ∷ h.0)) same,
      pass g h.4,
    )
eager (join (there j) d) = let h = eager d in (h.0, h.1, h.2, h.3, join j h.4)
eager {ns = ns} (release {w} {y} d) = let h = unemit w y ns d in (h.0, refl, refl, h.1, h.2)

-- ── A thread that emits nothing has nothing left ──
snoc≢nil : (gs : List Group) (g : Group) → (gs ++ (g ∷ [])) ≢ []
snoc≢nil [] g e = cons≢nil g [] e
snoc≢nil (h ∷ gs) g e = cons≢nil h (gs ++ (g ∷ [])) e

join≢nil : {n x s : ℕ} {gs hs : List Group} → Join n x s gs hs → hs ≢ []
join≢nil (here {gs = gs} e f g) h = cons≢nil _ gs h
join≢nil (there {g = g} {hs = hs} j) h = cons≢nil g hs h

pub nothing : {R : List Action} {gs : List Group} {r : List Action} → Emits R gs r [] → (gs ≡ []) × (r ≡ [])
nothing done = (refl, refl)
nothing (write {w} {y} {gs} d) = absurd (snoc≢nil gs (group w y []) (nothing d).0)
nothing (join j d) = absurd (join≢nil j (nothing d).0)

pub only-nil : {L : List Action} → Emits [] [] [] L → [] ≡ L
only-nil done = refl
