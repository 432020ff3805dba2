-- Complete runs and complete orders as relations, and what the groups of a thread say of its waiting writes.
use Rattle.std.proofs.Common.{◌≡◌, ℕ, suc, Bool, true, false, cond, eqb, ◌⊎◌, List, [], ◌∷◌, ◌++◌, sym, refl, ap, ◌∙◌, inl, inr}
use Rattle.std.proofs.lemmas.Bool.{eqb-true, eqb-false, eq-eqb, ne_eqb, cond-true, cond-false, cond_both}
use Rattle.records.specs.declared.action.Action.{Action}
use Rattle.records.specs.declared.action.Action.TheVariants.{Read, Write, Sync}
use Rattle.records.specs.declared.action.SyncOp.{SyncOp}
use Rattle.machines.specs.declared.items.RunItem.{RunItem}
use Rattle.machines.specs.declared.items.RunItem.TheVariants.{Perform, Drain}
use Rattle.machines.specs.Memory.{upd, agrees, stored}
use Rattle.machines.specs.Run.{Waiting, waits, sees}
use Rattle.agreement.specs.Convert.{Group, group, holds, joins}
use Rattle.agreement.proofs.Updates.{cons≢nil}
use Rattle.agreement.proofs.Buffer.{Free, Join, here, there}
use Rattle.agreement.proofs.Sliding.{join_is}

-- a complete run from what threads have yet to perform, their buffers, memory and the turns passed
pub data Run : List RunItem → (ℕ → List Action) → (ℕ → List Waiting) → (ℕ → ℕ) → ℕ → Type 0 where
  r_end : {rest : ℕ → List Action} {buf : ℕ → List Waiting} {mem : ℕ → ℕ} {k : ℕ}
      → ((t : ℕ) → rest t ≡ []) → Run [] rest buf mem k
  r_write : {is : List RunItem} {rest : ℕ → List Action} {buf : ℕ → List Waiting} {mem : ℕ → ℕ} {k t n x : ℕ} {rs : List Action}
      → rest t ≡ Write n x ∷ rs
      → Run is (upd rest t rs) (upd buf t (buf t ++ (waits n x ∷ []))) mem k → Run (Perform t ∷ is) rest buf mem k
  r_read : {is : List RunItem} {rest : ℕ → List Action} {buf : ℕ → List Waiting} {mem : ℕ → ℕ} {k t n x s : ℕ} {rs : List Action}
      → rest t ≡ Read n x s ∷ rs → sees x (buf t) (mem x) ≡ s
      → Run is (upd rest t rs) buf mem k → Run (Perform t ∷ is) rest buf mem k
  r_sync : {is : List RunItem} {rest : ℕ → List Action} {buf : ℕ → List Waiting} {mem : ℕ
      → ℕ} {k t n j : ℕ} {o : SyncOp} {rs : List Action}
      → rest t ≡ Sync n j o ∷ rs → buf t ≡ [] → j ≡ suc k → agrees o mem ≡ true
      → Run is (upd rest t rs) buf (stored n o mem) (suc k) → Run (Perform t ∷ is) rest buf mem k
  r_drain : {is : List RunItem} {rest : ℕ → List Action} {buf : ℕ → List Waiting} {mem : ℕ → ℕ} {k t n x : ℕ} {b : List Waiting}
      → buf t ≡ waits n x ∷ b → Run is rest (upd buf t b) (upd mem x n) k → Run (Drain t ∷ is) rest buf mem k

-- a complete order of lists: the threads whose next action comes
pub data Ord : List ℕ → (ℕ → List Action) → (ℕ → ℕ) → ℕ → Type 0 where
  o_end : {L : ℕ → List Action} {mem : ℕ → ℕ} {k : ℕ} → ((t : ℕ) → L t ≡ []) → Ord [] L mem k
  o_write : {os : List ℕ} {L : ℕ → List Action} {mem : ℕ → ℕ} {k t n x : ℕ} {rs : List Action}
      → L t ≡ Write n x ∷ rs → Ord os (upd L t rs) (upd mem x n) k → Ord (t ∷ os) L mem k
  o_read : {os : List ℕ} {L : ℕ → List Action} {mem : ℕ → ℕ} {k t n x s : ℕ} {rs : List Action}
      → L t ≡ Read n x s ∷ rs → mem x ≡ s → Ord os (upd L t rs) mem k → Ord (t ∷ os) L mem k
  o_sync : {os : List ℕ} {L : ℕ → List Action} {mem : ℕ → ℕ} {k t n j : ℕ} {o : SyncOp} {rs : List Action}
      → L t ≡ Sync n j o ∷ rs → j ≡ suc k → agrees o mem ≡ true
      → Ord os (upd L t rs) (stored n o mem) (suc k) → Ord (t ∷ os) L mem k

-- ── The waiting writes of groups ──
abbrev pub waits_of : List Group → List Waiting
waits_of [] = []
waits_of (group w y ns ∷ gs) = waits w y ∷ waits_of gs

pub waits_of-snoc : (gs : List Group) (w y : ℕ) (ns : List ℕ)
    → waits_of (gs ++ (group w y ns ∷ [])) ≡ waits_of gs ++ (waits w y ∷ [])
waits_of-snoc [] w y ns = refl
waits_of-snoc (group v z ms ∷ gs) w y ns = ap {B = List Waiting} (λ l. waits v z ∷ l) (waits_of-snoc gs w y ns)

pub waits_of-joins : (n x : ℕ) (gs : List Group) → waits_of (joins n x gs) ≡ waits_of gs
waits_of-joins n x [] = refl
waits_of-joins n x (group w y ns ∷ gs) =
    cond_both (holds x gs) (group w y ns ∷ joins n x gs) (group w y (ns ++ (n ∷ [])) ∷ gs)
    (λ g. waits_of g ≡ waits w y ∷ waits_of gs)
    (λ _. ap {B = List Waiting} (λ l. waits w y ∷ l) (waits_of-joins n x gs)) (λ _. refl)

pub waits_of-join : {n x s : ℕ} {gs hs : List Group} → Join n x s gs hs → waits_of hs ≡ waits_of gs
waits_of-join {n} {x} {gs = gs} j = ap waits_of (join_is j) ∙ waits_of-joins n x gs

pub waits_of-nil : (gs : List Group) → waits_of gs ≡ [] → gs ≡ []
waits_of-nil [] e = refl
waits_of-nil (group w y ns ∷ gs) e = absurd (cons≢nil (waits w y) (waits_of gs) e)

pub waits_of-cons : (gs : List Group) {n x : ℕ} {b : List Waiting} → waits_of gs ≡ waits n x ∷ b
    → (ns : List ℕ) × (hs : List Group) × (gs ≡ group n x ns ∷ hs) × (waits_of hs ≡ b)
waits_of-cons [] {n} {x} {b} e = absurd (cons≢nil (waits n x) b (sym e))
waits_of-cons (group w y ns ∷ gs) e = (ns, gs, (cc), (cc))

-- ── What a read sees ──
pub sees-free : (x : ℕ) (gs : List Group) (m : ℕ) → Free x gs → sees x (waits_of gs) m ≡ m
sees-free x [] m f = refl
sees-free x (group w y ns ∷ gs) m f =
    sees-free x gs (cond (eqb x y) w m) f.1 ∙ cond-false (eqb x y) w m (ne_eqb x y f.0)

pub sees-join : {n x s : ℕ} {gs hs : List Group} (m : ℕ) → Join n x s gs hs → sees x (waits_of gs) m ≡ s
sees-join {x = x} m (here {w} {y} {ns} {gs} e f g) =
    sees-free x gs (cond (eqb x y) w m) g ∙ cond-true (eqb x y) w m (eq-eqb x y f) ∙ sym e
sees-join {x = x} m (there {g = group w y ns} j) = sees-join (cond (eqb x y) w m) j

-- memory, or the newest waiting write, which it joins
abbrev pub Sight : ℕ → ℕ → ℕ → List Group → ℕ → Type 0
Sight n x s gs m = ((m ≡ s) × Free x gs) ⊎ ((hs : List Group) × Join n x s gs hs)

pub sight : (n x s : ℕ) (gs : List Group) (m : ℕ) → sees x (waits_of gs) m ≡ s → Sight n x s gs m
sight n x s [] m e = inl (e, tt)
sight n x s (group w y ns ∷ gs) m e = next (sight n x s gs (cond (eqb x y) w m) e)
  where
    split : (b : Bool) → eqb x y ≡ b → cond b w m ≡ s → Free x gs → Sight n x s (group w y ns ∷ gs) m
    split true h e' f = inr (group w y (ns ++ (n ∷ [])) ∷ gs, here (sym e') (eqb-true x y h) f)
    split false h e' f = inl (e', (eqb-false x y h, f))

    next : Sight n x s gs (cond (eqb x y) w m) → Sight n x s (group w y ns ∷ gs) m
    next (inl h) = split (eqb x y) refl h.0 h.1
    next (inr h) = inr (group w y ns ∷ h.0, there h.1)
