-- Functions changed at one number, counts of items that name one thread, and memory changed by writes.
use Rattle.std.proofs.Common.{◌≡◌, ℕ, suc, ◌+◌, Bool, true, false, cond, eqb, List, [], ◌∷◌, ◌++◌, sym, refl, ◌∙◌, subst, ⊎_elim, arith}
use Rattle.std.proofs.lemmas.Bool.{cond-true, cond-false, cases_eq, eq-eqb, ne_eqb, eqb-true}
use Rattle.records.specs.declared.action.SyncOp.{SyncOp}
use Rattle.records.specs.declared.action.SyncOp.TheVariants.{VolatileRead, VolatileWrite, Lock, Unlock, Spawn, Join, Begin, End}
use Rattle.machines.specs.Memory.{agrees, stored}
use Rattle.machines.specs.Run.{Waiting, waits, sees}
use Rattle.laws.specs.Runs.{volatile_op, SoundOp}

-- ── At one number and elsewhere ──
pub everywhere : (Q : ℕ → Type 0) (t : ℕ) → Q t → ((u : ℕ) → (u ≡ t → ⊥) → Q u) → (u : ℕ) → Q u
everywhere Q t here there u = ⊎_elim (λ (e : u ≡ t). subst Q (sym e) here) (there u) (cases_eq u t)

-- ── Counts of the items that name one thread ──
pub count-append : (b : Bool) (m n k : ℕ) → m ≡ n + k → cond b (suc m) m ≡ cond b (suc n) n + k
count-append true m n k e = omega arith
count-append false m n k e = e

pub count-here : (t m n : ℕ) → m ≡ n + cond (eqb t t) 1 0 → m ≡ suc n
count-here t m n e = let c = cond-true {A = ℕ} (eqb t t) 1 0 (eq-eqb t t refl) in omega arith

pub count-there : (t u m n : ℕ) → (u ≡ t → ⊥) → m ≡ n + cond (eqb t u) 1 0 → m ≡ n
count-there t u m n ne e = let c = cond-false {A = ℕ} (eqb t u) 1 0 (ne_eqb t u (λ q. ne (sym q))) in omega arith

-- ── Memory ──
pub sees-append : (x : ℕ) (ws vs : List Waiting) (m : ℕ) → sees x (ws ++ vs) m ≡ sees x vs (sees x ws m)
sees-append x [] vs m = refl
sees-append x (waits n y ∷ ws) vs m = sees-append x ws vs (cond (eqb x y) n m)

pub stored-sees : (n : ℕ) (o : SyncOp) (memory : ℕ → ℕ) (x : ℕ) → stored n o memory x ≡ sees x (volatile_op n o) (memory x)
stored-sees n (VolatileRead y w) memory x = refl
stored-sees n (VolatileWrite y) memory x = refl
stored-sees n (Lock m) memory x = refl
stored-sees n (Unlock m) memory x = refl
stored-sees n (Spawn t) memory x = refl
stored-sees n (Join t) memory x = refl
stored-sees n Begin memory x = refl
stored-sees n End memory x = refl

pub agrees-sound : (o : SyncOp) (memory m : ℕ → ℕ) → ((x : ℕ) → memory x ≡ m x) → agrees o memory ≡ true → SoundOp m o
agrees-sound (VolatileRead x w) memory m same e = sym (eqb-true (memory x) w e) ∙ same x
agrees-sound (VolatileWrite x) memory m same e = tt
agrees-sound (Lock l) memory m same e = tt
agrees-sound (Unlock l) memory m same e = tt
agrees-sound (Spawn t) memory m same e = tt
agrees-sound (Join t) memory m same e = tt
agrees-sound Begin memory m same e = tt
agrees-sound End memory m same e = tt
