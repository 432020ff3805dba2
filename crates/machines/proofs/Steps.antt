-- The outcome of a step: what a test that it needs makes of it, and what its answer tells.
use Rattle.std.proofs.Common.{◌≡◌, ℕ, suc, Bool, true, false, cond, ◌&&◌, List, ◌∷◌, eqb, MatchResult, Ok, Err, Result, sym, refl, ap, subst}
use Rattle.records.specs.declared.action.Action.{Action}
use Rattle.records.specs.declared.action.Action.TheVariants.{Read, Write, Sync}
use Rattle.records.specs.declared.action.SyncOp.{SyncOp}
use Rattle.machines.specs.declared.faults.Mismatch.{Mismatch}
use Rattle.machines.specs.declared.faults.Mismatch.TheVariants.{NotItsTurn, SawAnother}
use Rattle.machines.specs.Certificate.{OrderState, comes}
use Rattle.machines.specs.Faults.{certificate_number, certificate_fault}
use Rattle.machines.specs.Machine.{need, answer}
use Rattle.machines.specs.Memory.{upd, agrees, in_step, in_order, written, turned}

module _ {S : Type 0} (b : Bool) (n : ℕ) (o : Result S ℕ) where
  pub need_fails : b ≡ false → need b n o ≡ Err n
  need_fails e = ap (λ d. need d n o) e

  pub need-holds : b ≡ true → need b n o ≡ o
  need-holds e = ap (λ d. need d n o) e

pub need_and : {S : Type 0} (b d : Bool) (n : ℕ) (o : Result S ℕ) → need b n (need d n o) ≡ need (b && d) n o
need_and true d n o = refl
need_and false d n o = refl

pub answer-need : {S R : Type 0} (b : Bool) (n : ℕ) (o : Result S ℕ) (q : Result R ℕ) → answer o ≡ answer q → answer (need b n o) ≡ answer (need b n q)
answer-need true n o q e = e
answer-need false n o q e = refl

pub refused_by_lem : {S : Type 0} (o : Result S ℕ) (n : ℕ) → answer o ≡ Err n → o ≡ Err n
refused_by_lem (Ok s) n e = cc
refused_by_lem (Err m) n e = cc

-- ── A synchronization action ──
-- what both machines need of memory before x, each with its own numbers
module _ {S : Type 0} (number : Mismatch → ℕ) (k : ℕ) (o : SyncOp) (memory : ℕ → ℕ) (turns : ℕ) (x : Result S ℕ) where
  abbrev needs : Bool → Bool → Result S ℕ
  needs due agreed = need due (number NotItsTurn) (need agreed (number SawAnother) x)

  abbrev Tells : Result (Unit {0}) Mismatch → Bool → Bool → Type 0
  Tells r due agreed = MatchResult r (λ _. needs due agreed ≡ x) (λ f. needs due agreed ≡ Err (number f))

  tells : (due agreed : Bool) → Tells (cond due (cond agreed (Ok tt) (Err SawAnother)) (Err NotItsTurn)) due agreed
  tells true true = refl
  tells true false = refl
  tells false agreed = refl

  pub comes_in_step : Ok tt ≡ in_step k o memory turns → needs (eqb k (suc turns)) (agrees o memory) ≡ x
  comes_in_step e = subst (λ r. Tells r (eqb k (suc turns)) (agrees o memory)) (sym e) (tells (eqb k (suc turns)) (agrees o memory))

  pub out_of_step : (f : Mismatch) → Err f ≡ in_step k o memory turns → needs (eqb k (suc turns)) (agrees o memory) ≡ Err (number f)
  out_of_step f e = subst (λ r. Tells r (eqb k (suc turns)) (agrees o memory)) (sym e) (tells (eqb k (suc turns)) (agrees o memory))

-- ── The next action of the order ──
read-holds : {S : Type 0} (b : Bool) (n : ℕ) (o : Result S ℕ) → Ok tt ≡ cond b (Ok (tt {0})) (Err SawAnother) → need b n o ≡ o
read-holds true n o e = refl
read-holds false n o e = cc

pub comes_next : (t : ℕ) (s : OrderState) (rs : List Action) (a : Action) → Ok tt ≡ in_order a s.memory s.turns
    → comes t s (a ∷ rs) ≡ Ok (record { begun = true; left = upd s.left t rs; memory = written a s.memory; turns = turned a s.turns })
comes_next t s rs (Read n x w) e = read-holds (eqb (s.memory x) w) 38 _ e
comes_next t s rs (Write n x) e = refl
comes_next t s rs (Sync n k o) e = comes_in_step (λ f. certificate_number (certificate_fault f)) k o s.memory s.turns _ e
