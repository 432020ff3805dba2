-- Memory holds the name of one write for each location. What synchronization actions ask of it and do to it.
use Rattle.std.specs.Prelude.{ℕ, suc, Bool, true, cond, List, get_or, Ok, Err, Result, ◌==◌}
use Rattle.records.specs.declared.action.Action.{Action}
use Rattle.records.specs.declared.action.Action.TheVariants.{Read, Write, Sync}
use Rattle.records.specs.declared.action.SyncOp.{SyncOp}
use Rattle.records.specs.declared.action.SyncOp.TheVariants.{VolatileRead, VolatileWrite, Lock, Unlock, Spawn, Join, Begin, End}
use Rattle.records.specs.Names.{default}
use Rattle.machines.specs.declared.faults.Mismatch.{Mismatch}
use Rattle.machines.specs.declared.faults.Mismatch.TheVariants.{NotItsTurn, SawAnother}

-- what a checker's table of memory stands for
abbrev pub held : List ℕ → ℕ → ℕ
held table x = get_or table x (default x)

-- a function changed at one argument
abbrev pub upd {ℓ} : {A : Type ℓ} → (ℕ → A) → ℕ → A → ℕ → A
upd f t v u = cond (u == t) v (f u)

-- a volatile read saw what memory holds; nothing else looks
abbrev pub agrees : SyncOp → (ℕ → ℕ) → Bool
agrees (VolatileRead x s) memory = memory x == s
agrees (VolatileWrite x) memory = true
agrees (Lock m) memory = true
agrees (Unlock m) memory = true
agrees (Spawn t) memory = true
agrees (Join t) memory = true
agrees Begin memory = true
agrees End memory = true

-- a volatile write under the name n goes to memory at once; nothing else changes it
abbrev pub stored : ℕ → SyncOp → (ℕ → ℕ) → ℕ → ℕ
stored n (VolatileRead x s) memory = memory
stored n (VolatileWrite x) memory = upd memory x n
stored n (Lock m) memory = memory
stored n (Unlock m) memory = memory
stored n (Spawn t) memory = memory
stored n (Join t) memory = memory
stored n Begin memory = memory
stored n End memory = memory

-- whether a synchronization action of turn k comes: so many turns have passed before it, and it agrees with memory
abbrev pub in_step : ℕ → SyncOp → (ℕ → ℕ) → ℕ → Result (Unit {0}) Mismatch
in_step k o memory turns = cond (k == suc turns) (cond (agrees o memory) (Ok tt) (Err SawAnother)) (Err NotItsTurn)

-- ── Any action, with nothing between it and memory ──
-- whether it comes: a read saw what memory holds, and a synchronization action is in step
abbrev pub in_order : Action → (ℕ → ℕ) → ℕ → Result (Unit {0}) Mismatch
in_order (Read n x w) memory turns = cond (memory x == w) (Ok tt) (Err SawAnother)
in_order (Write n x) memory turns = Ok tt
in_order (Sync n k o) memory turns = in_step k o memory turns

-- what memory holds after it, and how many turns have passed
abbrev pub written : Action → (ℕ → ℕ) → ℕ → ℕ
written (Read n x w) memory = memory
written (Write n x) memory = upd memory x n
written (Sync n k o) memory = stored n o memory

abbrev pub turned : Action → ℕ → ℕ
turned (Read n x w) turns = turns
turned (Write n x) turns = turns
turned (Sync n k o) turns = suc turns
