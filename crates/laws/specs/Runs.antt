-- What holds of every run, in the words of the subject: nothing here follows the machine's steps. An item is told by what
-- came before it: the action that A of thread t performs is the one that has as many actions before it in program order as
-- t has performed, and the write that D of thread t drains the one that has as many plain writes before it as t has drained.
use Rattle.std.specs.Prelude.{◌≡◌, ℕ, suc, cond, List, [], ◌∷◌, ◌++◌, length, take, drop, Some, None, Ok, Option, ◌==◌}
use Rattle.std.specs.List.{slice_get}
use Rattle.records.specs.declared.Item.{Item}
use Rattle.records.specs.declared.action.Action.{Action}
use Rattle.records.specs.declared.action.Action.TheVariants.{Read, Write, Sync}
use Rattle.records.specs.declared.action.SyncOp.{SyncOp}
use Rattle.records.specs.declared.action.SyncOp.TheVariants.{VolatileRead, VolatileWrite, Lock, Unlock, Spawn, Join, Begin, End}
use Rattle.records.specs.Names.{Case, thread, default}
use Rattle.machines.specs.declared.items.RunItem.{RunItem}
use Rattle.machines.specs.declared.items.RunItem.TheVariants.{Perform, Drain}
use Rattle.machines.specs.Items.{run_item, one, said}
use Rattle.machines.specs.Machine.{reached}
use Rattle.machines.specs.Run.{Waiting, waits, RunState, sees, run_machine}
use Rattle.laws.specs.Brought.{brought}

-- ── Counts of items, and writes of lists ──
-- how often thread t performs, and drains
abbrev pub performed : ℕ → List RunItem → ℕ
performed t [] = 0
performed t (Perform u ∷ is) = cond (u == t) (suc (performed t is)) (performed t is)
performed t (Drain u ∷ is) = performed t is

abbrev pub drained : ℕ → List RunItem → ℕ
drained t [] = 0
drained t (Perform u ∷ is) = drained t is
drained t (Drain u ∷ is) = cond (u == t) (suc (drained t is)) (drained t is)

-- the plain writes of a list
abbrev pub plain_writes : List Action → List Waiting
plain_writes [] = []
plain_writes (Read n x w ∷ l) = plain_writes l
plain_writes (Write n x ∷ l) = waits n x ∷ plain_writes l
plain_writes (Sync n k o ∷ l) = plain_writes l

-- the write that a synchronization action puts into memory at once
abbrev pub volatile_op : ℕ → SyncOp → List Waiting
volatile_op n (VolatileRead x w) = []
volatile_op n (VolatileWrite x) = waits n x ∷ []
volatile_op n (Lock m) = []
volatile_op n (Unlock m) = []
volatile_op n (Spawn t) = []
volatile_op n (Join t) = []
volatile_op n Begin = []
volatile_op n End = []

-- the same of the action at a place of a list, if there is one
abbrev pub volatile_write : Option Action → List Waiting
volatile_write None = []
volatile_write (Some (Read n x w)) = []
volatile_write (Some (Write n x)) = []
volatile_write (Some (Sync n k o)) = volatile_op n o

-- the action, if it is a synchronization action
abbrev pub sync_in : Option Action → List Action
sync_in None = []
sync_in (Some (Read n x w)) = []
sync_in (Some (Write n x)) = []
sync_in (Some (Sync n k o)) = Sync n k o ∷ []

-- ── Moments of a run ──
module _ (c : Case) where
  -- the writes of thread t that were performed and not yet drained, in program order
  abbrev pub waiting : List RunItem → ℕ → List Waiting
  waiting is t = drop (drained t is) (plain_writes (take (performed t is) (thread c t)))

  -- what reaches memory by an item that comes after these: the write that it drains, or the volatile write that it performs
  abbrev pub lands : List RunItem → RunItem → List Waiting
  lands is (Perform t) = volatile_write (slice_get (thread c t) (performed t is))
  lands is (Drain t) = one (slice_get (plain_writes (thread c t)) (drained t is))

  -- the writes that reached memory, in their order
  abbrev pub landed : List RunItem → List Waiting
  landed is = brought lands is

  -- how many synchronization actions were performed
  abbrev pub synchronized : List RunItem → RunItem → List Action
  synchronized is (Perform t) = sync_in (slice_get (thread c t) (performed t is))
  synchronized is (Drain t) = []

  abbrev pub turns_passed : List RunItem → ℕ
  turns_passed is = length (brought synchronized is)

  -- memory at x: the last write to x that reached it, or the default
  abbrev pub memory_at : List RunItem → ℕ → ℕ
  memory_at is x = sees x (landed is) (default x)

-- ── The laws ──
-- the state after these items
pub record After (c : Case) (is : List RunItem) (s : RunState) : Type 0 where
  pub rest : (t : ℕ) → s.rest t ≡ drop (performed t is) (thread c t)
  pub buffer : (t : ℕ) → s.buffer t ≡ waiting c is t
  pub memory : (x : ℕ) → s.memory x ≡ memory_at c is x
  pub turns : s.turns ≡ turns_passed c is

-- what a synchronization action has to be where memory is so: a volatile read saw memory
abbrev pub SoundOp : (ℕ → ℕ) → SyncOp → Type 0
SoundOp memory (VolatileRead x w) = w ≡ memory x
SoundOp memory (VolatileWrite x) = Unit {0}
SoundOp memory (Lock m) = Unit {0}
SoundOp memory (Unlock m) = Unit {0}
SoundOp memory (Spawn u) = Unit {0}
SoundOp memory (Join u) = Unit {0}
SoundOp memory Begin = Unit {0}
SoundOp memory End = Unit {0}

-- what an action that thread t performs after these items has to be: a plain read saw the newest of the thread's waiting
-- writes to its location, or memory if there is none; a synchronization action found no write of its thread waiting, and has
-- the next turn
abbrev pub Sound : Case → List RunItem → ℕ → Action → Type 0
Sound c is t (Read n x w) = w ≡ sees x (waiting c is t) (memory_at c is x)
Sound c is t (Write n x) = Unit {0}
Sound c is t (Sync n k o) = (waiting c is t ≡ []) × (k ≡ suc (turns_passed c is)) × SoundOp (memory_at c is) o

pub record RunLaws : Type 0 where
  -- wherever the items that were taken led
  pub after : (c : Case) (is : List Item) (s : RunState) → reached (run_machine c) is ≡ Ok s → After c (said run_item is) s
  -- the item A that was taken last performed the thread's next action, and that was sound
  pub sound : (c : Case) (is : List Item) (i : Item) (s : RunState) (t : ℕ)
      → reached (run_machine c) (is ++ (i ∷ [])) ≡ Ok s → run_item i ≡ Some (Perform t)
      → (a : Action) × (slice_get (thread c t) (performed t (said run_item is)) ≡ Some a) × Sound c (said run_item is) t a
