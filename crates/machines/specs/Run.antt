-- The run: a store-buffer machine. A thread performs its actions in program order; a plain write waits in its thread's
-- buffer until it drains to memory, in the order of program order.
use Rattle.std.specs.Prelude.{ℕ, zero, suc, Bool, true, false, cond, ◌&&◌, List, [], ◌∷◌, ◌++◌, Some, None, Ok, Err, Option, Result, ◌==◌}
use Rattle.records.specs.declared.Item.{Item}
use Rattle.records.specs.declared.action.Action.{Action}
use Rattle.records.specs.declared.action.Action.TheVariants.{Read, Write, Sync}
use Rattle.records.specs.Names.{Case, thread, default}
use Rattle.machines.specs.declared.items.RunItem.{RunItem}
use Rattle.machines.specs.declared.items.RunItem.TheVariants.{Perform, Drain}
use Rattle.machines.specs.Items.{run_item}
use Rattle.machines.specs.Machine.{Machine, need}
use Rattle.machines.specs.Memory.{upd, agrees, stored}

-- a waiting write: its name and its location
pub data Waiting : Type 0 where
  waits : ℕ → ℕ → Waiting

-- for each thread what it has yet to perform and its waiting writes, oldest first; memory; how many turns have passed
pub record RunState : Type 0 where
  pub rest : ℕ → List Action
  pub buffer : ℕ → List Waiting
  pub memory : ℕ → ℕ
  pub turns : ℕ

-- what a read of x sees: the newest of these waiting writes to x, or m if there is none
abbrev pub sees : ℕ → List Waiting → ℕ → ℕ
sees x [] m = m
sees x (waits w y ∷ b) m = sees x b (cond (x == y) w m)

abbrev pub isNil {ℓ} : {A : Type ℓ} → List A → Bool
isNil [] = true
isNil (a ∷ l) = false

-- thread t performs the first of what it has yet to perform
abbrev pub perform : ℕ → RunState → List Action → Result RunState ℕ
perform t s [] = Err 21
perform t s (Read n x w ∷ rs) =
    need (sees x (s.buffer t) (s.memory x) == w) 25
    (Ok (record { rest = upd s.rest t rs; buffer = s.buffer; memory = s.memory; turns = s.turns }))
perform t s (Write n x ∷ rs) =
    Ok (record { rest = upd s.rest t rs; buffer = upd s.buffer t (s.buffer t ++ (waits n x ∷ [])); memory = s.memory; turns = s.turns })
perform t s (Sync n k o ∷ rs) =
    need (isNil (s.buffer t)) 23 (need (k == suc s.turns) 24 (need (agrees o s.memory) 25
    (Ok (record { rest = upd s.rest t rs; buffer = s.buffer; memory = stored n o s.memory; turns = suc s.turns }))))

-- thread t drains the oldest of its waiting writes
abbrev pub drain : ℕ → RunState → List Waiting → Result RunState ℕ
drain t s [] = Err 22
drain t s (waits n x ∷ b) = Ok (record { rest = s.rest; buffer = upd s.buffer t b; memory = upd s.memory x n; turns = s.turns })

abbrev pub runs : RunState → RunItem → Result RunState ℕ
runs s (Perform t) = perform t s (s.rest t)
runs s (Drain t) = drain t s (s.buffer t)

abbrev pub run_step_of : RunState → Option RunItem → Result RunState ℕ
run_step_of s None = Err 20
run_step_of s (Some i) = runs s i

abbrev pub run_step : RunState → Item → Result RunState ℕ
run_step s i = run_step_of s (run_item i)

-- nothing performed, nothing waiting, every location at its default
abbrev pub fresh_run : Case → RunState
fresh_run c = record { rest = thread c; buffer = λ t. []; memory = default; turns = 0 }

-- every thread below n has nothing left
abbrev pub spent : ℕ → (ℕ → List Action) → Bool
spent zero f = true
spent (suc n) f = isNil (f n) && spent n f

-- complete when every action is performed; writes may still wait
abbrev pub run_machine : Case → Machine RunState
run_machine c = record { fresh = fresh_run c; step = run_step; complete = λ s. spent 8 s.rest }
