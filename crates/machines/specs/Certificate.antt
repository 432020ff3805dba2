-- The certificate: moves that reorder the threads' lists, and then one order of all actions, in which each read sees the
-- last earlier write to its location.
use Rattle.std.specs.Prelude.{◌≡◌, ℕ, zero, suc, ◌+◌, Bool, true, false, not, List, [], ◌∷◌, length, Some, None, Ok, Err, Option, Result, ◌==◌, nat_lt}
use Rattle.records.specs.declared.Item.{Item}
use Rattle.records.specs.declared.action.Action.{Action}
use Rattle.records.specs.declared.action.Action.TheVariants.{Read, Write, Sync}
use Rattle.records.specs.Names.{Case, thread, default}
use Rattle.machines.specs.declared.items.CertificateItem.{CertificateItem}
use Rattle.machines.specs.declared.items.CertificateItem.TheVariants.{Move, Come}
use Rattle.machines.specs.Items.{certificate_item}
use Rattle.machines.specs.Machine.{Machine, need, completes}
use Rattle.machines.specs.Memory.{upd, agrees, stored}
use Rattle.machines.specs.Run.{spent}

-- whether the order has begun; what is left of each thread's moved list; the last write to each location so far; how many
-- turns have passed
pub record OrderState : Type 0 where
  pub begun : Bool
  pub left : ℕ → List Action
  pub memory : ℕ → ℕ
  pub turns : ℕ

-- ── Moves ──
-- the read that is taken out, and the list without it
pub data Taken : Type 0 where
  taken : Action → List Action → Taken

abbrev pub behind : Action → Result Taken ℕ → Result Taken ℕ
behind a (Ok (taken b K)) = Ok (taken b (a ∷ K))
behind a (Err n) = Err n

-- c reads of y that saw the write w come first, and then the read of another location that is taken out
abbrev pub carries : ℕ → ℕ → ℕ → List Action → Result Taken ℕ
carries w y c [] = Err 32
carries w y zero (Write n x ∷ K) = Err 35
carries w y (suc c) (Write n x ∷ K) = Err 34
carries w y zero (Sync n k o ∷ K) = Err 35
carries w y (suc c) (Sync n k o ∷ K) = Err 34
carries w y zero (Read n z s ∷ K) = need (not (z == y)) 35 (Ok (taken (Read n z s) K))
carries w y (suc c) (Read n z s ∷ K) = need (s == w) 34 (need (z == y) 34 (behind (Read n z s) (carries w y c K)))

-- the read that was taken out comes before the write
abbrev pub passed : ℕ → ℕ → Result Taken ℕ → Result (List Action) ℕ
passed w y (Ok (taken b K)) = Ok (b ∷ Write w y ∷ K)
passed w y (Err n) = Err n

abbrev pub behind_action : Action → Result (List Action) ℕ → Result (List Action) ℕ
behind_action a (Ok K) = Ok (a ∷ K)
behind_action a (Err n) = Err n

abbrev pub move_at : ℕ → ℕ → List Action → Result (List Action) ℕ
move_at p c [] = Err 32
move_at zero c (Write w y ∷ K) = passed w y (carries w y c K)
move_at zero c (Read n x s ∷ K) = Err 33
move_at zero c (Sync n k o ∷ K) = Err 33
move_at (suc p) c (a ∷ K) = behind_action a (move_at p c K)

-- the move at place p with count c, if the list is so long
abbrev pub move_in : ℕ → ℕ → List Action → Result (List Action) ℕ
move_in p c K = need (nat_lt (p + c + 1) (length K)) 32 (move_at p c K)

abbrev pub relist : ℕ → OrderState → Result (List Action) ℕ → Result OrderState ℕ
relist t s (Err n) = Err n
relist t s (Ok K) = Ok (record { begun = false; left = upd s.left t K; memory = s.memory; turns = s.turns })

-- ── The order ──
-- the first of what is left of thread t comes next
abbrev pub comes : ℕ → OrderState → List Action → Result OrderState ℕ
comes t s [] = Err 36
comes t s (Read n x w ∷ rs) =
    need (s.memory x == w) 38 (Ok (record { begun = true; left = upd s.left t rs; memory = s.memory; turns = s.turns }))
comes t s (Write n x ∷ rs) = Ok (record { begun = true; left = upd s.left t rs; memory = upd s.memory x n; turns = s.turns })
comes t s (Sync n k o ∷ rs) =
    need (k == suc s.turns) 37 (need (agrees o s.memory) 38
    (Ok (record { begun = true; left = upd s.left t rs; memory = stored n o s.memory; turns = suc s.turns })))

-- ── Both ──
abbrev pub certifies : OrderState → CertificateItem → Result OrderState ℕ
certifies s (Move t p c) = need (not s.begun) 31 (relist t s (move_in p c (s.left t)))
certifies s (Come t) = comes t s (s.left t)

abbrev pub certificate_step_of : OrderState → Option CertificateItem → Result OrderState ℕ
certificate_step_of s None = Err 20
certificate_step_of s (Some i) = certifies s i

abbrev pub certificate_step : OrderState → Item → Result OrderState ℕ
certificate_step s i = certificate_step_of s (certificate_item i)

-- program order, nothing come yet, every location at its default
abbrev pub fresh_order : Case → OrderState
fresh_order c = record { begun = false; left = thread c; memory = default; turns = 0 }

-- complete when every action has come
abbrev pub certificate_machine : Case → Machine OrderState
certificate_machine c = record { fresh = fresh_order c; step = certificate_step; complete = λ s. spent 8 s.left }

-- ── The model ──
-- the model allows a case in form exactly if some certificate is complete for it
abbrev pub Allowed : Case → Type 0
Allowed c = ∥ ((js : List Item) × (completes (certificate_machine c) js ≡ true)) ∥₁
