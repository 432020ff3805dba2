-- What holds of every certificate, in the words of the subject: the moved lists come from program order by the moves that
-- were taken, and in the one order each read sees the last earlier write to its location.
use Rattle.std.specs.Prelude.{◌≡◌, ℕ, suc, cond, List, [], ◌∷◌, ◌++◌, length, take, drop, Some, Ok, ◌==◌, ◌≢◌}
use Rattle.std.specs.List.{slice_get}
use Rattle.records.specs.declared.Item.{Item}
use Rattle.records.specs.declared.action.Action.{Action}
use Rattle.records.specs.declared.action.Action.TheVariants.{Read, Write, Sync}
use Rattle.records.specs.Names.{Case, thread, default}
use Rattle.machines.specs.declared.items.CertificateItem.{CertificateItem}
use Rattle.machines.specs.declared.items.CertificateItem.TheVariants.{Move, Come}
use Rattle.machines.specs.Items.{certificate_item, one, said}
use Rattle.machines.specs.Machine.{reached}
use Rattle.machines.specs.Run.{Waiting, waits, sees}
use Rattle.machines.specs.Certificate.{OrderState, certificate_machine}
use Rattle.laws.specs.Brought.{brought}
use Rattle.laws.specs.Runs.{volatile_op, SoundOp}

-- ── Moves ──
-- reads of y that each saw the write w
abbrev pub Carried : ℕ → ℕ → List Action → Type 0
Carried w y [] = Unit {0}
Carried w y (Read n x s ∷ l) = (x ≡ y) × (s ≡ w) × Carried w y l
Carried w y (Write n x ∷ l) = ⊥
Carried w y (Sync n k o ∷ l) = ⊥

-- a plain read of another location than y
abbrev pub Passes : ℕ → Action → Type 0
Passes y (Read n x s) = x ≡ y → ⊥
Passes y (Write n x) = ⊥
Passes y (Sync n k o) = ⊥

-- one move, at a place and with a count: the read r passes the write w and the reads of it that stand between
pub data Moved : ℕ → ℕ → List Action → List Action → Type 0 where
  passing : (front : List Action) (w y : ℕ) (carried : List Action) (r : Action) (back : List Action)
      → Carried w y carried → Passes y r
      → Moved (length front) (length carried)
      (front ++ (Write w y ∷ (carried ++ (r ∷ back))))
      (front ++ (r ∷ Write w y ∷ (carried ++ back)))

-- the moves of thread t among these items, one after the other, lead from one list to the other
pub data Reordered (t : ℕ) : List CertificateItem → List Action → List Action → Type 0 where
  still : {L : List Action} → Reordered t [] L L
  moves : {p n : ℕ} {js : List CertificateItem} {K L M : List Action}
      → Moved p n K L → Reordered t js L M → Reordered t (Move t p n ∷ js) K M
  elsewhere : {u p n : ℕ} {js : List CertificateItem} {K L : List Action}
      → (u ≢ t) → Reordered t js K L → Reordered t (Move u p n ∷ js) K L
  ordered : {u : ℕ} {js : List CertificateItem} {K L : List Action} → Reordered t js K L → Reordered t (Come u ∷ js) K L

-- ── The order ──
-- how many actions of thread t have come
abbrev pub come : ℕ → List CertificateItem → ℕ
come t [] = 0
come t (Move u p n ∷ js) = come t js
come t (Come u ∷ js) = cond (u == t) (suc (come t js)) (come t js)

-- what comes by an item that comes after these: by O of thread t the action of its moved list that has as many before it as
-- have come, and by a move none
abbrev pub comes_by : (ℕ → List Action) → List CertificateItem → CertificateItem → List Action
comes_by lists js (Move t p n) = []
comes_by lists js (Come t) = one (slice_get (lists t) (come t js))

-- the actions in the order in which they come
abbrev pub order : (ℕ → List Action) → List CertificateItem → List Action
order lists js = brought (comes_by lists) js

-- the writes of a list, plain and volatile
abbrev pub writes_in : List Action → List Waiting
writes_in [] = []
writes_in (Read n x w ∷ l) = writes_in l
writes_in (Write n x ∷ l) = waits n x ∷ writes_in l
writes_in (Sync n k o ∷ l) = volatile_op n o ++ writes_in l

-- how many synchronization actions a list has
abbrev pub turns_in : List Action → ℕ
turns_in [] = 0
turns_in (Read n x w ∷ l) = turns_in l
turns_in (Write n x ∷ l) = turns_in l
turns_in (Sync n k o ∷ l) = suc (turns_in l)

-- the last of the writes to x in a list, or the default
abbrev pub last_in : List Action → ℕ → ℕ
last_in before x = sees x (writes_in before) (default x)

-- what an action that comes after these has to be: a read, plain or volatile, saw the last earlier write to its location, or
-- the default; a synchronization action has the next turn
abbrev pub Fits : List Action → Action → Type 0
Fits before (Read n x w) = w ≡ last_in before x
Fits before (Write n x) = Unit {0}
Fits before (Sync n k o) = (k ≡ suc (turns_in before)) × SoundOp (last_in before) o

-- ── The law ──
pub record Ordered (c : Case) (js : List CertificateItem) (s : OrderState) : Type 0 where
  -- the moved lists, and what is left of them
  pub lists : ℕ → List Action
  pub reordered : (t : ℕ) → Reordered t js (thread c t) (lists t)
  pub left : (t : ℕ) → s.left t ≡ drop (come t js) (lists t)
  -- each action that came fits those that came before it
  pub fits : (k : ℕ) (a : Action) → slice_get (order lists js) k ≡ Some a → Fits (take k (order lists js)) a

abbrev pub OrderLaw : Type 0
OrderLaw =
    (c : Case) (js : List Item) (s : OrderState)
    → reached (certificate_machine c) js ≡ Ok s → Ordered c (said certificate_item js) s
