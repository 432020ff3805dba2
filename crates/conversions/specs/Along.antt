-- The certificate of a run as it is written along the run: what each item does to its thread, and which items follow.
-- An item that a machine would refuse does nothing here.
use Rattle.std.specs.Prelude.{ℕ, zero, suc, ◌+◌, ◌-◌, cond, List, [], ◌∷◌, ◌++◌, drop, replicate, Some, None, Option, ◌==◌}
use Rattle.std.specs.List.{slice_get}
use Rattle.records.specs.declared.Item.{Item}
use Rattle.records.specs.declared.action.Action.{Action}
use Rattle.records.specs.declared.action.Action.TheVariants.{Read, Write, Sync}
use Rattle.records.specs.Letters.{letter}
use Rattle.records.specs.Names.{Case, thread}
use Rattle.machines.specs.declared.items.RunItem.{RunItem}
use Rattle.machines.specs.declared.items.RunItem.TheVariants.{Perform, Drain}
use Rattle.machines.specs.Items.{run_item}
use Rattle.machines.specs.Memory.{upd}
use Rattle.machines.specs.Windows.{younger}
use Rattle.conversions.specs.declared.hosts.Host.{Host}
use Rattle.conversions.specs.Hosts.{new_host, width, stay, joins_at, leaving}

-- ── One thread ──
-- its next place, and its waiting writes
pub record Own : Type 0 where
  pub place : ℕ
  pub hosts : List Host

abbrev pub start : Own
start = record { place = 0; hosts = [] }

abbrev pub hosted : Action → List Host → List Host
hosted (Read n x s) hs = joins_at (stay x hs) hs
hosted (Write n x) hs = hs ++ (new_host x ∷ [])
hosted (Sync n k o) hs = hs

abbrev pub performed : Action → Own → Own
performed a s = record { place = suc s.place; hosts = hosted a s.hosts }

abbrev pub drained : Own → Own
drained s = record { place = s.place; hosts = younger s.hosts }

-- how many actions come when this one is performed: itself, unless it waits
abbrev pub unhosted : ℕ → ℕ
unhosted zero = 1
unhosted (suc n) = 0

abbrev pub comes : Action → Own → ℕ
comes (Read n x s) o = unhosted (stay x o.hosts)
comes (Write n x) o = 0
comes (Sync n k p) o = 1

-- the moves by which a read of thread t passes hosts, the newest first, where b actions come before the oldest of them
abbrev pub move_of : ℕ → ℕ → ℕ → Item
move_of t p n = record { letter = letter "M"; thread = t; place = p; count = n }

abbrev pub passes : ℕ → ℕ → List Host → List Item
passes t b [] = []
passes t b (h ∷ hs) = passes t (b + suc h.joined) hs ++ (move_of t b h.joined ∷ [])

-- a read passes the hosts that are newer than the one it stays at
abbrev pub moves_before : ℕ → ℕ → List Host → List Item
moves_before t p hs = passes t (p - width hs) hs

abbrev pub moves_of : ℕ → Action → Own → List Item
moves_of t (Read n x s) o = moves_before t o.place (drop (stay x o.hosts) o.hosts)
moves_of t (Write n x) o = []
moves_of t (Sync n k p) o = []

-- the same of the next action, if there is one
abbrev pub performed_next : Option Action → Own → Own
performed_next None s = s
performed_next (Some a) s = performed a s

abbrev pub comes_next : Option Action → Own → ℕ
comes_next None s = 0
comes_next (Some a) s = comes a s

abbrev pub moves_next : ℕ → Option Action → Own → List Item
moves_next t None s = []
moves_next t (Some a) s = moves_of t a s

-- ── The moves of thread t, which has the actions l ──
abbrev pub step_own : List Action → ℕ → Option RunItem → Own → Own
step_own l t None s = s
step_own l t (Some (Perform u)) s = cond (u == t) (performed_next (slice_get l s.place) s) s
step_own l t (Some (Drain u)) s = cond (u == t) (drained s) s

abbrev pub step_moves : List Action → ℕ → Option RunItem → Own → List Item
step_moves l t None s = []
step_moves l t (Some (Perform u)) s = cond (u == t) (moves_next t (slice_get l s.place) s) []
step_moves l t (Some (Drain u)) s = []

abbrev pub moves_along : List Action → ℕ → List Item → Own → List Item
moves_along l t [] s = []
moves_along l t (i ∷ is) s = step_moves l t (run_item i) s ++ moves_along l t is (step_own l t (run_item i) s)

-- those of d threads from t on
abbrev pub moves_from : Case → List Item → ℕ → ℕ → List Item
moves_from c is zero t = []
moves_from c is (suc d) t = moves_along (thread c t) t is start ++ moves_from c is d (suc t)

-- ── The order of all threads ──
abbrev pub come_of : ℕ → Item
come_of t = record { letter = letter "O"; thread = t; place = 0; count = 0 }

abbrev pub step_all : Case → Option RunItem → (ℕ → Own) → ℕ → Own
step_all c None f = f
step_all c (Some (Perform t)) f = upd f t (performed_next (slice_get (thread c t) (f t).place) (f t))
step_all c (Some (Drain t)) f = upd f t (drained (f t))

abbrev pub step_comes : Case → Option RunItem → (ℕ → Own) → List Item
step_comes c None f = []
step_comes c (Some (Perform t)) f = replicate (comes_next (slice_get (thread c t) (f t).place) (f t)) (come_of t)
step_comes c (Some (Drain t)) f = replicate (leaving (f t).hosts) (come_of t)

-- what still waits in d threads from t on
abbrev pub flushed_from : ℕ → ℕ → (ℕ → Own) → List Item
flushed_from zero t f = []
flushed_from (suc d) t f = replicate (width (f t).hosts) (come_of t) ++ flushed_from d (suc t) f

abbrev pub order_along : Case → List Item → (ℕ → Own) → List Item
order_along c [] f = flushed_from 8 0 f
order_along c (i ∷ is) f = step_comes c (run_item i) f ++ order_along c is (step_all c (run_item i) f)
