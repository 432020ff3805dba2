-- The two conversions, on what the items say. Every definition computes.
use Rattle.std.specs.Prelude.{ℕ, zero, suc, ◌+◌, ◌-◌, Bool, true, false, cond, ◌||◌, List, [], ◌∷◌, ◌++◌, map, length, Ok, Err, Result, ◌==◌, nat_lt}
use Rattle.records.specs.declared.action.Action.{Action}
use Rattle.records.specs.declared.action.Action.TheVariants.{Read, Write, Sync}
use Rattle.records.specs.Actions.{name_of}
use Rattle.records.specs.Names.{Case, thread, named}
use Rattle.machines.specs.declared.items.RunItem.{RunItem}
use Rattle.machines.specs.declared.items.RunItem.TheVariants.{Perform, Drain}
use Rattle.machines.specs.declared.items.CertificateItem.{CertificateItem}
use Rattle.machines.specs.declared.items.CertificateItem.TheVariants.{Move, Come}
use Rattle.machines.specs.Memory.{upd}
use Rattle.machines.specs.Certificate.{move_in}

-- ── From a run to a certificate, along the run ──
-- a waiting write (name, location), with the names of the reads that saw it while it waited
pub data Group : Type 0 where
  group : ℕ → ℕ → List ℕ → Group

-- some waiting write is to x
abbrev pub holds : ℕ → List Group → Bool
holds x [] = false
holds x (group w y ns ∷ gs) = x == y || holds x gs

-- the read n joins the newest waiting write to x
abbrev pub joins : ℕ → ℕ → List Group → List Group
joins n x [] = []
joins n x (group w y ns ∷ gs) = cond (holds x gs) (group w y ns ∷ joins n x gs) (group w y (ns ++ (n ∷ [])) ∷ gs)

-- a move of a thread's list: its place and its count
pub data Mark : Type 0 where
  mark : ℕ → ℕ → Mark

-- the same moves with one action before them, and with n
abbrev pub shift : List Mark → List Mark
shift [] = []
shift (mark p c ∷ ms) = mark (suc p) c ∷ shift ms

abbrev pub shifts : ℕ → List Mark → List Mark
shifts zero ms = ms
shifts (suc n) ms = shift (shifts n ms)

-- the moves by which a read passes all these groups, the newest first
abbrev pub passing : List Group → List Mark
passing [] = []
passing (group w y ns ∷ gs) = shifts (suc (length ns)) (passing gs) ++ (mark 0 (length ns) ∷ [])

-- those by which a read passes the groups that are newer than the newest to x
abbrev pub settling : ℕ → List Group → List Mark
settling x [] = []
settling x (group w y ns ∷ gs) = shifts (suc (length ns)) (cond (holds x gs) (settling x gs) (passing gs))

-- the moves of each thread, and the threads in the order in which their actions come
pub record Plan : Type 0 where
  pub marks : ℕ → List Mark
  pub order : List ℕ

-- thread t once for each read, before others
abbrev pub each : ℕ → List ℕ → List ℕ → List ℕ
each t [] os = os
each t (n ∷ ns) os = t ∷ each t ns os

-- the groups that wait at the end, by age; and those of d threads from i on
abbrev pub released : ℕ → List Group → List ℕ → List ℕ
released t [] os = os
released t (group w y ns ∷ gs) os = t ∷ each t ns (released t gs os)

abbrev pub flushed : ℕ → ℕ → (ℕ → List Group) → List ℕ
flushed zero i gs = []
flushed (suc d) i gs = released i (gs i) (flushed d (suc i) gs)

-- the plan of what is left of a run, from what threads have yet to perform and their groups
abbrev pub Planner : Type 0
Planner = (ℕ → List Action) → (ℕ → List Group) → Plan

-- a read that sees a waiting write joins it, any other comes now
abbrev pub plan_read : Planner → ℕ → (ℕ → List Action) → (ℕ → List Group) → ℕ → ℕ → List Action → Bool → Plan
plan_read next t rest gs n x rs true =
    let p = next (upd rest t rs) (upd gs t (joins n x (gs t))) in
    record { marks = upd p.marks t (settling x (gs t) ++ p.marks t); order = p.order }
plan_read next t rest gs n x rs false =
    let p = next (upd rest t rs) gs in
    record { marks = upd p.marks t (passing (gs t) ++ shift (p.marks t)); order = t ∷ p.order }

abbrev pub plan_perform : Planner → ℕ → (ℕ → List Action) → (ℕ → List Group) → List Action → Plan
plan_perform next t rest gs [] = next rest gs
plan_perform next t rest gs (Write n x ∷ rs) = next (upd rest t rs) (upd gs t (gs t ++ (group n x [] ∷ [])))
plan_perform next t rest gs (Read n x s ∷ rs) = plan_read next t rest gs n x rs (holds x (gs t))
plan_perform next t rest gs (Sync n k o ∷ rs) =
    let p = next (upd rest t rs) gs in
    record { marks = upd p.marks t (shift (p.marks t)); order = t ∷ p.order }

-- a write comes when it is drained, and its reads with it
abbrev pub plan_drain : Planner → ℕ → (ℕ → List Action) → (ℕ → List Group) → List Group → Plan
plan_drain next t rest gs [] = next rest gs
plan_drain next t rest gs (group w y ns ∷ hs) =
    let p = next rest (upd gs t hs) in
    record { marks = upd p.marks t (shifts (suc (length ns)) (p.marks t)); order = t ∷ each t ns p.order }

-- of N threads
abbrev pub plan : ℕ → List RunItem → Planner
plan N [] rest gs = record { marks = λ u. []; order = flushed N 0 gs }
plan N (Perform t ∷ is) rest gs = plan_perform (λ r g. plan N is r g) t rest gs (rest t)
plan N (Drain t ∷ is) rest gs = plan_drain (λ r g. plan N is r g) t rest gs (gs t)

-- the items O of threads
abbrev pub comings : List ℕ → List CertificateItem
comings os = map (λ t. Come t) os

-- the items M of a thread's moves, before others; those of d threads from i on
abbrev pub move_items : ℕ → List Mark → List CertificateItem → List CertificateItem
move_items t [] js = js
move_items t (mark p c ∷ ms) js = Move t p c ∷ move_items t ms js

abbrev pub all_moves : ℕ → ℕ → (ℕ → List Mark) → List CertificateItem → List CertificateItem
all_moves zero i ms js = js
all_moves (suc d) i ms js = move_items i (ms i) (all_moves d (suc i) ms js)

-- the certificate of a run: the moves thread by thread, and then the order
abbrev pub emitted : Case → List RunItem → List CertificateItem
emitted c is =
    let p = plan (length c) is (thread c) (λ t. []) in
    all_moves (length c) 0 p.marks (comings p.order)

-- ── From a certificate to a run ──
abbrev pub again : ℕ → RunItem → List RunItem → List RunItem
again zero i is = is
again (suc n) i is = i ∷ again n i is

abbrev pub drain_after : ℕ → Action → List RunItem → List RunItem
drain_after t (Read n x s) is = is
drain_after t (Write n x) is = Drain t ∷ is
drain_after t (Sync n k o) is = is

-- the moved list, or the old one
abbrev pub moved_or : List Action → Result (List Action) ℕ → List Action
moved_or K (Err n) = K
moved_or K (Ok L) = L

-- For the action that comes its thread performs all that it has not performed up to this action, and drains a plain write.
-- `next` has the name of each thread's next action; names rise along program order, one by one.
abbrev pub coming : ((ℕ → List Action) → (ℕ → ℕ) → List RunItem) → ℕ → (ℕ → List Action) → (ℕ → ℕ) → List Action → List RunItem
coming onward t left next [] = []
coming onward t left next (b ∷ rs) =
    let missing = suc (name_of b) - next t in
    again missing (Perform t) (drain_after t b (onward (upd left t rs) (upd next t (next t + missing))))

abbrev pub replay_from : List CertificateItem → (ℕ → List Action) → (ℕ → ℕ) → List RunItem
replay_from [] left next = []
replay_from (Move t p c ∷ js) left next = replay_from js (upd left t (moved_or (left t) (move_in p c (left t)))) next
replay_from (Come t ∷ js) left next = coming (λ l n. replay_from js l n) t left next (left t)

abbrev pub replay : Case → List CertificateItem → List RunItem
replay c js = replay_from js (thread c) (λ t. named t 0)

-- ── Counts ──
-- the sum over d threads from i on
abbrev pub sum_over : ℕ → ℕ → (ℕ → ℕ) → ℕ
sum_over zero i g = 0
sum_over (suc d) i g = g i + sum_over d (suc i) g

-- the number of actions
abbrev pub size : Case → ℕ
size c = sum_over (length c) 0 (λ t. length (thread c t))

abbrev pub move_count : List CertificateItem → ℕ
move_count [] = 0
move_count (Move t p c ∷ js) = suc (move_count js)
move_count (Come t ∷ js) = move_count js

-- the lists after a certificate's moves
abbrev pub after_moves : List CertificateItem → (ℕ → List Action) → ℕ → List Action
after_moves [] left = left
after_moves (Move t p c ∷ js) left = after_moves js (upd left t (moved_or (left t) (move_in p c (left t))))
after_moves (Come t ∷ js) left = left

-- the plain writes of a list that are before n in program order, which is the order of the names
abbrev pub writes_below : ℕ → List Action → ℕ
writes_below n [] = 0
writes_below n (Read m x s ∷ K) = writes_below n K
writes_below n (Write w y ∷ K) = cond (nat_lt w n) (suc (writes_below n K)) (writes_below n K)
writes_below n (Sync m k o ∷ K) = writes_below n K

-- the pairs of a plain write and a plain read after it in program order that stand the other way round
abbrev pub reversed : List Action → ℕ
reversed [] = 0
reversed (Read n x s ∷ K) = writes_below n K + reversed K
reversed (Write w y ∷ K) = reversed K
reversed (Sync n k o ∷ K) = reversed K

-- the pairs that a certificate's moves reverse
abbrev pub reversed_by : Case → List CertificateItem → ℕ
reversed_by c js = sum_over (length c) 0 (λ t. reversed (after_moves js (thread c) t))
