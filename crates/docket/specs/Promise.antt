-- What is promised of a whole list of calls, worked off on a docket with tickets in slots beside it.
use Rattle.std.specs.Prelude.{◌≡◌, ℕ, true, List, map, length, take, None, Option, slice_index_or}
use Rattle.records.specs.declared.Item.{Item}
use Rattle.machines.specs.Machine.{Machine, completes}
use Rattle.kinds.specs.declared.Evidence.{Ghosts}
use Rattle.docket.specs.declared.Docket.{Docket}
use Rattle.docket.specs.declared.calls.Answer.{Answer}
use Rattle.docket.specs.declared.calls.Call.{Call}
use Rattle.docket.specs.declared.counts.Counts.{Counts}
use Rattle.docket.specs.Plain.{Plain}
use Rattle.docket.specs.Standing.{Counted, Stands}
use Rattle.docket.specs.Slots.{Held, Desk, desk, replies, worked, tidy}
use Rattle.docket.specs.Runs.{AllRuled}
use Rattle.docket.specs.Working.{says_any}

-- the model allows the case exactly when some evidence is complete
pub record ByEvidence {S : Type 0} (m : Machine S) (allowed : Type 0) : Type 0 where
  pub sound : (l : List Item) → completes m l ≡ true → allowed
  pub full : allowed → ∥ ((l : List Item) × (completes m l ≡ true)) ∥₁

-- calls that keep their ticket in one slot, empty at first, and hand it in at the end leave the slots as they were
abbrev pub TidySlots : Held → List Call → Held → Type 0
TidySlots h calls h' = (k : ℕ) → tidy k calls ≡ true → slice_index_or h k None ≡ None → h' ≡ h

-- ── Told by a desk ──
module _ {S : Type 0} (m : Machine S) (number : ℕ) (e : Desk) (calls : List Call) where
  -- all answers, which stand in front of the caller's list, are the plain docket's; f numbers the kind's reasons
  abbrev pub Answered : {F : Type 0} → (F → ℕ) → List (Option (Answer F)) → Type 0
  Answered f after = map (says_any f) (take (length calls) after) ≡ replies m number e calls

  -- each settling rules on the items taken since the last granted opening
  abbrev pub RuledOnItems : {F : Type 0} → (F → ℕ) → List (Option (Answer F)) → Type 0
  RuledOnItems f after = AllRuled m e.plain.items calls (map (says_any f) (take (length calls) after))

  -- the slots hold the tickets that the replies leave
  abbrev pub SlotsLeft : Held → Type 0
  SlotsLeft h' = h' ≡ (worked m number e calls).held

  -- the counts are those of the plain docket that was fed the same calls
  abbrev pub CountsLeft : Counts → Type 0
  CountsLeft c = Counted c (worked m number e calls).plain

-- ── Told by every plain docket that a docket d stands for ──
module _ {K F : Type 0} (kind : Ghosts K F) (d : Docket K F) (h : Held) (calls : List Call) where
  abbrev pub ForPlain : (Plain → Type 0) → Type 0
  ForPlain P = (p : Plain) → Stands kind d p → P p

  abbrev pub PlainAnswers : (F → ℕ) → List (Option (Answer F)) → Type 0
  PlainAnswers f after = ForPlain (λ p. Answered (kind.machine d.case) d.number (desk p h) calls f after)

  abbrev pub PlainRulings : (F → ℕ) → List (Option (Answer F)) → Type 0
  PlainRulings f after = ForPlain (λ p. RuledOnItems (kind.machine d.case) d.number (desk p h) calls f after)

  abbrev pub PlainSlots : Held → Type 0
  PlainSlots h' = ForPlain (λ p. SlotsLeft (kind.machine d.case) d.number (desk p h) calls h')

  abbrev pub PlainCounts : Counts → Type 0
  PlainCounts c = ForPlain (λ p. CountsLeft (kind.machine d.case) d.number (desk p h) calls c)

  -- the docket stands for what the plain one has become
  abbrev pub StillStands : Docket K F → Type 0
  StillStands d' = ForPlain (λ p. Stands kind d' (worked (kind.machine d.case) d.number (desk p h) calls).plain)
