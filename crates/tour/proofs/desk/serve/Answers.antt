use Rattle.std.proofs.Common.{rules, ◌≡◌, true, [], ◌∷◌, List, None, Some, Ok, Err, Option, Result, OnOk, IfErr, refl, slice_index_or}
use Rattle.docket.specs.declared.calls.Call.{Call}
use Rattle.docket.specs.Promise.{TidySlots}
use Rattle.docket.specs.Slots.{Held, tidy}
use Rattle.tour.proofs.desk.serve.Goals as goal

-- calls that keep their ticket in slot 0 leave the slots as they were, worked off or not
kept : {D K : Type 0} (X : K → Type 0) (Y : Type 0) (r : Result D K) (calls : List Call) (h h' : Held) → tidy 0 calls ≡ true → slice_index_or h 0 None ≡ None →
    OnOk r (TidySlots h calls h') → IfErr r (λ k. X k × (h' ≡ h) × Y) →
    h' ≡ h
kept X Y (Ok d) calls h h' t e returned untouched = returned 0 t e
kept X Y (Err k) calls h h' t e returned untouched = untouched.1

pub unreachable-requires : goal.unreachable-requires
unreachable-requires g c =
    let s = c.examine_and_convert-served in
    let left : s.new.held ≡ None ∷ Some c.args.old ∷ [] = kept _ _ s.result.docket c.args.calls.now (None ∷ Some c.args.old ∷ []) s.new.held c.requires refl s.ensures.returned s.ensures.untouched in
    search rules

pub returns : goal.returns
returns g c =
    let s = c.examine_and_convert-served in
    let left : s.new.held ≡ None ∷ Some c.args.old ∷ [] = kept _ _ s.result.docket c.args.calls.now (None ∷ Some c.args.old ∷ []) s.new.held c.requires refl s.ensures.returned s.ensures.untouched in
    search rules
