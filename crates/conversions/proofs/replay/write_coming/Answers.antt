use Rattle.std.proofs.Common.{◌≡◌, ℕ, List, [], ◌∷◌, ◌++◌, get_or, replicate, refl, sym, ap, ◌∙◌, subst, arith}
use Rattle.std.proofs.lemmas.List.{append-nil}
use Rattle.records.specs.declared.Item.{Item}
use Rattle.records.specs.declared.action.Action.{Action}
use Rattle.records.specs.declared.action.Action.TheVariants.{Write}
use Rattle.machines.specs.Encoded.{run_encoded}
use Rattle.machines.specs.declared.items.RunItem.TheVariants.{Drain}
use Rattle.conversions.specs.Replays.{performed}
use Rattle.conversions.specs.Sheets.{Adds, Room}
use Rattle.conversions.proofs.Sheets.{room_front, room_behind, adds_both}
use Rattle.conversions.proofs.Replaying.{drains, drains-none, performed-parts}
use Rattle.conversions.proofs.replay.write_coming.Goals as goal
use Rattle.conversions.proofs.replay.write_coming.Goals.{After-from-2}

-- what is performed is written, and then the rest
abbrev performs : After-from-2 → List Item
performs c = replicate c.saturating_sub-due.result c.from-2.result

parts : (c : After-from-2) (rest : List Item) → rest ≡ drains c.args.thread c.args.action
    → performed c.args.thread c.args.action (get_or c.args.next.now c.args.thread 0) ≡ performs c ++ rest
parts c rest e = performed-parts c.args.thread c.args.action (get_or c.args.next.now c.args.thread 0) _ _ rest (omega arith) c.from-2.ensures e

fits : (c : After-from-2) (rest : List Item) → rest ≡ drains c.args.thread c.args.action → Room (performs c ++ rest) c.args.sheet.now
fits c rest e = subst (λ l. Room l c.args.sheet.now) (parts c rest e) c.requires.room

pub repeat-requires : goal.repeat-requires
repeat-requires c = record { room = room_front (performs c) (drains c.args.thread c.args.action) c.args.sheet.now (fits c _ refl) }

-- a plain write is drained at once
drain : (t n x : ℕ) (b : Action) (item : Item) → b ≡ Write n x → item ≡ run_encoded (Drain t) → item ∷ [] ≡ drains t b
drain t n x b item e i = ap {B = List Item} (λ k. k ∷ []) i ∙ sym (ap (drains t) e)

pub push-requires : goal.push-requires
push-requires c =
    let v = (goal.at.push-requires c).After-from-2 in
    let rest = c.from-in-Write.result ∷ [] in
    let e = drain c.args.thread _ _ _ _ c.in-Write.is c.from-in-Write.ensures in
    record { room = room_behind (performs v) rest c.args.sheet.now c.repeat.new.self (fits v rest e) c.repeat.ensures.list }

pub returns-in-Write-clause-list : goal.returns-in-Write-clause-list
returns-in-Write-clause-list c =
    let v = (goal.at.returns-in-Write-clause-list c).After-from-2 in
    let rest = c.from-in-Write.result ∷ [] in
    let e = drain c.args.thread _ _ _ _ c.in-Write.is c.from-in-Write.ensures in
    subst (λ l. Adds l c.args.sheet.now c.push.new.self) (sym (parts v rest e))
    (adds_both (performs v) rest c.args.sheet.now c.repeat.new.self c.push.new.self (fits v rest e) c.repeat.ensures.list c.push.ensures.list)

pub returns-in_default-clause-list : goal.returns-in_default-clause-list
returns-in_default-clause-list c =
    let v = (goal.at.returns-in_default-clause-list c).After-from-2 in
    let e = parts v [] (sym (drains-none c.args.thread c.args.action c.in_default.not-Write)) ∙ append-nil (performs v) in
    subst (λ l. Adds l c.args.sheet.now c.repeat.new.self) (sym e) c.repeat.ensures.list
