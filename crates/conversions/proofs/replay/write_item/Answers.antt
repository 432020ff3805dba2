use Rattle.std.proofs.Common.{ℕ, ◌<◌, List, length, Some, sym, ap, ◌∙◌, subst, arith}
use Rattle.records.specs.declared.action.Action.{Action}
use Rattle.case.specs.Cases.{threads}
use Rattle.machines.specs.Lists.{order_state}
use Rattle.conversions.specs.Replays.{nexts}
use Rattle.conversions.specs.Sheets.{Adds}
use Rattle.conversions.proofs.Replaying.{said-is, come-items, come-next, comes-within}
use Rattle.conversions.proofs.replay.write_item.Goals as goal

pub returns-in-Some-clause-list : goal.returns-in-Some-clause-list
returns-in-Some-clause-list c =
    let t = c.in-Ok-Come.thread in
    let u = c.in-Some.ensures.next in
    let left : ℕ → List Action = (order_state (threads c.args.case.now) c.args.checker.now).left in
    let table = c.args.next.now in
    let within : t < length table = omega (arith, c.told-next, comes-within c.args.case.now c.args.checker.now t c.in-Some.action u) in
    let said = ap (λ i. Some i) (sym c.in-Ok-Come.field-0-is) ∙ said-is _ _ _ c.in-Ok-Come.ensures in
    subst (λ l. Adds l c.args.sheet.now c.write_coming.new.sheet) (sym (come-items left table c.args.item t c.in-Some.action said u within)) c.write_coming.ensures.list

pub returns-in-Some-clause-onward : goal.returns-in-Some-clause-onward
returns-in-Some-clause-onward c =
    let t = c.in-Ok-Come.thread in
    let u = c.in-Some.ensures.next in
    let left : ℕ → List Action = (order_state (threads c.args.case.now) c.args.checker.now).left in
    let table = c.args.next.now in
    let within : t < length table = omega (arith, c.told-next, comes-within c.args.case.now c.args.checker.now t c.in-Some.action u) in
    let said = ap (λ i. Some i) (sym c.in-Ok-Come.field-0-is) ∙ said-is _ _ _ c.in-Ok-Come.ensures in
    ap nexts c.write_coming.ensures.onward ∙ come-next left table c.args.item t c.in-Some.action said u within
