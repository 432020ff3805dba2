use Rattle.std.proofs.Common.{◌≡◌, true, get_or, Some, sym, refl, ap, ◌∙◌, arith}
use Rattle.std.specs.Result.{result_ok}
use Rattle.records.specs.Names.{thread}
use Rattle.case.specs.Cases.{threads}
use Rattle.machines.specs.Certificate.{comes}
use Rattle.machines.specs.Lists.{left_of, head_of, order_state}
use Rattle.machines.specs.Machine.{moved}
use Rattle.machines.proofs.Lefts.{left-next, lefts_at, relisted}
use Rattle.machines.proofs.Steps.{comes_next}
use Rattle.machines.proofs.lists.Certificate.come.Goals as goal

pub returns-clause-after : goal.returns-clause-after
returns-clause-after c =
    let cs = threads c.args.case.now in
    let m = c.args.self.now in
    let s = order_state cs m in
    let t = c.args.thread in
    let d = c.index-self-thread.result in
    let list = get_or m.lists t d in
    let a = c.in_ok-action.action in
    let here : Some a ≡ head_of (left_of (thread cs t) list.next list.places) = sym (ap result_ok c.in_ok-action.was) ∙ sym c.ok_or.ensures.ok_part ∙ c.upcoming.ensures.value in
    let e = lefts_at cs m.lists t d (omega arith) ∙ left-next (thread cs t) list.next list.places a here in
    let o = ap (comes t s) e ∙ comes_next t s _ a (sym c.in_ok-come.was ∙ c.come.ensures.answer) in
    relisted cs m.lists t (omega arith) _ _ _ refl refl _ _ _ c.in_ok-come.ensures.writes c.in_ok-come.ensures.turns true true refl
    ∙ sym (ap (moved s) o)
