use Rattle.std.proofs.Common.{◌≡◌, ℕ, ◌+◌, ◌-◌, not, List, get_or, Err, Result, sym, refl, ap, ◌∙◌, arith}
use Rattle.std.proofs.lemmas.List.{set-get_or}
use Rattle.std.proofs.lemmas.Result.{err_from_is_err_and}
use Rattle.records.specs.declared.action.Action.{Action}
use Rattle.case.specs.Cases.{threads}
use Rattle.machines.specs.declared.items.CertificateItem.TheVariants.{Move}
use Rattle.machines.specs.Certificate.{move_in, relist, certifies}
use Rattle.machines.specs.Faults.{told, certificate_number}
use Rattle.machines.specs.Lists.{order_state}
use Rattle.machines.specs.Machine.{need as needs_that, answer, moved}
use Rattle.machines.specs.Moves.{shift}
use Rattle.machines.proofs.Lefts.{lefts, relisted, move_asks, move_taken}
use Rattle.machines.proofs.Steps.{refused_by_lem}
use Rattle.machines.proofs.lists.Certificate.move_read.Goals as goal
use Rattle.machines.proofs.lists.Certificate.move_read.Goals.{After-passes}

-- the move, while the order has not begun
move_is : (c : After-passes) (o : Result (List Action) ℕ) → move_in c.args.place c.args.count (lefts (threads c.args.case.now) c.args.self.now.lists c.args.thread) ≡ o
    → certifies (order_state (threads c.args.case.now) c.args.self.now) (Move c.args.thread c.args.place c.args.count) ≡ relist c.args.thread (order_state (threads c.args.case.now) c.args.self.now) o
move_is c o e i = needs_that (not (c.if-self.false i)) 31 (relist c.args.thread (order_state (threads c.args.case.now) c.args.self.now) (e i))

-- what the part that is looked at says of the move
asks : (c : After-passes) → told certificate_number c.passes.result ≡ answer (move_in c.args.place c.args.count (lefts (threads c.args.case.now) c.args.self.now.lists c.args.thread))
asks c =
    move_asks (threads c.args.case.now) c.args.self.now.lists c.args.thread c.index-self-thread.result (omega arith) (omega (arith, c.thread.ensures.few, c.thread.ensures.len)) c.args.place c.args.count
    (omega (arith, c.thread.ensures.len)) (told certificate_number c.passes.result) c.passes.ensures

refused : (c : goal.After-from_residual) → certifies (order_state (threads c.args.case.now) c.args.self.now) (Move c.args.thread c.args.place c.args.count) ≡ Err (certificate_number c.in_err-passes.field-0.0)
refused c =
    let v = (goal.at.returns-in_err-passes-clause-answer c).After-passes in
    let n = certificate_number c.in_err-passes.field-0.0 in
    move_is v (Err n) (refused_by_lem _ n (sym (asks v) ∙ ap (told certificate_number) c.in_err-passes.was))

pub returns-in_err-passes-clause-answer : goal.returns-in_err-passes-clause-answer
returns-in_err-passes-clause-answer c =
    let p = err_from_is_err_and c.from_residual.result c.from_residual.ensures.1 in
    ap (told certificate_number) (p.1 ∙ ap (λ f. Err f) p.2) ∙ sym (ap answer (refused c))

pub returns-in_err-passes-clause-after : goal.returns-in_err-passes-clause-after
returns-in_err-passes-clause-after c =
    let cs = threads c.args.case.now in
    let m = c.args.self.now in
    ap (λ lists. order_state cs (record { lists = lists; memory = m.memory; begun = m.begun })) (set-get_or m.lists c.args.thread c.index-self-thread.result) ∙ sym (ap (moved (order_state cs m)) (refused c))

pub returns : goal.returns
returns c =
    let v = (goal.at.returns c).After-passes in
    let cs = threads c.args.case.now in
    let m = c.args.self.now in
    let t = c.args.thread in
    let p = c.args.place in
    let k = c.args.count in
    let d = c.index-self-thread.result in
    let n = (get_or m.lists t d).next in
    let z : n + p + k + 1 - (n + p) - 1 ≡ k = omega arith in
    let e = move_is v _
    (move_taken cs m.lists t d (omega arith) (omega (arith, c.thread.ensures.few, c.thread.ensures.len)) p k (omega (arith, c.thread.ensures.len))
    (sym (ap (told certificate_number) c.in_ok-passes.was) ∙ asks v)) in
    record {
      answer = sym (ap answer e);
      after =
          relisted cs m.lists t (omega arith) _ _ _ c.advance.ensures.next (c.advance.ensures.places ∙ ap (λ j. shift (n + p) j (get_or m.lists t d).places) z) _ _ _ refl refl _ _ c.if-self.false
          ∙ sym (ap (moved (order_state cs m)) e);
      kept = tt;
    }
