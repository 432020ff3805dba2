use Rattle.std.proofs.Common.{◌≡◌, get_or, Some, sym, ap, ◌∙◌, arith}
use Rattle.std.specs.Result.{result_ok}
use Rattle.machines.specs.Machine.{moved}
use Rattle.machines.specs.Rows.{window, run_state}
use Rattle.machines.specs.Windows.{oldest}
use Rattle.machines.specs.Run.{drain}
use Rattle.machines.proofs.RunStates.{front, left}
use Rattle.machines.proofs.rows.Run.drain.Goals as goal

pub returns-clause-after : goal.returns-clause-after
returns-clause-after c cs =
    let m = c.args.self.now in
    let t = c.args.thread in
    let d = c.index-self-thread.result in
    let w = c.in_ok-write.write in
    let old : Some w ≡ oldest (window (get_or m.rows t d)) = sym (ap result_ok c.in_ok-write.was) ∙ sym c.ok_or.ensures.ok_part ∙ c.leave.ensures.value in
    left cs m t (omega arith) d w old _ c.named.ensures _ c.leave.ensures.next c.leave.ensures.waiting _ c.store.ensures.writes c.store.ensures.turns
    ∙ sym (ap (λ b. moved (run_state cs m) (drain t (run_state cs m) b)) (front cs m t (omega arith) d w old _ c.named.ensures))
