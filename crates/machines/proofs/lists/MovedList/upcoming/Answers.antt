use Rattle.std.proofs.Common.{Some, sym, ap, ◌∙◌, arith}
use Rattle.records.specs.Names.{thread}
use Rattle.case.specs.Cases.{threads}
use Rattle.machines.specs.Lists.{head_of}
use Rattle.machines.proofs.Lefts.{left-more}
use Rattle.machines.proofs.Threads.{thread_few}
use Rattle.machines.proofs.lists.MovedList.upcoming.Goals as goal

pub returns-clause-value : goal.returns-clause-value
returns-clause-value c =
    let few = thread_few c.args.case.now c.args.thread in
    ap (λ a. Some a) c.action_at.ensures.value
    ∙ sym (ap head_of (left-more (thread (threads c.args.case.now) c.args.thread) c.args.self.now.next c.args.self.now.places (omega (arith, c.args.self.now.full)) (omega (arith, c.thread.ensures.len))))
