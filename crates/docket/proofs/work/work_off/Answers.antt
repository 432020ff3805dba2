use Rattle.std.proofs.Common.{◌≡◌, take, arith, take_all, rules}
use Rattle.docket.specs.Slots.{desk}
use Rattle.docket.proofs.Desks.{WorkedOff, next_call}
use Rattle.docket.proofs.Settlings.{all-ruled}
use Rattle.docket.proofs.work.work_off.Goals as goal

pub loop-i-preserved : goal.loop-i-preserved
loop-i-preserved g c =
    next_call g.K.Evidence g.K.Fault.ItemFault.number _ _ _ _ _ _ c.args.calls.now c.loop-i.i _ c.act.result _ c.loop-i.answers (omega arith) (omega arith) c.loop-i.invariant c.act.ensures.acted

pub returns : goal.returns
returns g c =
    let k = g.K.Evidence in
    let d = c.args.docket.now in
    let h = c.args.held.now in
    let calls = c.args.calls.now in
    let after = c.loop-i.docket in
    let all : take c.loop-i.i calls ≡ calls = take_all c.loop-i.i calls (omega arith) in
    let done : WorkedOff k g.K.Fault.ItemFault.number d h calls c.args.answers.now c.loop-i.answers after c.loop-i.held = rw all at c.loop-i.invariant in
    record {
      room = search rules;
      untouched = search rules;
      case = done.case;
      number = done.number;
      rest = done.rest;
      answers = done.answers;
      tickets = done.slots;
      stands = done.stands;
      rulings = λ p s. rw (done.answers p s) (all-ruled (k.machine d.case) d.number (desk p h) calls);
      counts = λ p s. (done.stands p s).counts;
      balanced = after.counts.balanced;
      single = after.counts.single;
      model = record { sound = g.met.K.Evidence.sound d.case; full = g.met.K.Evidence.full d.case };
    }
