use Rattle.std.proofs.Common.{◌≡◌, ◌+◌, ◌*◌, ◌<◌, ◌≤◌, length, get_or, IfSome, sym, ap, ◌∙◌, subst, arith}
use Rattle.records.specs.Actions.{action_of, Located}
use Rattle.records.specs.Names.{blank, of_thread}
use Rattle.case.specs.Cases.{records_of}
use Rattle.case.proofs.Slots.{action-none, action-some, action-located}
use Rattle.case.proofs.checked.CheckedCase.action.Goals as goal

pub returns-in_err-record : goal.returns-in_err-record
returns-in_err-record c =
    let self = c.args.self.now in
    let e = c.from_residual.ensures in
    let l : length (of_thread c.args.thread (records_of self)) ≤ c.args.place = omega (arith, ap length c.thread.ensures.value, c.in_err-record.ensures.lookup.3) in
    record {
      value = e ∙ sym (action-none (records_of self) self.formed c.args.thread c.args.place l);
      located = subst (λ a. IfSome a Located) (sym e) tt;
    }

pub returns : goal.returns
returns c =
    let self = c.args.self.now in
    let xs = records_of self in
    let t = c.args.thread in
    let p = c.args.place in
    let r = c.in_ok-record.record.now in
    let h = c.in_ok-record.ensures.lookup.3 in
    let inside : p < length (of_thread t xs) = omega (arith, ap length c.thread.ensures.value, h.0) in
    let is : r ≡ get_or (of_thread t xs) p blank = h.1 blank ∙ ap (λ l. get_or l p blank) c.thread.ensures.value in
    let e : c.action.result ≡ action_of (64 * t + p) r = c.action.ensures ∙ ap (λ i. action_of i r) c.named.ensures in
    record {
      value = e ∙ sym (action-some xs self.formed t p r inside is);
      located = subst (λ a. IfSome a Located) (sym e) (action-located xs self.formed t p r inside is (64 * t + p));
    }
