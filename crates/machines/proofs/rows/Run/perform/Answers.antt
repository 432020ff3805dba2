use Rattle.std.proofs.Common.{◌≡◌, ◌+◌, ◌<◌, eqb, Bool, List, ◌∷◌, length, get_or, drop, Some, None, Err, sym, refl, ap, ◌∙◌, arith}
use Rattle.std.specs.List.{slice_get}
use Rattle.std.specs.Option.{ok_or}
use Rattle.std.specs.Result.{result_ok}
use Rattle.std.proofs.lemmas.Result.{err_from_is_err_and, MatchResult-from_err}
use Rattle.records.specs.declared.action.Action.{Action}
use Rattle.records.specs.Actions.{name_of}
use Rattle.records.specs.Names.{thread}
use Rattle.case.specs.Cases.{records_of, threads}
use Rattle.machines.specs.declared.faults.RunFault.TheVariants.{NoAction}
use Rattle.machines.specs.Faults.{told, run_number}
use Rattle.machines.specs.Machine.{answer, moved}
use Rattle.machines.specs.declared.rows.PendingWrite.{PendingWrite}
use Rattle.machines.specs.Rows.{window, run_state}
use Rattle.machines.specs.Run.{RunState, sees, isNil, perform}
use Rattle.machines.proofs.RunStates.{rest-none, rest_some, buffer_is, nil_is, unchanged, stays, passed, joined, read-other, read-seen, sync_waits, sync-out, sync-in}
use Rattle.machines.proofs.Threads.{place-small, name_at_lem}
use Rattle.machines.proofs.rows.Run.perform.Goals as goal
use Rattle.machines.proofs.rows.Run.perform.Goals.{In_ok-action}

-- ── The thread has no next action ──
pub returns-in_err-action : goal.returns-in_err-action
returns-in_err-action c =
    let cs = threads c.args.case.now in
    let m = c.args.self.now in
    let t = c.args.thread in
    let d = c.index-self-thread.result in
    let none : None ≡ c.action.result = sym (ap result_ok c.in_err-action.was) ∙ sym c.ok_or.ensures.ok_part in
    let o = ap (perform t (run_state cs m)) (rest-none cs m t (omega arith) d (none ∙ c.action.ensures.value)) in
    let p = err_from_is_err_and c.from_residual.result c.from_residual.ensures.1 in
    let f : Err NoAction ≡ Err c.in_err-action.field-0.0 = ap (λ a. ok_or a NoAction) none ∙ sym c.ok_or.ensures.value ∙ c.in_err-action.was in
    let same : c.in_err-action.field-0.0 ≡ NoAction = cc in
    record {
      answer = ap (told run_number) (p.1 ∙ ap (λ y. Err y) (p.2 ∙ same)) ∙ sym (ap answer o);
      after = stays cs m t (omega arith) d _ refl _ refl _ 21 o;
      kept = MatchResult-from_err c.from_residual.result _ _ c.from_residual.ensures.0 (λ _. unchanged cs m t (omega arith) d _ refl _ refl);
    }

-- ── Once the next action is known ──
abbrev state : In_ok-action → RunState
state c = run_state (threads c.args.case.now) c.args.self.now

abbrev rest : In_ok-action → List Action
rest c = drop ((get_or c.args.self.now.rows c.args.thread c.index-self-thread.result).window.next + 1) (thread (threads c.args.case.now) c.args.thread)

here : (c : In_ok-action) → Some c.in_ok-action.action ≡ slice_get (thread (threads c.args.case.now) c.args.thread) (get_or c.args.self.now.rows c.args.thread c.index-self-thread.result).window.next
here c = sym (ap result_ok c.in_ok-action.was) ∙ sym c.ok_or.ensures.ok_part ∙ c.action.ensures.value

-- it is the action a
next : (c : In_ok-action) (a : Action) → c.in_ok-action.action ≡ a → (state c).rest c.args.thread ≡ a ∷ rest c
next c a e = rest_some (threads c.args.case.now) c.args.self.now c.args.thread (omega arith) c.index-self-thread.result c.in_ok-action.action a (here c) e

small : (c : In_ok-action) → (get_or c.args.self.now.rows c.args.thread c.index-self-thread.result).window.next < 64
small c = place-small c.args.case.now c.args.thread _ _ (here c)

-- ── A plain read ──
pub returns-then-sees-seen : goal.returns-then-sees-seen
returns-then-sees-seen c =
    let v = (goal.at.returns-then-sees-seen c).In_ok-action in
    let cs = threads c.args.case.now in
    let m = c.args.self.now in
    let t = c.args.thread in
    let d = c.index-self-thread.result in
    let a = c.in-Read in
    let o = ap (perform t (state v)) (next v _ a.is)
    ∙ read-other t (state v) (rest v) a.name a.location a.seen (λ q. c.if-sees-seen.true (c.sees.ensures ∙ ap (λ b. sees a.location b ((state v).memory a.location)) (sym (buffer_is cs m t (omega arith) d)) ∙ q)) in
    record { answer = sym (ap answer o); after = stays cs m t (omega arith) d _ refl _ refl _ 25 o; kept = unchanged cs m t (omega arith) d _ refl _ refl }

pub returns-else-sees-seen : goal.returns-else-sees-seen
returns-else-sees-seen c =
    let v = (goal.at.returns-else-sees-seen c).In_ok-action in
    let cs = threads c.args.case.now in
    let m = c.args.self.now in
    let t = c.args.thread in
    let d = c.index-self-thread.result in
    let a = c.in-Read in
    let e = next v _ a.is in
    let o = ap (perform t (state v)) e
    ∙ read-seen t (state v) (rest v) a.name a.location a.seen (ap (λ b. sees a.location b ((state v).memory a.location)) (buffer_is cs m t (omega arith) d) ∙ sym c.sees.ensures ∙ c.if-sees-seen.false) in
    record {
      answer = sym (ap answer o);
      after = passed cs m t (omega arith) d _ (c.pass.ensures.next (small v)) _ _ e c.pass.ensures.from c.pass.ensures.upto refl _ _ _ refl refl ∙ sym (ap (moved (state v)) o);
      kept = tt;
    }

-- ── A plain write ──
pub returns-in-Write : goal.returns-in-Write
returns-in-Write c =
    let v = (goal.at.returns-in-Write c).In_ok-action in
    let cs = threads c.args.case.now in
    let m = c.args.self.now in
    let t = c.args.thread in
    let d = c.index-self-thread.result in
    let e = next v _ c.in-Write.is in
    let o = ap (perform t (state v)) e in
    let n = ap name_of (sym c.in-Write.is) ∙ name_at_lem (records_of c.args.case.now) t _ _ (omega arith) (here v) in
    record {
      answer = sym (ap answer o);
      after = joined cs m t (omega arith) d _ (c.join.ensures.next (small v)) _ _ e _ _ n (c.join.ensures.waiting (small v)) ∙ sym (ap (moved (state v)) o);
      kept = tt;
    }

-- ── A synchronization action ──
empty_is : (c : In_ok-action) (ws : List PendingWrite) → ws ≡ window (get_or c.args.self.now.rows c.args.thread c.index-self-thread.result) → (b : Bool) → b ≡ eqb (length ws) 0
    → isNil ((state c).buffer c.args.thread) ≡ b
empty_is c = nil_is (threads c.args.case.now) c.args.self.now c.args.thread (omega arith) c.index-self-thread.result

pub returns-then-not-is_empty : goal.returns-then-not-is_empty
returns-then-not-is_empty c =
    let v = (goal.at.returns-then-not-is_empty c).In_ok-action in
    let cs = threads c.args.case.now in
    let m = c.args.self.now in
    let t = c.args.thread in
    let d = c.index-self-thread.result in
    let a = c.in-Sync in
    let o = ap (perform t (state v)) (next v _ a.is) ∙ sync_waits t (state v) (rest v) a.name a.turn a.op (empty_is v _ c.waiting.ensures _ c.if-not-is_empty.ensures) in
    record { answer = sym (ap answer o); after = stays cs m t (omega arith) d _ refl _ refl _ 23 o; kept = unchanged cs m t (omega arith) d _ refl _ refl }

pub returns-in_err-synchronize-in-Sync : goal.returns-in_err-synchronize-in-Sync
returns-in_err-synchronize-in-Sync c =
    let v = (goal.at.returns-in_err-synchronize-in-Sync c).In_ok-action in
    let cs = threads c.args.case.now in
    let m = c.args.self.now in
    let t = c.args.thread in
    let d = c.index-self-thread.result in
    let a = c.in-Sync in
    let f = c.in_err-synchronize-in-Sync in
    let back = c.from_residual-in_err-synchronize-in-Sync in
    let o = ap (perform t (state v)) (next v _ a.is)
    ∙ sync-out t (state v) (rest v) a.name a.turn a.op (empty_is v _ c.waiting.ensures _ c.if-not-is_empty.ensures) f.field-0.0 (sym f.was ∙ c.synchronize.ensures.answer) in
    let p = err_from_is_err_and back.result back.ensures.1 in
    record {
      answer = ap (told run_number) (p.1 ∙ ap (λ y. Err y) p.2) ∙ sym (ap answer o);
      after = stays cs m t (omega arith) d _ refl _ f.ensures.kept _ _ o;
      kept = MatchResult-from_err back.result _ _ back.ensures.0 (λ _. unchanged cs m t (omega arith) d _ refl _ f.ensures.kept);
    }

pub returns-in_ok-synchronize-in-Sync : goal.returns-in_ok-synchronize-in-Sync
returns-in_ok-synchronize-in-Sync c =
    let v = (goal.at.returns-in_ok-synchronize-in-Sync c).In_ok-action in
    let cs = threads c.args.case.now in
    let m = c.args.self.now in
    let t = c.args.thread in
    let d = c.index-self-thread.result in
    let a = c.in-Sync in
    let e = next v _ a.is in
    let o = ap (perform t (state v)) e
    ∙ sync-in t (state v) (rest v) a.name a.turn a.op (empty_is v _ c.waiting.ensures _ c.if-not-is_empty.ensures) (sym c.in_ok-synchronize-in-Sync.was ∙ c.synchronize.ensures.answer) in
    record {
      answer = sym (ap answer o);
      after =
          passed cs m t (omega arith) d _ (c.pass-in-Sync.ensures.next (small v)) _ _ e c.pass-in-Sync.ensures.from c.pass-in-Sync.ensures.upto refl _ _ _ c.in_ok-synchronize-in-Sync.ensures.writes c.in_ok-synchronize-in-Sync.ensures.turns
          ∙ sym (ap (moved (state v)) o);
      kept = tt;
    }
