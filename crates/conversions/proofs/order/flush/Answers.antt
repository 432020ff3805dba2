use Rattle.std.proofs.Common.{◌≡◌, ◌-◌, replicate, sym, refl, ap, subst, arith}
use Rattle.conversions.specs.Hosts.{width}
use Rattle.conversions.specs.Along.{come_of, flushed_from}
use Rattle.conversions.specs.Rows.{owns}
use Rattle.conversions.specs.Sheets.{Adds, Room}
use Rattle.conversions.proofs.Sheets.{leads-same, leads-all}
use Rattle.conversions.proofs.Loops.{thread-room, thread-more}
use Rattle.conversions.proofs.Owned.{all-come}
use Rattle.conversions.proofs.order.flush.Goals as goal

pub repeat-requires : goal.repeat-requires
repeat-requires c =
    let f = owns c.args.rows.now in
    let t = c.loop-thread.thread in
    let e = all-come c.args.rows.now t c.index-rows-thread.result _ _ (omega arith) c.width.ensures c.from.ensures in
    record {
      room = subst (λ l. Room l c.loop-thread.sheet) e
          (thread-room (λ d u. flushed_from d u f) (λ u. replicate (width (f u).hosts) (come_of u)) (λ d u. refl) c.args.sheet.now c.requires.room
          t _ c.loop-thread-test.true c.loop-thread.invariant);
    }

pub loop-thread-preserved : goal.loop-thread-preserved
loop-thread-preserved c =
    let f = owns c.args.rows.now in
    let t = c.loop-thread.thread in
    let e = all-come c.args.rows.now t c.index-rows-thread.result _ _ (omega arith) c.width.ensures c.from.ensures in
    thread-more (λ d u. flushed_from d u f) (λ u. replicate (width (f u).hosts) (come_of u)) (λ d u. refl) c.args.sheet.now c.requires.room
    t _ c.loop-thread-test.true c.loop-thread.invariant c.repeat.new.self
    (subst (λ l. Adds l c.loop-thread.sheet c.repeat.new.self) (sym e) c.repeat.ensures.list)

pub returns : goal.returns
returns c =
    let f = owns c.args.rows.now in
    let whole = flushed_from 8 0 f in
    let z : 8 - c.loop-thread.thread ≡ 0 = omega arith in
    record {
      list = leads-all c.args.sheet.now whole c.loop-thread.sheet
          (leads-same c.args.sheet.now whole c.loop-thread.sheet (ap (λ n. flushed_from n c.loop-thread.thread f) z) c.loop-thread.invariant);
    }
