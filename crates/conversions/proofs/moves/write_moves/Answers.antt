use Rattle.std.proofs.Common.{◌≡◌, ◌-◌, refl, ap, arith}
use Rattle.records.specs.Names.{thread}
use Rattle.case.specs.Cases.{threads}
use Rattle.conversions.specs.Along.{start, moves_along, moves_from}
use Rattle.conversions.proofs.Sheets.{leads-same, leads-all}
use Rattle.conversions.proofs.Loops.{thread-room, thread-more}
use Rattle.conversions.proofs.moves.write_moves.Goals as goal

pub moves_of_thread-requires : goal.moves_of_thread-requires
moves_of_thread-requires c =
    let cs = threads c.args.case.now in
    let run = c.args.run.now in
    record {
      room = thread-room (moves_from cs run) (λ t. moves_along (thread cs t) t run start) (λ d t. refl) c.args.sheet.now c.requires.room
          c.loop-thread.thread _ c.loop-thread-test.true c.loop-thread.invariant;
    }

pub loop-thread-preserved : goal.loop-thread-preserved
loop-thread-preserved c =
    let cs = threads c.args.case.now in
    let run = c.args.run.now in
    thread-more (moves_from cs run) (λ t. moves_along (thread cs t) t run start) (λ d t. refl) c.args.sheet.now c.requires.room
    c.loop-thread.thread _ c.loop-thread-test.true c.loop-thread.invariant _ c.moves_of_thread.ensures.list

pub returns : goal.returns
returns c =
    let cs = threads c.args.case.now in
    let run = c.args.run.now in
    let whole = moves_from cs run 8 0 in
    let z : 8 - c.loop-thread.thread ≡ 0 = omega arith in
    record {
      list = leads-all c.args.sheet.now whole c.loop-thread.sheet
          (leads-same c.args.sheet.now whole c.loop-thread.sheet (ap (λ n. moves_from cs run n c.loop-thread.thread) z) c.loop-thread.invariant);
    }
