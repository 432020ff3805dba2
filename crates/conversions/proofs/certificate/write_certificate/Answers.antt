use Rattle.std.proofs.Common.{◌≤◌, sym, subst, arith, rules}
use Rattle.case.specs.Cases.{records_of}
use Rattle.conversions.specs.Sheets.{Adds}
use Rattle.conversions.proofs.Sheets.{room_front, room_behind, adds_both}
use Rattle.conversions.proofs.Whole.{moves, order, written-along, written-moves, written-few, written-fits}
use Rattle.conversions.proofs.certificate.write_certificate.Goals as goal

pub write_moves-requires : goal.write_moves-requires
write_moves-requires c =
    let k = c.args.case.now in
    let is = c.args.run.now in
    let done = c.requires.complete in
    let fits = written-fits k is done c.args.out.now c.new-sheet.result c.requires.room c.new-sheet.ensures.items c.new-sheet.ensures.at in
    record { room = room_front (moves k is done) (order k is done) c.new-sheet.result fits }

pub write_order-requires : goal.write_order-requires
write_order-requires c =
    let k = c.args.case.now in
    let is = c.args.run.now in
    let done = c.requires.complete in
    let fits = written-fits k is done c.args.out.now c.new-sheet.result c.requires.room c.new-sheet.ensures.items c.new-sheet.ensures.at in
    record { room = room_behind (moves k is done) (order k is done) c.new-sheet.result c.write_moves.new.sheet fits c.write_moves.ensures.list }

pub overflow_cast-result : goal.overflow_cast-result
overflow_cast-result c =
    let few = written-few c.args.case.now c.args.run.now c.requires.complete in
    let m = c.write_moves.ensures.list.upto in
    let o = c.write_order.ensures.list.upto in
    let n : c.len-items.result ≤ 4352 = omega arith in
    search rules

pub overflow_cast-result-2 : goal.overflow_cast-result-2
overflow_cast-result-2 c =
    let few = written-few c.args.case.now c.args.run.now c.requires.complete in
    let m = c.write_moves.ensures.list.upto in
    let n : c.len-moves.result ≤ 4352 = omega arith in
    search rules

pub returns : goal.returns
returns c =
    let k = c.args.case.now in
    let is = c.args.run.now in
    let done = c.requires.complete in
    let fits = written-fits k is done c.args.out.now c.new-sheet.result c.requires.room c.new-sheet.ensures.items c.new-sheet.ensures.at in
    let whole = subst (λ l. Adds l c.new-sheet.result c.write_order.new.sheet) (sym (written-along (records_of k) is done))
    (adds_both (moves k is done) (order k is done) c.new-sheet.result c.write_moves.new.sheet c.write_order.new.sheet fits
    c.write_moves.ensures.list c.write_order.ensures.list) in
    let m = c.write_moves.ensures.list.upto in
    let n = whole.upto in
    record { list = search rules; items = omega arith; moves = omega (arith, written-moves (records_of k) is done) }
