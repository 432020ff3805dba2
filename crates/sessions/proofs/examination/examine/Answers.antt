use Rattle.std.proofs.Common.{◌≡◌, take, take_all}
use Rattle.std.proofs.lemmas.List.{take_more}
use Rattle.std.proofs.lemmas.Result.{err_from_is_err_and}
use Rattle.records.specs.declared.Item.{Item}
use Rattle.sessions.proofs.Examinations.{Midway, midway_more, ends-settled, ends-refused, not_opened}
use Rattle.sessions.proofs.examination.examine.Goals as goal

pub returns-in_err-ticket-clause-examines : goal.returns-in_err-ticket-clause-examines
returns-in_err-ticket-clause-examines g c =
    let p = err_from_is_err_and c.from_residual.result c.from_residual.ensures.1 in
    rw (p.1, p.2) (not_opened g.K.Evidence c.args.docket.now c.open.new.self c.args.items.now _ c.in_err-ticket.ensures.heeds)

pub returns-in-Err-clause-examines : goal.returns-in-Err-clause-examines
returns-in-Err-clause-examines g c =
    let offered = c.in-Err.ensures in
    let withdrawn = rw c.unwrap.ensures at c.withdraw.ensures.heeds in
    ends-refused g.K.Evidence c.args.docket.now c.open.new.self c.in_ok-ticket.ticket.name c.in_ok-ticket.ensures.heeds c.args.items.now c.loop-item.docket c.offer.new.self c.withdraw.new.self c.loop-item.item-index _ _ _ c.loop-item-test.true c.loop-item.invariant offered.heeds offered.kept withdrawn

pub loop-item-preserved : goal.loop-item-preserved
loop-item-preserved g c =
    let offered = c.in_default.ensures in
    rw (take_more {X = Item} c.args.items.now c.loop-item.item-index (record { letter = 0; thread = 0; place = 0; count = 0 }) c.loop-item-test.true)
    (midway_more g.K.Evidence c.open.new.self c.loop-item.docket c.offer.new.self c.in_ok-ticket.ticket.name _ _ c.loop-item.invariant offered.heeds offered.counts)

pub returns-clause-examines : goal.returns-clause-examines
returns-clause-examines g c =
    let k = g.K.Evidence in
    let items = c.args.items.now in
    let all : take c.loop-item.item-index items ≡ items = take_all c.loop-item.item-index items c.loop-item-test.false in
    let so : Midway k c.open.new.self c.loop-item.docket c.in_ok-ticket.ticket.name items = rw all at c.loop-item.invariant in
    let settled = rw c.unwrap-2.ensures at c.settle.ensures.heeds in
    ends-settled k c.args.docket.now c.open.new.self c.in_ok-ticket.ticket.name c.in_ok-ticket.ensures.heeds items c.loop-item.docket c.settle.new.self _ so settled
