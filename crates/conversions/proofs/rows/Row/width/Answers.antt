use Rattle.std.proofs.Common.{◌^◌, ◌+◌, ap, arith, rules, tests}
use Rattle.std.proofs.iter.runs.Made.{chains}
use Rattle.std.proofs.lemmas.Iterator.{YieldsList-from_slice, YieldsList-from_map}
use Rattle.std.proofs.lemmas.Iterator.Consumers.{fits_from_yields_list}
use Rattle.conversions.specs.declared.hosts.Host.{Host}
use Rattle.conversions.specs.Hosts.{width}
use Rattle.conversions.proofs.Staying.{width-sum}
use Rattle.conversions.proofs.rows.Row.width.Goals as goal

pub sum-requires-clause-fits : goal.sum-requires-clause-fits
sum-requires-clause-fits c =
    let w = width-sum c.waiting.result.now in
    let e = ap width c.waiting.ensures in
    let k = c.args.self.now.counted in
    let n = c.args.self.now.window.within in
    fits_from_yields_list c.map.result (2 ^ 64)
    (YieldsList-from_map _ (λ (h : Host). h.joined + 1) (YieldsList-from_slice c.waiting.result.now cc) c.map.ensures.closure (λ x r q k. search (rules, tests)))
    (omega arith)

pub returns : goal.returns
returns c =
    let w = width-sum c.waiting.result.now in
    let e = ap width c.waiting.ensures in
    search (rules, chains)
