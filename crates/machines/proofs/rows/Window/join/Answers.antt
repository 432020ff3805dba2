use Rattle.std.proofs.Common.{◌+◌, set, ◌∙◌, arith}
use Rattle.std.specs.List.{between}
use Rattle.machines.proofs.Windows.{window_more}
use Rattle.machines.proofs.rows.Window.join.Goals as goal

pub returns-clause-waiting : goal.returns-clause-waiting
returns-clause-waiting g c _ =
    let w = c.args.self.now in
    (λ i. between (c.pass.ensures.from i) (c.pass.ensures.upto i + 1) (set c.args.table.now w.upto c.args.entry)) ∙ window_more c.args.table.now w.from w.upto c.args.entry (omega arith) (omega arith)
