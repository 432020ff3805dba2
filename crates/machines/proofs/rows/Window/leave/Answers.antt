use Rattle.std.proofs.Common.{sym, ap, arith}
use Rattle.machines.specs.Windows.{oldest, younger}
use Rattle.machines.proofs.Windows.{window-less}
use Rattle.machines.proofs.rows.Window.leave.Goals as goal

pub returns-clause-value : goal.returns-clause-value
returns-clause-value g c =
    let w = c.args.self.now in
    sym (ap oldest (window-less c.args.table.now w.from w.upto c.index-table-self.result (omega arith) (omega arith)))

pub returns-clause-waiting : goal.returns-clause-waiting
returns-clause-waiting g c =
    let w = c.args.self.now in
    sym (ap younger (window-less c.args.table.now w.from w.upto c.index-table-self.result (omega arith) (omega arith)))
