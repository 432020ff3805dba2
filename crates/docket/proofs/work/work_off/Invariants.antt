use Rattle.std.proofs.Common.{take}
use Rattle.docket.proofs.Desks.{WorkedOff}
use Rattle.docket.proofs.work.work_off.Given as goal

abbrev pub invariant-loop-i : goal.invariant-loop-i
invariant-loop-i g l = WorkedOff g.K.Evidence g.K.Fault.ItemFault.number l.initial.docket l.initial.held (take l.i l.calls) l.initial.answers l.answers l.docket l.held
