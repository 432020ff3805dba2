use Rattle.std.proofs.Common.{arith}
use Rattle.machines.proofs.Tables.{memory-fresh}
use Rattle.machines.proofs.memory.Memory.fresh.Goals as goal

pub returns-clause-writes : goal.returns-clause-writes
returns-clause-writes c = memory-fresh c.loop-location.write-items (λ k l. c.loop-location.invariant k (omega arith))
