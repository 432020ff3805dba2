use Rattle.std.proofs.Common.{◌≡◌, ℕ, ◌<◌, get_or}
use Rattle.records.specs.Names.{default}
use Rattle.machines.proofs.memory.Memory.fresh.Given as goal

abbrev pub invariant-loop-location : goal.invariant-loop-location
invariant-loop-location l = (k : ℕ) → k < l.location → get_or l.write-items k 0 ≡ default k
