use Rattle.std.proofs.Common.{◌≡◌, ℕ, ◌+◌, ◌<◌, length, get_or}
use Rattle.records.specs.Names.{below}
use Rattle.form.proofs.grouping.Grouped.layout.Given as goal

abbrev pub invariant-loop-t : goal.invariant-loop-t
invariant-loop-t l = (length l.starts ≡ 9) × ((u : ℕ) → u < l.t + 1 → get_or l.starts u 0 ≡ below u l.self.records.now)
