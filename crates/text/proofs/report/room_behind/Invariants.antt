use Rattle.std.proofs.Common.{◌≡◌, ◌+◌, ◌-◌, length, take}
use Rattle.text.proofs.Joined.{widths}
use Rattle.text.proofs.report.room_behind.Given as goal

-- what is left behind the ends, the header, the commas and the fields so far
abbrev pub invariant-loop-cell : goal.invariant-loop-cell
invariant-loop-cell l = l.left + widths (take l.cell-index l.row) + (length l.row - 1) + length l.header + 4 ≡ l.room
