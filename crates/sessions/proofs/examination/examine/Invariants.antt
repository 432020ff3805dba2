use Rattle.std.proofs.Common.{take}
use Rattle.sessions.proofs.Examinations.{Midway}
use Rattle.sessions.proofs.examination.examine.Given as goal

-- the examination is open, and the items so far are taken in it
abbrev pub invariant-loop-item : goal.invariant-loop-item
invariant-loop-item g l = Midway g.K.Evidence l.initial.docket l.docket l.ticket.name (take l.item-index l.items)
