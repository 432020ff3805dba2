-- What a record's letter makes of it: one case a letter.
use Rattle.std.specs.Prelude.{ℕ, ◌<◌, cond, Some, None, Option, ◌==◌}
use Rattle.records.specs.declared.Record.{Record}
use Rattle.records.specs.declared.action.Action.{Action}
use Rattle.records.specs.declared.action.Action.TheVariants.{Read, Write, Sync}
use Rattle.records.specs.declared.action.SyncOp.{SyncOp}
use Rattle.records.specs.declared.action.SyncOp.TheVariants.{VolatileRead, VolatileWrite, Lock, Unlock, Spawn, Join, Begin, End}
use Rattle.records.specs.Letters.{letter}

-- the action of a record under a name; none where its letter is no letter of a case
abbrev pub action_of : ℕ → Record → Option Action
action_of n r =
    cond (r.letter == (letter "r")) (Some (Read n r.target r.seen))
    (cond (r.letter == (letter "w")) (Some (Write n r.target))
    (cond (r.letter == (letter "R")) (Some (Sync n r.turn (VolatileRead r.target r.seen)))
    (cond (r.letter == (letter "W")) (Some (Sync n r.turn (VolatileWrite r.target)))
    (cond (r.letter == (letter "L")) (Some (Sync n r.turn (Lock r.target)))
    (cond (r.letter == (letter "U")) (Some (Sync n r.turn (Unlock r.target)))
    (cond (r.letter == (letter "S")) (Some (Sync n r.turn (Spawn r.target)))
    (cond (r.letter == (letter "J")) (Some (Sync n r.turn (Join r.target)))
    (cond (r.letter == (letter "B")) (Some (Sync n r.turn Begin))
    (cond (r.letter == (letter "E")) (Some (Sync n r.turn End)) None)))))))))

abbrev pub name_of : Action → ℕ
name_of (Read n x s) = n
name_of (Write n x) = n
name_of (Sync n k o) = n

-- where the action accesses memory, the location is one of the 64
abbrev pub LocatedOp : SyncOp → Type 0
LocatedOp (VolatileRead x s) = x < 64
LocatedOp (VolatileWrite x) = x < 64
LocatedOp (Lock m) = Unit {0}
LocatedOp (Unlock m) = Unit {0}
LocatedOp (Spawn t) = Unit {0}
LocatedOp (Join t) = Unit {0}
LocatedOp Begin = Unit {0}
LocatedOp End = Unit {0}

abbrev pub Located : Action → Type 0
Located (Read n x s) = x < 64
Located (Write n x) = x < 64
Located (Sync n k o) = LocatedOp o
