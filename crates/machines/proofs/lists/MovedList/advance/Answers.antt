use Rattle.std.proofs.Common.{◌≡◌, ◌+◌, ◌-◌, length, refl, ap, ◌∙◌, arith}
use borrow.Rule.Slice.PartMut.{put_mid}
use Rattle.machines.specs.Moves.{shift}
use Rattle.machines.proofs.Shifts.{length_shift, rotated}
use Rattle.machines.proofs.lists.MovedList.advance.Goals as goal
use Rattle.machines.proofs.lists.MovedList.advance.Goals.{After-rotate_right}

made : (c : After-rotate_right) → put_mid c.args.at (c.args.last + 1 - c.args.at) c.args.self.now.places c.rotate_right.new.self ≡ shift c.args.at (c.args.last - c.args.at - 1) c.args.self.now.places
made c = rotated c.args.at c.args.last c.args.self.now.places c.rotate_right.new.self c.requires.ordered (omega (arith, c.args.self.now.full)) c.rotate_right.ensures.after

pub invariant_of-self : goal.invariant_of-self
invariant_of-self c =
    let list = c.args.self.now in
    record {
      within = list.within;
      full = ap length (made c) ∙ length_shift c.args.at (c.args.last - c.args.at - 1) list.places (omega (arith, c.requires.ordered, list.full)) ∙ list.full;
    }

pub returns : goal.returns
returns c = record { next = refl; places = made (goal.at.returns c).After-rotate_right }
