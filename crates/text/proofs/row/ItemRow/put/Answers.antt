use Rattle.std.proofs.Common.{ℕ, subst, arith, length-append}
use Rattle.text.specs.Writing.{Wrote}
use Rattle.text.proofs.Columns.{wrote-then}
use Rattle.text.proofs.Texts.{item-length, item-text}
use Rattle.text.proofs.row.ItemRow.put.Goals as goal

-- one piece behind the other
pub returns : goal.returns
returns c =
    let n = item-length c.args.self.now in
    let w1 = wrote-then c.letter_cell.ensures.wrote c.number_cell.ensures.wrote (omega (arith, length-append {A = ℕ})) in
    let w2 = wrote-then w1 c.number_cell-2.ensures.wrote (omega (arith, length-append {A = ℕ})) in
    let w3 = wrote-then w2 c.number_cell-3.ensures.wrote (omega (arith, length-append {A = ℕ})) in
    let w = wrote-then w3 c.byte.ensures.wrote (omega (arith, length-append {A = ℕ})) in
    record { wrote = subst (Wrote c.args.text.now c.byte.new.self) (item-text c.args.self.now) w }
