use Rattle.std.proofs.Common.{◌≡◌, ◌+◌, ◌-◌, ◌<◌, eqb, length, get_or, take, drop, sym, ap, ◌∙◌, arith, length-drop}
use Rattle.std.proofs.lemmas.List.{length-take-le}
use Rattle.std.proofs.lemmas.List.Sums.{count_by-le-length}
use Rattle.std.proofs.lemmas.Bool.Decides.{nat_tests}
use Rattle.text.specs.Csv.{comma, cr, lf, lines}
use Rattle.text.proofs.Scans.{free_more, count_yes, count_no, rest_of_lem, behind_at, rest_behind, lines_at, line-found, line_lf, line_open, cr_broken}
use Rattle.text.proofs.Splits.{length-split}
use Rattle.text.proofs.line.Line.first.Goals as goal
use Rattle.text.proofs.line.Line.first.Goals.{in-44, in_default, in_default-2-via-then-text-i-lt2, in_default-2-via-else-text-i-lt2+in-13+in_default-1, in_default-2-via-else-text-i-lt2+in_default-1}

pub overflow_add-fields : goal.overflow_add-fields
overflow_add-fields c =
    record { fits = omega (arith, count_by-le-length (λ x. eqb x comma) (take c.loop-i.i c.args.text.now), length-take-le c.loop-i.i c.args.text.now (omega arith)) }

pub returns-in-10 : goal.returns-in-10
returns-in-10 c = record { value = sym (line_lf c.args.text.now c.loop-i.i c.loop-i.invariant.0 c.loop-i.invariant.1 c.loop-i-test.true c.in-10.is); off = tt }

pub returns-in-13 : goal.returns-in-13
returns-in-13 c =
    let s = c.args.text.now in let i = c.loop-i.i in let behind = take (length s - i) (drop i s) in
    let is : behind ≡ drop i s = rest_of_lem s i in
    let second : get_or behind 1 0 ≡ 10 = grind (arith, nat_tests) in
    let follows : get_or s (i + 1) 0 ≡ 10 = sym (behind_at s behind i 1 (i + 1) is (omega arith)) ∙ second in
    let more : i + 1 < length s = omega (arith, c.in-13-2.len_at_least, ap length is, length-drop i s) in
    let rest = rest_behind s behind i is in
    record {
      value = sym (line-found s i c.loop-i.invariant.0 c.loop-i.invariant.1 more c.in-13.is follows);
      off =
          record {
            count = c.loop-i.invariant.2 ∙ sym (length-split comma (take i s));
            after = ap lines rest ∙ sym (ap (drop 1) (lines_at s i c.loop-i.invariant.0 c.loop-i.invariant.1 more c.in-13.is follows));
            less = omega (arith, ap length rest, length-drop (i + 2) s);
          };
    }

pub returns-in_default-2 : goal.returns-in_default-2
returns-in_default-2 c =
    let s = c.args.text.now in let i = c.loop-i.i in let behind = take (length s - i) (drop i s) in
    let is : behind ≡ drop i s = rest_of_lem s i in
    record {
      value = sym (cr_broken s i c.loop-i.invariant.0 c.loop-i.invariant.1 c.in-13.is c.loop-i-test.true (λ more follows.
          let first : get_or behind 0 0 ≡ 13 = behind_at s behind i 0 i is (omega arith) ∙ c.in-13.is in
          let second : get_or behind 1 0 ≡ 10 = behind_at s behind i 1 (i + 1) is (omega arith) ∙ follows in
          let two : 1 < length behind = omega (arith, ap length is, length-drop i s) in
          elim c.in_default-2.branch [
            | in_default-2-via-then-text-i-lt2 w ↦ absurd (grind (arith, nat_tests))
            | in_default-2-via-else-text-i-lt2+in-13+in_default-1 w ↦ absurd (grind (arith, nat_tests))
            | in_default-2-via-else-text-i-lt2+in_default-1 w ↦ absurd (grind (arith, nat_tests))
          ]));
      off = tt;
    }

pub loop-i-preserved : goal.loop-i-preserved
loop-i-preserved c =
    let s = c.args.text.now in let i = c.loop-i.i in let l = c.loop-i-test.true in
    elim c.match-b.branch [
      | in-44 w ↦ (free_more s i l cr c.loop-i.invariant.0 (λ e. omega (arith, w.in-44.is)), free_more s i l lf c.loop-i.invariant.1 (λ e. omega (arith, w.in-44.is)), w.fields-is ∙ count_yes s i l comma c.loop-i.fields c.loop-i.invariant.2 w.in-44.is)
      | in_default w ↦ (free_more s i l cr c.loop-i.invariant.0 (λ e. omega arith), free_more s i l lf c.loop-i.invariant.1 (λ e. omega arith), w.fields-is ∙ count_no s i l comma c.loop-i.fields c.loop-i.invariant.2 (λ e. omega arith))
    ]

pub returns : goal.returns
returns c = record { value = sym (line_open c.args.text.now c.loop-i.i c.loop-i.invariant.0 c.loop-i.invariant.1 c.loop-i-test.false); off = tt }
