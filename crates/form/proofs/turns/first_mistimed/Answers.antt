-- The two loops of rule 15: over the records, and over those before each.
use Rattle.std.proofs.Common.{◌≡◌, ℕ, ◌<◌, ◌≤◌, List, length, get_or, take, sym, ap, ◌∙◌, arith}
use Rattle.std.proofs.lemmas.Bool.{and_from, and_right, or_from, or_left, or_right, lt-ltb, le-ltb}
use Rattle.std.proofs.lemmas.List.{get_or-take, length-take-le}
use Rattle.records.specs.declared.Record.{Record}
use Rattle.records.specs.Names.{blank, at}
use Rattle.records.proofs.Firsts.{clear-more, first_some, first-none, some-found, some-none}
use Rattle.form.specs.Rules.{capitals, clashes}
use Rattle.form.proofs.turns.first_mistimed.Goals as goal

-- the record at j of the k earlier ones is the record at j
before : (xs : List Record) (k j : ℕ) → k < length xs → j < length (take k xs) → j < k
before xs k j l m = omega (arith, length-take-le k xs)

clashes-at : (xs : List Record) (k j : ℕ) → j < k → clashes (at xs k) (get_or (take k xs) j blank) ≡ clashes (at xs k) (at xs j)
clashes-at xs k j l = ap (clashes (at xs k)) (get_or-take k xs j blank l)

pub loop-y-preserved : goal.loop-y-preserved
loop-y-preserved c =
    let xs = c.args.records.now in
    let j = before xs c.records.k c.loop-y.y-index c.records-test.true c.loop-y-test.true in (
      clear-more _ _ c.loop-y.invariant.0 (sym c.if-clash.false ∙ c.clash.ensures ∙ clashes-at xs c.records.k c.loop-y.y-index j),
      c.loop-y.invariant.1,
    )

pub records-preserved : goal.records-preserved
records-preserved c =
    let low : (at c.args.records.now c.records.k).turn ≤ capitals c.args.records.now = omega (arith, c.if-x-capitals.false, c.count_capitals-capitals.ensures) in (
      clear-more _ _ c.records.invariant.0
          (sym (and_right _ _ (or_from _ _ (le-ltb _ _ low) (sym (some-none _ _ _ (omega (arith, length-take-le c.records.k c.args.records.now)) c.loop-y.invariant.0))))),
      c.loop-y.invariant.1,
    )

pub returns-after-records : goal.returns-after-records
returns-after-records c = c.records.invariant.1 ∙ first-none _ _ _ c.records-test.false c.records.invariant.0

pub returns-then-x-capitals : goal.returns-then-x-capitals
returns-then-x-capitals c =
    let high : capitals c.args.records.now < (at c.args.records.now c.records.k).turn = omega (arith, c.if-x-capitals.true, c.count_capitals-capitals.ensures) in
    first_some _ _ _ c.records-test.true
    (sym (and_from _ _ (sym c.if-not-is_capital.ensures) (or_left _ _ (lt-ltb _ _ high))))
    c.records.invariant.0

pub returns-then-clash : goal.returns-then-clash
returns-then-clash c =
    let xs = c.args.records.now in
    let j = before xs c.records.k c.loop-y.y-index c.records-test.true c.loop-y-test.true in
    first_some _ _ _ c.records-test.true
    (sym (and_from _ _ (sym c.if-not-is_capital.ensures)
    (or_right _ _ (sym (some-found _ _ _ j (sym c.if-clash.true ∙ c.clash.ensures ∙ clashes-at xs c.records.k c.loop-y.y-index j) c.loop-y.invariant.0)))))
    c.records.invariant.0
