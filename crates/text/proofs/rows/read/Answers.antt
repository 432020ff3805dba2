use Rattle.std.proofs.Common.{◌≡◌, true, drop, sym, ap, ◌∙◌, arith}
use Rattle.std.proofs.lemmas.Result.{err_from_is_err_and}
use Rattle.std.specs.Str.{bytes_eq}
use Rattle.text.specs.declared.line.Lines.{Lines}
use Rattle.text.specs.Csv.{lines, first_line}
use Rattle.text.specs.Reading.{cells_of}
use Rattle.text.proofs.Reader.{started, one_more, at-end, at_broken, at_miscounted, at-overfull, at_refused, reads_whole}
use Rattle.text.proofs.RoundTrip.{made, most-rows}
use Rattle.text.proofs.rows.read.Goals as goal

pub loop-next-init : goal.loop-next-init
loop-next-init g c =
    let first = rw (c.in-Some-Some.is, c.in-Some-Some.field-0-is) at c.next.ensures.steps in
    let same : bytes_eq c.in-Some-Some.first.body.now g.R.Row.sheet.header ≡ true = ap (bytes_eq c.in-Some-Some.first.body.now) (sym c.header.ensures.value) ∙ sym c.eq.ensures ∙ c.if-eq.true in
    let after = ap (λ (l : Lines). lines l.rest.now) c.into_iter-next-iterator.ensures.into_iter_gives ∙ first.2.1 ∙ ap (λ t. drop 1 (lines t)) c.of-lines.ensures.rest in
    (tt, tt, started g.R.Row.sheet g.R.Row.cells g.R.Row.row c.args.text.now c.args.rows.now _ c.in-Some-Some.first.body.now c.if-text-gt-MOST_BYTES.false (ap (λ t. first_line (lines t)) (sym c.of-lines.ensures.rest) ∙ sym first.1) same after)

pub overflow_add-line : goal.overflow_add-line
overflow_add-line g c = record { fits = omega (arith, c.loop-next.invariant.2.few, most-rows g.R.Row.sheet (made g.R.Row.sheet g.met.R.Row.made)) }

-- a line with another number of fields
pub returns-in_default-next : goal.returns-in_default-next
returns-in_default-next g c =
    let next = rw c.in-Some-next.is at c.in-Some.ensures.steps in
    let p = at_miscounted g.met.R.Row.back c.loop-next.auto.rows c.loop-next.invariant.2 c.in-Some-next.next.body.now (sym next.1) (λ e. c.if-next-columns.false (next.2.0 ∙ e ∙ sym c.columns.ensures.value)) in
    record { answer = p.0; after = p.1; whole = tt }

-- a line that is not ended by CR LF
pub returns-in_default-next-2 : goal.returns-in_default-next-2
returns-in_default-next-2 g c =
    let next = rw c.in_default-next.is at c.in-Some.ensures.steps in
    let p = at_broken g.met.R.Row.back c.loop-next.auto.rows c.loop-next.invariant.2 next.0 (sym next.1) in
    record { answer = p.0; after = p.1; whole = tt }

pub returns-then-count-room : goal.returns-then-count-room
returns-then-count-room g c =
    let next = rw c.in-Some-next.is at c.in-Some.ensures.steps in
    let p = at-overfull g.met.R.Row.back c.loop-next.auto.rows c.loop-next.invariant.2 c.in-Some-next.next.body.now (sym next.1) (sym next.2.0 ∙ c.if-next-columns.true ∙ c.columns.ensures.value) (omega (arith, c.most.ensures.value)) in
    record { answer = p.0; after = p.1; whole = tt }

pub returns-in_err-rows : goal.returns-in_err-rows
returns-in_err-rows g c =
    let next = rw c.in-Some-next.is at c.in-Some.ensures.steps in
    let cells = c.in_err-rows.ensures.value ∙ (λ i. cells_of (c.of.ensures.line i) g.R.Row.sheet.columns (c.of.ensures.fields i)) in
    let p = at_refused g.met.R.Row.back c.loop-next.auto.rows c.loop-next.invariant.2 c.in-Some-next.next.body.now (sym next.1) (sym next.2.0 ∙ c.if-next-columns.true ∙ c.columns.ensures.value) (λ e. c.if-count-room.false (omega (arith, c.most.ensures.value))) _ cells in
    let q = err_from_is_err_and c.from_residual.result c.from_residual.ensures.1 in
    rw (q.1, q.2) (record { answer = p.0; after = p.1; whole = tt })

pub loop-next-preserved : goal.loop-next-preserved
loop-next-preserved g c =
    let next = rw c.in-Some-next.is at c.in-Some.ensures.steps in
    let cells = c.in_ok-rows.ensures.value ∙ (λ i. cells_of (c.of.ensures.line i) g.R.Row.sheet.columns (c.of.ensures.fields i)) in (
      tt,
      tt,
      one_more g.R.Row.sheet g.R.Row.cells g.R.Row.row c.args.text.now c.args.rows.now c.loop-next.rows c.loop-next.count c.loop-next.next-iterator.rest.now c.in-Some-next.next.body.now c.next-in-loop-next.new.self.rest.now c.in_ok-rows.field-0
          c.loop-next.auto.rows (omega (arith, c.loop-next.invariant.2.few, c.most.ensures.value)) c.loop-next.invariant.2 (sym next.1) (sym next.2.0 ∙ c.if-next-columns.true ∙ c.columns.ensures.value) cells next.2.1,
    )

pub returns : goal.returns
returns g c =
    let p = at-end g.met.R.Row.back c.loop-next.auto.rows c.loop-next.invariant.2 c.in-None.ensures.steps in
    record {
      answer = p.0;
      after = p.1;
      whole = reads_whole g.met.R.Row.back c.loop-next.auto.rows c.loop-next.invariant.2 c.in-None.ensures.steps g.met.R.Row.made;
    }
