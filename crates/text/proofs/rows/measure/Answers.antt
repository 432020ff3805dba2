use Rattle.std.proofs.Common.{◌≡◌, ◌+◌, length, take, Some, None, Err, sym, ap, ◌∙◌, subst, rules, arith, length-append}
use Rattle.std.proofs.lemmas.List.{take_all}
use Rattle.std.proofs.lemmas.Result.{err_from_is_err_and}
use Rattle.std.specs.Result.{result_ok}
use Rattle.text.specs.declared.fault.TextFault.TheVariants.{UnknownLetter}
use Rattle.text.specs.Faults.{told}
use Rattle.text.specs.Sheets.{all_known, row_text}
use Rattle.text.proofs.Apart.{cond-none, cond-some}
use Rattle.text.proofs.RoundTrip.{made}
use Rattle.text.proofs.Writer.{Front, Fits, front-more, front-short, fits_more, unknown, all-measured}
use Rattle.text.proofs.rows.measure.Given.{Over}
use Rattle.text.proofs.rows.measure.Goals as goal

pub returns-in_err-total : goal.returns-in_err-total
returns-in_err-total g c =
    let q = err_from_is_err_and c.from_residual.result c.from_residual.ensures.1 in
    let none : c.size.result ≡ None = c.ok_or.ensures.ok_part ∙ ap result_ok c.in_err-total.was in
    let fault : c.in_err-total.field-0.0 ≡ UnknownLetter = search rules in
    rw (q.1, q.2) (record {
      value = ap (λ f. Err (told f)) fault ∙ unknown g.R.Row.sheet g.R.Row.cells c.args.rows.now c.loop-row.row-index c.row-item.result c.loop-row-test.true c.row-item.is (cond-none _ _ (sym none ∙ c.size.ensures.value));
      fit = tt;
    })

-- one row more
more : (g : Over) (c : goal.In_ok-total g) → (c.loop-row.total + c.in_ok-total.field-0 ≡ length (Front g.R.Row.sheet g.R.Row.cells c.args.rows.now (c.loop-row.row-index + 1)))
    × Fits g.R.Row.sheet g.R.Row.cells c.args.rows.now (take (c.loop-row.row-index + 1) c.args.rows.now)
more g c =
    let sh = g.R.Row.sheet in let cells = g.R.Row.cells in let rows = c.args.rows.now in let i = c.loop-row.row-index in let x = c.row-item.result in
    let some : c.size.result ≡ Some c.in_ok-total.field-0 = c.ok_or.ensures.ok_part ∙ ap result_ok c.in_ok-total.was in
    let s = cond-some (all_known sh.columns (cells x)) (length (row_text sh.columns (cells x))) _ (sym some ∙ c.size.ensures.value) in
    let longer = ap length (front-more sh cells rows i x c.loop-row-test.true c.row-item.is) ∙ length-append (Front sh cells rows i) (row_text sh.columns (cells x)) in (
      omega (arith, s.1, c.loop-row.invariant.0),
      fits_more sh cells rows i x c.loop-row-test.true c.row-item.is c.loop-row.invariant.1 (record { knows = s.0; holds = c.size.ensures.within }),
    )

pub overflow_add-total-in-loop-row : goal.overflow_add-total-in-loop-row
overflow_add-total-in-loop-row g c =
    let sh = g.R.Row.sheet in let m = more g c in
    record { fits = omega (arith, m.0, front-short sh g.R.Row.cells c.args.rows.now (c.loop-row.row-index + 1) (made sh g.met.R.Row.made) c.requires (omega arith) m.1) }

pub loop-row-preserved : goal.loop-row-preserved
loop-row-preserved g c = more g c

pub returns : goal.returns
returns g c =
    let sh = g.R.Row.sheet in let rows = c.args.rows.now in let i = c.loop-row.row-index in let l = c.loop-row-test.false in
    record {
      value = all-measured sh g.R.Row.cells rows i c.loop-row.total l c.loop-row.invariant.0 c.loop-row.invariant.1;
      fit = subst (Fits sh g.R.Row.cells rows) (take_all i rows l) c.loop-row.invariant.1;
    }
