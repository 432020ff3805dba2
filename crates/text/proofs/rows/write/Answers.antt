use Rattle.std.proofs.Common.{◌≡◌, ◌+◌, ◌≤◌, [], map, length, sym, refl, ap, ◌∙◌, subst, rules, arith, length-append}
use Rattle.std.proofs.ByRecursion.{All-get_or, All-map}
use Rattle.std.proofs.lemmas.List.{length-map, take_all}
use Rattle.std.proofs.lemmas.Result.{err_from_is_err_and}
use Rattle.std.specs.List.{flat_map}
use Rattle.text.specs.Reading.{at_front}
use Rattle.text.specs.Sheets.{Fit, ended, row_text, text_of}
use Rattle.text.specs.Writing.{HasRoom, Wrote}
use Rattle.text.proofs.Columns.{wrote-then, wrote-front}
use Rattle.text.proofs.Reader.{reads_as}
use Rattle.text.proofs.RoundTrip.{made, text-reads}
use Rattle.text.proofs.Writer.{Lines, lines-more, front_le, writes-unknown, writes-all, size_is}
use Rattle.text.proofs.rows.write.Goals as goal

pub returns-in_err-size : goal.returns-in_err-size
returns-in_err-size g c =
    let sh = g.R.Row.sheet in let cells = g.R.Row.cells in let rows = c.args.rows.now in
    let p = err_from_is_err_and c.from_residual.result c.from_residual.ensures.1 in
    rw (p.1, p.2) (record { answer = writes-unknown sh (map cells rows) _ (omega (arith, length-map rows cells)) _ c.in_err-size.ensures.value; after = refl; back = tt })

pub line-requires : goal.line-requires
line-requires g c =
    let sh = g.R.Row.sheet in let cells = g.R.Row.cells in let rows = c.args.rows.now in
    let size = size_is sh (map cells rows) 0 (omega (arith, length-map rows cells)) _ c.in_ok-size.ensures.value in
    omega (arith, ap (λ h. length (ended h)) c.header.ensures.value, front_le sh cells rows 0, length-append (ended sh.header) [], c.new-text.ensures.end, ap length c.new-text.ensures.bytes)

pub put-requires : goal.put-requires
put-requires g c =
    let sh = g.R.Row.sheet in let cells = g.R.Row.cells in let rows = c.args.rows.now in let i = c.loop-row.row-index in let x = c.row-item.result in
    let size = size_is sh (map cells rows) 0 (omega (arith, length-map rows cells)) _ c.in_ok-size.ensures.value in
    let fit : Fit sh.columns (cells x) = subst (λ y. Fit sh.columns (cells y)) (sym c.row-item.is) (All-get_or (λ y. Fit sh.columns (cells y)) rows i x c.loop-row-test.true c.in_ok-size.ensures.fit) in
    let longer = ap length (lines-more sh cells rows i x c.loop-row-test.true c.row-item.is) ∙ length-append (Lines sh cells rows i) (row_text sh.columns (cells x)) in
    record {
      known = fit.knows;
      room = omega (arith, ap (λ h. length (ended h)) c.header.ensures.value, front_le sh cells rows (i + 1), length-append (ended sh.header) (Lines sh cells rows (i + 1)), c.new-text.ensures.end, ap length c.new-text.ensures.bytes);
    }

pub loop-row-preserved : goal.loop-row-preserved
loop-row-preserved g c =
    let sh = g.R.Row.sheet in let cells = g.R.Row.cells in let rows = c.args.rows.now in let i = c.loop-row.row-index in let x = c.row-item.result in
    let more = lines-more sh cells rows i x c.loop-row-test.true c.row-item.is in
    let size = size_is sh (map cells rows) 0 (omega (arith, length-map rows cells)) _ c.in_ok-size.ensures.value in
    let longer = ap length more ∙ length-append (Lines sh cells rows i) (row_text sh.columns (cells x)) in
    let room : HasRoom c.loop-row.text (row_text sh.columns (cells x)) =
    omega (arith, ap (λ h. length (ended h)) c.header.ensures.value, front_le sh cells rows (i + 1), length-append (ended sh.header) (Lines sh cells rows (i + 1)), c.new-text.ensures.end, ap length c.new-text.ensures.bytes) in
    subst (Wrote c.line.new.self c.put.new.text) (sym more) (wrote-then c.loop-row.invariant c.put.ensures.wrote room)

pub returns : goal.returns
returns g c =
    let sh = g.R.Row.sheet in let cells = g.R.Row.cells in let rows = c.args.rows.now in
    let few : length (map cells rows) ≤ sh.most = omega (arith, length-map rows cells) in
    record {
      answer = writes-all sh (map cells rows) _ few _ c.in_ok-size.ensures.value c.if-size-out.false;
      after =
          let header : Wrote c.new-text.result c.line.new.self (ended sh.header) = subst (λ h. Wrote c.new-text.result c.line.new.self (ended h)) c.header.ensures.value c.line.ensures.wrote in
          let all : Wrote c.line.new.self c.loop-row.text (flat_map (row_text sh.columns) (map cells rows)) = subst (λ xs. Wrote c.line.new.self c.loop-row.text (flat_map (row_text sh.columns) (map cells xs))) (take_all c.loop-row.row-index rows c.loop-row-test.false) c.loop-row.invariant in
          let size = size_is sh (map cells rows) 0 few _ c.in_ok-size.ensures.value in
          let front : c.loop-row.text.out.now ≡ at_front (text_of sh (map cells rows)) c.args.out.now =
          wrote-front c.args.out.now c.new-text.ensures.bytes c.new-text.ensures.end (wrote-then header all (omega (arith, length-append (ended sh.header) (flat_map (row_text sh.columns) (map cells rows)), c.new-text.ensures.end, ap length c.new-text.ensures.bytes))) in
          let names = c.loop-row.invariant.same ∙ c.line.ensures.wrote.same ∙ c.new-text.ensures.same_reference in
          search rules;
      back = reads_as sh cells g.R.Row.row g.met.R.Row.back rows (text-reads sh (map cells rows) (made sh g.met.R.Row.made) (All-map (Fit sh.columns) cells rows c.in_ok-size.ensures.fit) few);
    }
