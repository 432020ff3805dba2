use Rattle.std.proofs.Common.{drop, Ok, refl, ap, ◌∙◌}
use Rattle.std.proofs.lemmas.Result.{err_from_is_err_and}
use Rattle.text.specs.Files.{case_letters, case_sheet}
use Rattle.text.specs.Sheets.{numbers, letters}
use Rattle.text.proofs.Columns.{stops, takes}
use Rattle.text.proofs.row.RecordRow.parse.Goals as goal

pub returns-in_err-target : goal.returns-in_err-target
returns-in_err-target c =
    let p = err_from_is_err_and c.from_residual-in_err-target.result c.from_residual-in_err-target.ensures.1 in
    let cs = case_sheet.columns in
    rw (p.1, p.2) (record {
      value =
          takes (numbers 255) (drop 1 cs) c.number.ensures.one _ c.in_ok-thread.ensures.value _
          (takes (letters case_letters) (drop 2 cs) c.letter.ensures.one _ c.in_ok-letter.ensures.value _
          (stops (numbers 255) (drop 3 cs) c.number-2.ensures.one _ c.in_err-target.ensures.value));
    })

pub returns-in_err-value : goal.returns-in_err-value
returns-in_err-value c =
    let p = err_from_is_err_and c.from_residual-in_err-value.result c.from_residual-in_err-value.ensures.1 in
    let cs = case_sheet.columns in
    rw (p.1, p.2) (record {
      value =
          takes (numbers 255) (drop 1 cs) c.number.ensures.one _ c.in_ok-thread.ensures.value _
          (takes (letters case_letters) (drop 2 cs) c.letter.ensures.one _ c.in_ok-letter.ensures.value _
          (takes (numbers 255) (drop 3 cs) c.number-2.ensures.one _ c.in_ok-target.ensures.value _
          (stops (numbers 4294967295) (drop 4 cs) c.number-3.ensures.one _ c.in_err-value.ensures.value)));
    })

pub returns-in_err-seen : goal.returns-in_err-seen
returns-in_err-seen c =
    let p = err_from_is_err_and c.from_residual-in_err-seen.result c.from_residual-in_err-seen.ensures.1 in
    let cs = case_sheet.columns in
    rw (p.1, p.2) (record {
      value =
          takes (numbers 255) (drop 1 cs) c.number.ensures.one _ c.in_ok-thread.ensures.value _
          (takes (letters case_letters) (drop 2 cs) c.letter.ensures.one _ c.in_ok-letter.ensures.value _
          (takes (numbers 255) (drop 3 cs) c.number-2.ensures.one _ c.in_ok-target.ensures.value _
          (takes (numbers 4294967295) (drop 4 cs) c.number-3.ensures.one _ c.in_ok-value.ensures.value _
          (stops (numbers 65535) (drop 5 cs) c.number-4.ensures.one _ c.in_err-seen.ensures.value))));
    })

pub returns-in_err-turn : goal.returns-in_err-turn
returns-in_err-turn c =
    let p = err_from_is_err_and c.from_residual-in_err-turn.result c.from_residual-in_err-turn.ensures.1 in
    let cs = case_sheet.columns in
    rw (p.1, p.2) (record {
      value =
          takes (numbers 255) (drop 1 cs) c.number.ensures.one _ c.in_ok-thread.ensures.value _
          (takes (letters case_letters) (drop 2 cs) c.letter.ensures.one _ c.in_ok-letter.ensures.value _
          (takes (numbers 255) (drop 3 cs) c.number-2.ensures.one _ c.in_ok-target.ensures.value _
          (takes (numbers 4294967295) (drop 4 cs) c.number-3.ensures.one _ c.in_ok-value.ensures.value _
          (takes (numbers 65535) (drop 5 cs) c.number-4.ensures.one _ c.in_ok-seen.ensures.value _
          (stops (numbers 65535) (drop 6 cs) c.number-5.ensures.one _ c.in_err-turn.ensures.value)))));
    })

pub returns : goal.returns
returns c =
    let cs = case_sheet.columns in
    record {
      value =
          takes (numbers 255) (drop 1 cs) c.number.ensures.one _ c.in_ok-thread.ensures.value _
          (takes (letters case_letters) (drop 2 cs) c.letter.ensures.one _ (ap (λ l. Ok l) c.from.ensures ∙ c.in_ok-letter.ensures.value) _
          (takes (numbers 255) (drop 3 cs) c.number-2.ensures.one _ c.in_ok-target.ensures.value _
          (takes (numbers 4294967295) (drop 4 cs) c.number-3.ensures.one _ c.in_ok-value.ensures.value _
          (takes (numbers 65535) (drop 5 cs) c.number-4.ensures.one _ c.in_ok-seen.ensures.value _
          (takes (numbers 65535) (drop 6 cs) c.number-5.ensures.one _ c.in_ok-turn.ensures.value _
          (refl))))));
    }
