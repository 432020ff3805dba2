use Rattle.std.proofs.Common.{◌≡◌, ℕ, length, Some, ap, ◌∙◌, rules, arith, length-append}
use Rattle.std.specs.Result.{result_ok}
use Rattle.text.specs.Reading.{at_front}
use Rattle.text.specs.Reports.{report_text}
use Rattle.text.proofs.Columns.{wrote-then, wrote-front}
use Rattle.text.proofs.report.write_report.Goals as goal

pub returns-clause-after : goal.returns-clause-after
returns-clause-after c =
    let header = c.args.header.now in let row = c.args.row.now in
    let some : c.room_behind.result ≡ Some c.in_ok-ok_or.field-0 = c.ok_or.ensures.ok_part ∙ ap result_ok c.in_ok-ok_or.was in
    let fits = rw some at c.room_behind.ensures.cases in
    let fields = wrote-then c.put_fields.ensures.wrote c.bytes.ensures.wrote (omega (arith, length-append {A = ℕ}, c.new-text.ensures.end, ap length c.new-text.ensures.bytes)) in
    let all = wrote-then c.line.ensures.wrote fields (omega (arith, length-append {A = ℕ}, c.new-text.ensures.end, ap length c.new-text.ensures.bytes)) in
    let front : c.bytes.new.self.out.now ≡ at_front (report_text header row) c.args.out.now = wrote-front c.args.out.now c.new-text.ensures.bytes c.new-text.ensures.end all in
    let names = all.same ∙ c.new-text.ensures.same_reference in
    search rules
