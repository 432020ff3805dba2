use Rattle.std.proofs.Common.{◌∙◌, arith}
use Rattle.case.specs.Cases.{records_of}
use Rattle.agreement.proofs.Theorems.{to_certificate_lem}
use Rattle.kinds.specs.Duties.{sized}
use Rattle.conversions.proofs.certificate.to_certificate.Goals as goal

pub returns-clause-counts : goal.returns-clause-counts
returns-clause-counts c =
    let k = c.args.case.now in
    let xs = records_of k in
    let is = c.args.run.now in
    let done = c.in_ok-examine.ensures.complete in
    let w = c.write_certificate.ensures in
    let few = to_certificate_lem.moves_few xs is (sized k) done in
    let short = to_certificate_lem.items_few xs is (sized k) done in
    let counted = to_certificate_lem.items_counted xs is (sized k) done in
    record {
      length_is = w.items;
      moves_are = w.moves;
      reversed = w.moves ∙ to_certificate_lem.moves_counted xs is;
      all = omega (arith, w.items, w.moves);
      moves_few = omega (arith, w.moves);
      items_few = omega (arith, w.items);
    }

pub returns-clause-complete : goal.returns-clause-complete
returns-clause-complete c = to_certificate_lem.certified (records_of c.args.case.now) c.args.run.now c.in_ok-examine.ensures.complete
