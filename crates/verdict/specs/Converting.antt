-- What is written of evidence that the judge allows: evidence of the other kind; else the verdict.
use Rattle.std.specs.Prelude.{ℕ, cond, List}
use Rattle.records.specs.declared.Item.{Item}
use Rattle.records.specs.declared.Record.{Record}
use Rattle.records.specs.Names.{threads_of}
use Rattle.agreement.specs.Evidence.{written, replayed}
use Rattle.text.specs.Files.{evidence_text}
use Rattle.verdict.specs.Judging.{records_in, items_in, is_certificate, examined_as, judged, is_allowed}
use Rattle.verdict.specs.Rows.{verdict_text}

-- the run that a certificate is replayed to, or the certificate of a run, by moments
abbrev pub other_kind : List Record → List Item → List Item
other_kind rs is = cond (is_certificate is) (replayed (threads_of rs) is) (written (threads_of rs) is)

-- of a case and items that were examined
abbrev pub delivered : List Record → List Item → List ℕ
delivered rs is = cond (is_allowed (examined_as rs is)) (evidence_text (other_kind rs is)) (verdict_text (examined_as rs is))

-- of two texts
abbrev pub converted : List ℕ → List ℕ → List ℕ
converted ct et = cond (is_allowed (judged ct et)) (evidence_text (other_kind (records_in ct) (items_in et))) (verdict_text (judged ct et))
