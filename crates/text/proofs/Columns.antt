-- The fields of a line read from the left, and a row written from the left.
use Rattle.std.proofs.Common.{◌≡◌, ℕ, true, cond, List, ◌∷◌, ◌++◌, length, Some, None, Ok, Err, Result, sym, ap, ◌∙◌, arith, length-append}
use Rattle.std.proofs.lemmas.Bool.{cond-true}
use Rattle.text.specs.Csv.{first_of, rest_of}
use Rattle.records.specs.Refusals.{Refusal}
use Rattle.text.specs.Reading.{cell_of, then, cells_of, at_front}
use Rattle.text.specs.Sheets.{Column, row_text, all_known}
use Rattle.text.specs.declared.field.Fields.{Fields}
use Rattle.text.specs.declared.put.Writer.{Writer}
use Rattle.text.specs.Lines.{to_come, OneRead}
use Rattle.text.specs.Writing.{placed, HasRoom, Wrote}
use Rattle.text.proofs.Places.{placed-more, placed-front}

-- ── Reading ──
-- a field is read for the column c, and those behind it for the columns cs
module _ (c : Column) (cs : List Column) {before after : Fields} where
  -- it is refused
  pub stops : OneRead before after → (e : Refusal) → Err e ≡ cell_of before.line c (first_of (to_come before)) → Err e ≡ cells_of before.line (c ∷ cs) (to_come before)
  stops one e h = ap (λ r. then r (λ n. then (cells_of before.line cs (rest_of (to_come before))) (λ ns. Ok (n ∷ ns)))) h

  -- it is taken, and what comes behind it decides
  pub takes : OneRead before after → (n : ℕ) → Ok n ≡ cell_of before.line c (first_of (to_come before)) → (r : Result (List ℕ) Refusal) → r ≡ cells_of after.line cs (to_come after)
      → then r (λ ns. Ok (n ∷ ns)) ≡ cells_of before.line (c ∷ cs) (to_come before)
  takes one n h r t =
      ap (λ r. then r (λ ns. Ok (n ∷ ns))) (t ∙ (λ i. cells_of (one.line i) cs (one.fields i)))
      ∙ ap (λ r. then r (λ n. then (cells_of before.line cs (rest_of (to_come before))) (λ ns. Ok (n ∷ ns)))) h

-- ── Writing ──
pub size-known : (ks : List Column) (ns : List ℕ) (n : ℕ) → all_known ks ns ≡ true → n ≡ length (row_text ks ns) → Some n ≡ cond (all_known ks ns) (Some (length (row_text ks ns))) None
size-known ks ns n h e = ap (λ m. Some m) e ∙ sym (cond-true (all_known ks ns) _ _ h)

-- one text was written behind another
pub wrote-then : {a b c : Writer} {s t : List ℕ} → Wrote a b s → Wrote b c t → HasRoom b t → Wrote a c (s ++ t)
wrote-then {a} {b} {c} {s} {t} v w room =
    let l = length-append s t in
    record {
      bytes = w.bytes ∙ (λ i. placed (v.bytes i) b.end t) ∙ placed-more a.out.now a.end s t b.end v.end (omega (arith, v.end, v.room));
      end = omega (arith, v.end, w.end);
      room = w.room ∙ v.room;
      same = w.same ∙ v.same;
    }

-- all that was written stands in front
pub wrote-front : {a b : Writer} {text : List ℕ} (out : List ℕ) → a.out.now ≡ out → a.end ≡ 0 → Wrote a b text → b.out.now ≡ at_front text out
wrote-front {a} {b} {text} out is none w = w.bytes ∙ (λ i. placed (is i) (none i) text) ∙ placed-front out text
