-- A text that was read, as the reader of the text promises it and as the judge needs it.
use Rattle.std.proofs.Common.{◌≡◌, ℕ, List, ◌++◌, map, length, take, drop, Some, None, Ok, Err, Option, sym, refl, ap, ◌∙◌, arith, length-append}
use lib.ListN.{length-map}
use lib.Seq.{take-append_seam}
use Rattle.records.specs.Refusals.{Refusal}
use Rattle.text.specs.Reading.{Reading, ends_as, answer_of, filled}
use Rattle.verdict.specs.Reads.{InFront}

-- how a reading ended, from what was answered
ended_well : (e : Option Refusal) (n k : ℕ) → Ok n ≡ ends_as e k → (e ≡ None) × (n ≡ k)
ended_well None n k q = (refl, cc)
ended_well (Some r) n k q = let z : ◌≡◌ {A = ℕ} 0 1 = cc in absurd (omega arith)

pub ended_badly : (e : Option Refusal) (r : Refusal) (k : ℕ) → Err r ≡ ends_as e k → e ≡ Some r
ended_badly None r k q = let z : ◌≡◌ {A = ℕ} 0 1 = cc in absurd (omega arith)
ended_badly (Some s) r k q = cc

pub in_front : {X : Type 0} (row : List ℕ → X) (rd : Reading) (n : ℕ) (before after : List X) → Ok n ≡ answer_of rd → after ≡ filled row rd before → InFront row rd n after
in_front row rd n before after q e =
    let w = ended_well rd.end n (length rd.rows) q in
    let long : n ≡ length (map row rd.rows) = w.1 ∙ sym (length-map rd.rows row) in
    record {
      ends = w.0;
      rows = ap (take n) e ∙ ap (λ k. take k (map row rd.rows ++ drop (length (map row rd.rows)) before)) long
          ∙ take-append_seam (map row rd.rows) (drop (length (map row rd.rows)) before);
      few = omega (arith, simp length-append at (ap length e));
    }
