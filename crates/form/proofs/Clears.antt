-- A case in form breaks no rule anywhere: not along the list, and not along the turns.
use Rattle.std.proofs.Common.{◌≡◌, ℕ, suc, Bool, true, false, List, length, is_some, Some, None, Option, sym, refl, ap, ◌∙◌, arith}
use Rattle.std.proofs.lemmas.Bool.{true≢false, both_ways, not-true, and_from, eq-eqb}
use Rattle.records.specs.declared.Record.{Record}
use Rattle.records.specs.First.{first, Clear}
use Rattle.records.proofs.Firsts.{Found, nowhere, here, found, none-clear}
use Rattle.records.specs.Refusals.{Refusal, refuse}
use Rattle.form.specs.Rules.{misplaced, malformed, mixed, saw_no_write, capitals, mistimed, misframed}
use Rattle.form.specs.Turns.{has_turn, placed}
use Rattle.form.specs.Lives.{misfits}
use Rattle.form.specs.Monitors.{mislocks}
use Rattle.form.specs.Form.{along_turns, in_form}
use Rattle.form.proofs.Taken.{turn_taken}

-- the rules, each with the records or the turns that it is looked for along
pub record Clears (xs : List Record) : Type 0 where
  pub misplaced : Clear (misplaced xs) (length xs)
  pub malformed : Clear (malformed xs) (length xs)
  pub mixed : Clear (mixed xs) (length xs)
  pub saw_no_write : Clear (saw_no_write xs) (length xs)
  pub mistimed : Clear (mistimed xs) (length xs)
  pub misframed : Clear (misframed xs) (length xs)
  pub misfits : Clear (misfits xs) (capitals xs)
  pub mislocks : Clear (mislocks xs) (capitals xs)

-- nothing is refused at the end, so nothing was at this rule
passed : (n : ℕ) (o : Option ℕ) (next : Option Refusal) → is_some (refuse n o next) ≡ false → (o ≡ None) × (is_some next ≡ false)
passed n None next e = (refl, e)
passed n (Some p) next e = absurd (true≢false e)

-- each turn has a record, so a turn that breaks a rule is found with its record
turns-clear : (xs : List Record) → Clear (malformed xs) (length xs) → Clear (mistimed xs) (length xs)
    → (breaks : List Record → ℕ → Bool) → along_turns breaks xs ≡ None → Clear (breaks xs) (capitals xs)
turns-clear xs formed timed breaks e = by (found (breaks xs) (capitals xs))
  where
    by : Found (breaks xs) (capitals xs) → Clear (breaks xs) (capitals xs)
    by (nowhere h _) = h
    by (here n l _ _ f) =
        let untaken = none-clear (has_turn xs (suc n)) (length xs) (sym (ap (placed xs) f) ∙ e) in
        let t = turn_taken xs formed timed (suc n) (omega arith) (omega arith) in
        absurd (both_ways _ (untaken t.0 t.1.0) (and_from _ _ t.1.1 (eq-eqb _ _ t.1.2)))

pub clears : (xs : List Record) → in_form xs ≡ true → Clears xs
clears xs e =
    let a = passed 11 (first (misplaced xs) (length xs)) _ (not-true _ e) in
    let b = passed 12 (first (malformed xs) (length xs)) _ a.1 in
    let c = passed 13 (first (mixed xs) (length xs)) _ b.1 in
    let d = passed 14 (first (saw_no_write xs) (length xs)) _ c.1 in
    let f = passed 15 (first (mistimed xs) (length xs)) _ d.1 in
    let g = passed 16 (first (misframed xs) (length xs)) _ f.1 in
    let h = passed 17 (along_turns misfits xs) _ g.1 in
    let i = passed 18 (along_turns mislocks xs) _ h.1 in
    let formed = none-clear (malformed xs) (length xs) b.0 in
    let timed = none-clear (mistimed xs) (length xs) f.0 in
    record {
      misplaced = none-clear (misplaced xs) (length xs) a.0;
      malformed = formed;
      mixed = none-clear (mixed xs) (length xs) c.0;
      saw_no_write = none-clear (saw_no_write xs) (length xs) d.0;
      mistimed = timed;
      misframed = none-clear (misframed xs) (length xs) g.0;
      misfits = turns-clear xs formed timed misfits h.0;
      mislocks = turns-clear xs formed timed mislocks i.0;
    }
