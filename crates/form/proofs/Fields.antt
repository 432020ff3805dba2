-- What rule 12 gives: targets, turns and locations in range.
use Rattle.std.proofs.Common.{◌≡◌, ℕ, ◌<◌, ◌≤◌, true, false, not, eqb, leb, List, [], ◌∷◌, IfSome, Some, codes, Option, sym, refl, ap, ◌∙◌, subst, ⊎_elim, arith}
use Rattle.std.specs.List.{AllByRecursion}
use Rattle.std.proofs.lemmas.Bool.{both_ways, cases_Bool, and_parts, or_cases, eqb-true, leb-true, cond-true, cond-false, cond_both, not-false}
use Rattle.std.proofs.lemmas.Bool.Decides.{nat_tests}
use Rattle.records.specs.declared.Record.{Record}
use Rattle.records.specs.declared.action.Action.{Action}
use Rattle.records.specs.Actions.{action_of, Located}
use Rattle.records.specs.Letters.{letter, among, is_capital, is_read, is_write}
use Rattle.form.specs.Rules.{limit, within, used_or_zero, turn_fits, well_formed}
use Rattle.form.specs.Lives.{subject}

-- letters that have one limit
among-limit : (c : ℕ) (m : Option ℕ) (l : List ℕ) → AllByRecursion (λ a. limit a ≡ m) l → among c l ≡ true → limit c ≡ m
among-limit c m [] h e = absurd (both_ways false refl e)
among-limit c m (a ∷ l) h e = ⊎_elim (λ t. ap limit (eqb-true c a t) ∙ h.0) (among-limit c m l h.1) (or_cases (eqb c a) (among c l) e)

module _ (r : Record) (h : not (well_formed r) ≡ false) where
  parts : (within r.target (limit r.letter) ≡ true) × (turn_fits r ≡ true)
  parts =
      let a = and_parts _ _ (not-false (well_formed r) h) in
      let b = and_parts (used_or_zero (is_write r.letter) r.value) _ a.1 in
      (a.0, (and_parts (used_or_zero (is_read r.letter) r.seen) _ b.1).1)

  target_most : (m : ℕ) (l : List ℕ) → AllByRecursion (λ a. limit a ≡ Some m) l → among r.letter l ≡ true → r.target ≤ m
  target_most m l a e = leb-true r.target m (ap (within r.target) (sym (among-limit r.letter (Some m) l a e)) ∙ parts.0)

  -- no letter has a target above 63
  pub target_small : r.target < 64
  target_small = let p = parts.0 in grind (arith, nat_tests)

  pub subject-small : r.thread < 8 → subject r < 8
  subject-small l =
      ⊎_elim (λ e. subst (λ u. u < 8) (sym (cond-true _ r.target r.thread e)) (omega (arith, target_most 7 (codes "SJ") (refl, (refl, tt)) e)))
      (λ e. subst (λ u. u < 8) (sym (cond-false _ r.target r.thread e)) l) (cases_Bool (among r.letter (codes "SJ")))

  pub turn_range : is_capital r.letter ≡ true → (1 ≤ r.turn) × (r.turn ≤ 256)
  turn_range e =
      let a = and_parts (leb 1 r.turn) _ (sym (cond-true _ _ (eqb r.turn 0) e) ∙ parts.1) in
      (leb-true 1 _ a.0, leb-true _ 256 a.1)

  -- an access is to one of the 64 locations
  pub located : (n : ℕ) → IfSome (action_of n r) Located
  located n =
      let P : Option Action → Type 0 = λ o. IfSome o Located in
      let low : among r.letter (codes "rwRW") ≡ true → r.target < 64 =
      λ e. omega (arith, target_most 63 (codes "rwRW") (refl, (refl, (refl, (refl, tt)))) e) in
      cond_both (eqb r.letter (letter "r")) _ _ P (λ e. low (grind (arith, nat_tests))) (λ _.
      cond_both (eqb r.letter (letter "w")) _ _ P (λ e. low (grind (arith, nat_tests))) (λ _.
      cond_both (eqb r.letter (letter "R")) _ _ P (λ e. low (grind (arith, nat_tests))) (λ _.
      cond_both (eqb r.letter (letter "W")) _ _ P (λ e. low (grind (arith, nat_tests))) (λ _.
      cond_both (eqb r.letter (letter "L")) _ _ P (λ _. tt) (λ _.
      cond_both (eqb r.letter (letter "U")) _ _ P (λ _. tt) (λ _.
      cond_both (eqb r.letter (letter "S")) _ _ P (λ _. tt) (λ _.
      cond_both (eqb r.letter (letter "J")) _ _ P (λ _. tt) (λ _.
      cond_both (eqb r.letter (letter "B")) _ _ P (λ _. tt) (λ _.
      cond_both (eqb r.letter (letter "E")) _ _ P (λ _. tt) (λ _. tt))))))))))
