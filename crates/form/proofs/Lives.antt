-- One turn of the check of rule 17: the table of lives, when the turn moves a thread and when it does not.
use Rattle.std.proofs.Common.{◌≡◌, ℕ, ◌+◌, ◌<◌, Bool, true, false, not, ◌&&◌, ◌||◌, eqb, List, get_or, set, is_some, Some, sym, refl, ap, ◌∙◌, arith}
use mathlib.Core.Bool.{and-true, or_assoc}
use Rattle.std.proofs.lemmas.Bool.{both_ways, and_left, and_right, eq-eqb, ne_eqb}
use Rattle.std.proofs.lemmas.Bool.Decides.{nat_tests}
use Rattle.records.specs.declared.Record.{Record}
use Rattle.records.specs.First.{some}
use Rattle.records.specs.Letters.{letter}
use Rattle.form.specs.declared.life.Life.{Life}
use Rattle.form.specs.declared.life.Life.TheVariants.{Unborn}
use Rattle.form.specs.Turns.{turn}
use Rattle.form.specs.Lives.{subject, happens, spawned, life_of, life, Lived, next, concerns_life, misfits}
use Rattle.form.proofs.Found.{some_next, some_quiet}
use Rattle.form.proofs.Tables.{stays, put}

-- a letter that fits makes of the three flags what it makes of the state
flags : (e b s : Bool) (c : ℕ) (state : Life) → Some state ≡ next (life_of e b s) c → life_of (e || eqb c (letter "E")) (b || eqb c (letter "B")) (s || eqb c (letter "S")) ≡ state
flags true b s c state h = grind (arith, nat_tests)
flags false true s c state h = grind (arith, nat_tests)
flags false false true c state h = grind (arith, nat_tests)
flags false false false c state h = grind (arith, nat_tests)

-- r comes when n turns have passed
module _ (xs : List Record) (n : ℕ) (r : Record) (is : turn xs n ≡ r) where
  happens_is : (c u : ℕ) → happens xs c u n ≡ (eqb r.letter c && eqb (subject r) u)
  happens_is c u = ap (λ x. eqb x.letter c && eqb (subject x) u) is

  misfits_is : misfits xs n ≡ (concerns_life r.letter && not (is_some (next (life xs (subject r) n) r.letter)))
  misfits_is = ap (λ x. concerns_life x.letter && not (is_some (next (life xs (subject x) n) x.letter))) is

  -- no letter of a life happens to u
  life-stays : (u : ℕ) → ((c : ℕ) → concerns_life c ≡ true → happens xs c u n ≡ false) → life xs u (n + 1) ≡ life xs u n
  life-stays u h =
      let e = some_quiet (happens xs (letter "E") u) n (h (letter "E") refl) in
      let b = some_quiet (happens xs (letter "B") u) n (h (letter "B") refl) in
      let s = some_quiet (happens xs (letter "S") u) n (h (letter "S") refl) in
      λ i. life_of (e i) (b i) (eqb u 0 || s i)

  life-moves : (state : Life) → Some state ≡ next (life xs (subject r) n) r.letter → life xs (subject r) (n + 1) ≡ state
  life-moves state h = (λ i. life_of (one (letter "E") i) (one (letter "B") i) (s i)) ∙ flags _ _ _ r.letter state h
    where
      one : (c : ℕ) → some (happens xs c (subject r)) (n + 1) ≡ (some (happens xs c (subject r)) n || eqb r.letter c)
      one c =
          some_next (happens xs c (subject r)) n
          ∙ ap (λ b. some (happens xs c (subject r)) n || b) (happens_is c (subject r) ∙ ap (λ b. eqb r.letter c && b) (eq-eqb (subject r) (subject r) refl) ∙ and-true _)

      s : spawned xs (subject r) (n + 1) ≡ (spawned xs (subject r) n || eqb r.letter (letter "S"))
      s = ap (λ b. eqb (subject r) 0 || b) (one (letter "S")) ∙ sym (or_assoc (eqb (subject r) 0) _ _)

  module _ (lives : List Life) (l : Lived xs n lives) where
    -- a letter that concerns no life fits, and changes none
    pub life-passes : concerns_life r.letter ≡ false → (true ≡ not (misfits xs n)) × Lived xs (n + 1) lives
    life-passes e = (
      ap not (sym (misfits_is ∙ and_left _ _ e)),
      stays (λ u. life xs u n) (λ u. life xs u (n + 1)) Unborn 8 lives l (λ u. life-stays u (λ c t. happens_is c u ∙ and_left _ _ (other c t))),
    )
      where
        other : (c : ℕ) → concerns_life c ≡ true → eqb r.letter c ≡ false
        other c t = ne_eqb _ c (λ same. both_ways (concerns_life c) (ap concerns_life (sym same) ∙ e) t)

    -- one that fits the thread it concerns moves that thread alone
    module _ (u : ℕ) (concerns : concerns_life r.letter ≡ true) (who : u ≡ subject r) (small : u < 8) where
      state_is : next (get_or lives u Unborn) r.letter ≡ next (life xs (subject r) n) r.letter
      state_is = ap (λ s. next s r.letter) (l.1 u small ∙ ap (λ v. life xs v n) who)

      judged : misfits xs n ≡ not (is_some (next (get_or lives u Unborn) r.letter))
      judged = misfits_is ∙ ap (λ b. b && not (is_some (next (life xs (subject r) n) r.letter))) concerns ∙ ap (λ o. not (is_some o)) (sym state_is)

      pub life-next : (state : Life) → Some state ≡ next (get_or lives u Unborn) r.letter → (true ≡ not (misfits xs n)) × Lived xs (n + 1) (set lives u state)
      life-next state e = (
        ap not (ap (λ o. not (is_some o)) e ∙ sym judged),
        put (λ v. life xs v n) (λ v. life xs v (n + 1)) Unborn 8 lives l u state small
            (ap (λ v. life xs v (n + 1)) who ∙ life-moves state (e ∙ state_is))
            (λ v ne. life-stays v (λ c t. happens_is c v ∙ and_right _ _ (ne_eqb _ v (λ same. ne (sym same ∙ sym who))))),
      )
