-- Each of the turns 1 to N is the turn of exactly one of the N capitals, where no rule on fields or turns is broken.
use Rattle.std.proofs.Common.{◌≡◌, ℕ, zero, suc, ◌+◌, ◌<◌, ◌≤◌, Bool, true, false, cond, ◌&&◌, eqb, ltb, leb, ◌⊎◌, List, length, filter, sym, refl, ◌∙◌, subst, inl, inr, ⊎_elim, arith}
use Rattle.std.proofs.lemmas.Bool.{both_ways, cases_Bool, cases_eq, cases_order, and_parts, or_parts, eqb-true, eqb-false, eq-eqb, ltb-false, lt-leb, le-ltb}
use Rattle.std.proofs.lemmas.Bool.Decides.{nat_tests}
use Rattle.records.specs.declared.Record.{Record}
use Rattle.records.specs.First.{some, Clear}
use Rattle.records.specs.Letters.{is_capital}
use Rattle.records.specs.Names.{blank, at}
use Rattle.records.proofs.Firsts.{some_true, some-clear}
use Rattle.form.specs.Rules.{malformed, capitals, clashes, mistimed}
use Rattle.form.specs.Turns.{has_turn}
use Rattle.form.specs.Laws.{Takes}
use Rattle.form.proofs.Kept.{kept-none, kept-once, kept-split}
use Rattle.form.proofs.Fields.{turn_range}
use Rattle.form.proofs.Unbroken.{and_rest, not_so}

-- a capital whose turn passes a test, and how many there are: of turn t, up to t, above t
abbrev passing : (ℕ → Bool) → Record → Bool
passing f r = is_capital r.letter && f r.turn

abbrev count : (ℕ → Bool) → List Record → ℕ
count f xs = length (filter (passing f) xs)

abbrev of : ℕ → List Record → ℕ
of t = count (λ x. eqb x t)

abbrev upto : ℕ → List Record → ℕ
upto t = count (λ x. leb x t)

abbrev above : ℕ → List Record → ℕ
above t = count (λ x. ltb t x)

next_or_not : (t : ℕ) (c : Bool) (x : ℕ) → cond (c && leb x (suc t)) 1 0 ≡ cond (c && leb x t) 1 0 + cond (c && eqb x (suc t)) 1 0
next_or_not t true x = grind (arith, nat_tests)
next_or_not t false x = omega arith

above_or_not : (t : ℕ) (c : Bool) (x : ℕ) → cond c 1 0 ≡ cond (c && leb x t) 1 0 + cond (c && ltb t x) 1 0
above_or_not t true x = grind (arith, nat_tests)
above_or_not t false x = omega arith

upto-more : (t : ℕ) (xs : List Record) → upto (suc t) xs ≡ upto t xs + of (suc t) xs
upto-more t xs = kept-split _ _ _ (λ r. next_or_not t (is_capital r.letter) r.turn) xs

upto-above : (t : ℕ) (xs : List Record) → capitals xs ≡ upto t xs + above t xs
upto-above t xs = kept-split _ _ _ (λ r. above_or_not t (is_capital r.letter) r.turn) xs

module _ (xs : List Record) (formed : Clear (malformed xs) (length xs)) (timed : Clear (mistimed xs) (length xs)) where
  unclashed : (t k : ℕ) → Takes xs t k → (t ≤ capitals xs) × Clear (λ j. clashes (at xs k) (at xs j)) k
  unclashed t k (l, c, e) =
      let h = or_parts (ltb (capitals xs) (at xs k).turn) _ (and_rest _ _ (timed k l) c) in
      let m = ltb-false _ _ h.0 in
      (omega arith, some-clear _ k h.1)

  pub turn_low : (t k : ℕ) → Takes xs t k → (1 ≤ t) × (t ≤ capitals xs)
  turn_low t k (l, c, e) =
      let m = (turn_range (at xs k) (formed k l) c).0 in
      (omega arith, (unclashed t k (l, c, e)).0)

  -- of two capitals the later one in the list has another turn, and in one thread a later one
  apart : (s t j k : ℕ) → j < k → Takes xs s j → Takes xs t k → (s ≡ t → ⊥) × ((at xs j).thread ≡ (at xs k).thread → s < t)
  apart s t j k l (_, c, e) (m, d, f) =
      let h = or_parts (eqb (at xs k).turn (at xs j).turn) _ (and_rest _ _ ((unclashed t k (m, d, f)).1 j l) c) in
      let ne = eqb-false _ _ h.0 in
      (λ q. ne (f ∙ sym q ∙ sym e), λ q. let le = ltb-false _ _ (and_rest _ _ h.1 (eq-eqb _ _ (sym q))) in omega arith)

  pub turn_once : (t j k : ℕ) → Takes xs t j → Takes xs t k → j ≡ k
  turn_once t j k a b = by (cases_order j k)
    where
      by : (j ≡ k) ⊎ ((j < k) ⊎ (k < j)) → j ≡ k
      by (inl e) = e
      by (inr (inl l)) = absurd ((apart t t j k l a b).0 refl)
      by (inr (inr l)) = absurd ((apart t t k j l b a).0 refl)

  pub turn_rises : (s t j k : ℕ) → j < k → (at xs j).thread ≡ (at xs k).thread → Takes xs s j → Takes xs t k → s < t
  turn_rises s t j k l e a b = (apart s t j k l a b).1 e

  -- ── No turn is left out: if one were, there would be fewer capitals than turns ──
  pub takes : (t k : ℕ) → k < length xs → has_turn xs t k ≡ true → Takes xs t k
  takes t k l h = let p = and_parts _ _ h in (l, p.0, eqb-true _ _ p.1)

  of_few : (t : ℕ) → of t xs ≤ 1
  of_few t =
      kept-once _ blank xs
      (λ j k l m h. not_so _ (λ g. (apart t t j k l (takes t j (omega arith) h) (takes t k m g)).0 refl))

  -- a test that no turn from 1 to N passes
  count_none : (f : ℕ → Bool) → ((t : ℕ) → 1 ≤ t → t ≤ capitals xs → f t ≡ false) → count f xs ≡ 0
  count_none f h =
      kept-none (passing f) blank xs
      (λ k l. not_so _ (λ p.
      let q = and_parts _ (f (at xs k).turn) p in
      let b = turn_low _ k (l, q.0, refl) in
      both_ways _ (h _ b.0 b.1) q.1))

  upto_le : (t : ℕ) → upto t xs ≤ t
  upto_le zero = let h = count_none (λ x. leb x 0) (λ t a b. lt-leb t 0 a) in omega arith
  upto_le (suc t) = let a = upto-more t xs in let b = of_few (suc t) in let c = upto_le t in omega arith

  upto-less : (s : ℕ) → of (suc s) xs ≡ 0 → (t : ℕ) → suc s ≤ t → upto t xs < t
  upto-less s z zero l = absurd (omega arith)
  upto-less s z (suc t) l =
      let a = upto-more t xs in
      ⊎_elim (λ (e : s ≡ t). let b = subst (λ u. of (suc u) xs ≡ 0) e z in let c = upto_le t in omega arith)
      (λ (n : s ≡ t → ⊥). let b = of_few (suc t) in let c = upto-less s z t (omega arith) in omega arith) (cases_eq s t)

  pub turn_taken : (t : ℕ) → 1 ≤ t → t ≤ capitals xs → (k : ℕ) × Takes xs t k
  turn_taken zero l m = absurd (omega arith)
  turn_taken (suc s) l m = ⊎_elim taken (λ e. absurd (left_out e)) (cases_Bool (some (has_turn xs (suc s)) (length xs)))
    where
      taken : some (has_turn xs (suc s)) (length xs) ≡ true → (k : ℕ) × Takes xs (suc s) k
      taken e = let f = some_true _ _ e in (f.0, takes (suc s) f.0 f.1 f.2)

      left_out : some (has_turn xs (suc s)) (length xs) ≡ false → ⊥
      left_out e =
          let n = capitals xs in
          let a = upto-less s (kept-none _ blank xs (some-clear _ _ e)) n m in
          let b = upto-above n xs in
          let c = count_none (λ x. ltb n x) (λ t p q. le-ltb n t q) in
          omega arith
