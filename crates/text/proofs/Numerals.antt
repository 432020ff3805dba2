-- The number that a stretch writes, and the stretch that writes a number.
use Rattle.std.proofs.Common.{◌≡◌, ℕ, zero, suc, ◌+◌, ◌-◌, ◌*◌, ◌/◌, ◌%◌, ◌^◌, ◌<◌, ◌≤◌, Bool, true, false, ◌&&◌, ltb, leb, List, [], ◌∷◌, ◌++◌, length, get_or, take, drop, Some, None, decimal, sym, refl, ap, ◌∙◌, subst, ⊎_elim, arith, take-append-drop}
use Rattle.std.specs.Str.Parse.{digits_value, digits_value_after}
use Rattle.std.specs.Int.{IsInRange, IsOutOfRange}
use Rattle.std.specs.Char.{digit_value as digitValue, is_ascii_digit}
use Rattle.std.specs.Str.{all_ascii_digits}
use Rattle.std.proofs.lemmas.Bool.{cond-true, cond-false, cases_Bool, cases_eq, cases_lt, and_from, and_parts, and_left, and_right, and_cases, or_cases, or_left, or_right, not-true, not_from_false, ltb-true, leb-true, eqb-true, eqb-false, lt-ltb, le-leb, lt-leb, eq-eqb, ne_eqb}
use Rattle.std.proofs.lemmas.Bool.Decides.{nat_tests}
use Rattle.std.proofs.lemmas.List.{take_all, take_more, length_push}
use Rattle.std.proofs.lemmas.Int.Digits.{digits_value_more, digits_value-lt}
use Rattle.std.proofs.lemmas.Str.Parse.{IsNumeralModel, numerals_by_value, tells_all_ascii_digits, digit_at}
use Rattle.std.proofs.lemmas.Fmt.{decimal-digits_value, decimal_nonempty, decimal_digit, decimal_step, first_decimal, digits_decimal, digits_value-decimal, length-decimal-le}
use Rattle.text.specs.Fields.{no_zero_ahead, numeral}
use Rattle.text.proofs.Apart.{none≢some, some_same}

pub own : IsNumeralModel (λ ds. all_ascii_digits ds ≡ true) (digits_value 10)
own = numerals_by_value (λ ds. all_ascii_digits ds ≡ true) tells_all_ascii_digits

abbrev test : ℕ → List ℕ → Bool
test most s = ltb 0 (length s) && (all_ascii_digits s && (no_zero_ahead s && leb (digits_value 10 s) most))

-- ── What `decimal` writes is read, and what is read is what `decimal` writes ──
zero_not_ahead : (n : ℕ) → n < 2 ^ 64 → no_zero_ahead (decimal n) ≡ true
zero_not_ahead n fits =
    ⊎_elim
    (λ pos. or_left _ _ (not_from_false _ (ne_eqb (get_or (decimal n) 0 0) 48 (λ e. omega (arith, first_decimal n pos fits)))))
    (λ none. or_right _ _ (eq-eqb _ _ (ap length (decimal_digit n (omega arith)))))
    (cases_lt 0 n)

pub numeral-decimal : (most n : ℕ) → n ≤ most → n < 2 ^ 64 → numeral most (decimal n) ≡ Some n
numeral-decimal most n le fits =
    let v = digits_value-decimal own n fits in
    let pass : test most (decimal n) ≡ true =
    and_from _ _ (lt-ltb _ _ (decimal_nonempty n fits)) (and_from _ _ (digits_decimal own n fits) (and_from _ _ (zero_not_ahead n fits) (le-leb _ _ (omega arith)))) in
    cond-true (test most (decimal n)) _ _ pass ∙ ap (λ m. Some m) v

pub decimal-numeral : (most : ℕ) (s : List ℕ) (n : ℕ) → most < 2 ^ 64 → numeral most s ≡ Some n → s ≡ decimal n
decimal-numeral most s n small e = ⊎_elim yes' no' (cases_Bool (test most s))
  where
    yes' : test most s ≡ true → s ≡ decimal n
    yes' pass =
        let p = and_parts _ _ pass in let q = and_parts _ _ p.1 in let t = and_parts _ _ q.1 in
        let le : digits_value 10 s ≤ most = leb-true _ _ t.1 in
        let v : digits_value 10 s ≡ n = some_same _ _ (sym (cond-true (test most s) (Some (digits_value 10 s)) None pass) ∙ e) in
        sym (decimal-digits_value own s q.0 (ltb-true _ _ p.0) (λ z. ⊎_elim (λ h. absurd (eqb-false _ _ (not-true _ h) z)) (λ h. eqb-true _ _ h) (or_cases _ _ t.0)) (omega arith)) ∙ ap decimal v

    no' : test most s ≡ false → s ≡ decimal n
    no' fail = absurd (none≢some n (sym (cond-false (test most s) (Some (digits_value 10 s)) None fail) ∙ e))

-- a number is written with at most as many digits as a larger one
pub decimal-width : (n most : ℕ) → n ≤ most → most < 2 ^ 64 → length (decimal n) ≤ length (decimal most)
decimal-width n most le fits =
    let d = digits_decimal own most fits in
    let b = digits_value-lt 10 (decimal most) (own.to (decimal most) d) in
    let v = digits_value-decimal own most fits in
    length-decimal-le (length (decimal most)) n (decimal_nonempty most fits) (omega arith) (omega arith)

-- ── A loop over the digits ──
after_ge : (n : ℕ) (ds : List ℕ) → n ≤ digits_value_after 10 n ds
after_ge n [] = omega arith
after_ge n (c ∷ cs) = let h = after_ge (n * 10 + digitValue c) cs in omega arith

after-append : (n : ℕ) (xs ys : List ℕ) → digits_value_after 10 n (xs ++ ys) ≡ digits_value_after 10 (digits_value_after 10 n xs) ys
after-append n [] ys = refl
after-append n (x ∷ xs) ys = after-append (n * 10 + digitValue x) xs ys

-- the value of a front is at most that of the whole
front_le : (i : ℕ) (ds : List ℕ) → digits_value 10 (take i ds) ≤ digits_value 10 ds
front_le i ds =
    subst (λ l. digits_value 10 (take i ds) ≤ digits_value 10 l) (take-append-drop i ds)
    (subst (λ m. digits_value 10 (take i ds) ≤ m) (sym (after-append 0 (take i ds) (drop i ds))) (after_ge (digits_value 10 (take i ds)) (drop i ds)))

digit_value : (c : ℕ) → IsInRange 48 57 c → digitValue c ≡ c - 48
digit_value c h = grind (arith, nat_tests)

pub digits_push : (xs : List ℕ) (x : ℕ) → all_ascii_digits (xs ++ x ∷ []) ≡ (all_ascii_digits xs && is_ascii_digit x)
digits_push [] x = and_true (is_ascii_digit x)
  where
    and_true : (b : Bool) → (b && true) ≡ b
    and_true true = refl
    and_true false = refl
digits_push (c ∷ cs) x = ap (λ b. is_ascii_digit c && b) (digits_push cs x) ∙ sym (and_assoc (is_ascii_digit c) (all_ascii_digits cs) (is_ascii_digit x))
  where
    and_assoc : (a b d : Bool) → ((a && b) && d) ≡ (a && (b && d))
    and_assoc true b d = refl
    and_assoc false b d = refl

module _ (most : ℕ) (s : List ℕ) where
  none_if : test most s ≡ false → None ≡ numeral most s
  none_if h = sym (cond-false (test most s) _ _ h)

  -- a number needs digits, no 0 ahead, and a value that is not too large
  none-digits : (all_ascii_digits s && (no_zero_ahead s && leb (digits_value 10 s) most)) ≡ false → None ≡ numeral most s
  none-digits h = none_if (and_right (ltb 0 (length s)) _ h)

  none_rest : (no_zero_ahead s && leb (digits_value 10 s) most) ≡ false → None ≡ numeral most s
  none_rest h = none-digits (and_right (all_ascii_digits s) _ h)

  pub none-plain : (ltb 0 (length s) && all_ascii_digits s) ≡ false → None ≡ numeral most s
  none-plain h = ⊎_elim (λ e. none_if (and_left (ltb 0 (length s)) _ e)) (λ e. none-digits (and_left (all_ascii_digits s) _ e)) (and_cases (ltb 0 (length s)) (all_ascii_digits s) h)

  pub none_digit : (i : ℕ) → i < length s → IsOutOfRange 48 57 (get_or s i 0) → None ≡ numeral most s
  none_digit i l out = none-digits (and_left (all_ascii_digits s) _ (⊎_elim wrong (λ e. e) (cases_Bool (all_ascii_digits s))))
    where
      wrong : all_ascii_digits s ≡ true → all_ascii_digits s ≡ false
      wrong d = let in' : IsInRange 48 57 (get_or s i 0) = digit_at s i (own.to s d) l in ⊎_elim (λ h. absurd (omega arith)) (λ h. absurd (omega arith)) out

  pub none-large : (i m : ℕ) → m ≡ digits_value 10 (take i s) → most < m → None ≡ numeral most s
  none-large i m e l =
      let large : most < digits_value 10 s = omega (arith, front_le i s) in
      none_rest (and_right (no_zero_ahead s) _ (lt-leb (digits_value 10 s) most large))

  pub some-whole : (i n : ℕ) → length s ≤ i → n ≡ digits_value 10 (take i s) → all_ascii_digits (take i s) ≡ true → n ≤ most → 0 < length s → (get_or s 0 0 ≡ 48 → length s ≡ 1) → Some n ≡ numeral most s
  some-whole i n all e ds le pos lead =
      let t = take_all i s all in
      let v : digits_value 10 s ≡ n = sym (e ∙ ap (digits_value 10) t) in
      let z : no_zero_ahead s ≡ true = ⊎_elim (λ h. or_right _ _ (eq-eqb _ _ (lead h))) (λ h. or_left _ _ (not_from_false _ (ne_eqb _ _ h))) (cases_eq (get_or s 0 0) 48) in
      let pass : test most s ≡ true = and_from _ _ (lt-ltb _ _ pos) (and_from _ _ (sym (ap all_ascii_digits t) ∙ ds) (and_from _ _ z (le-leb _ _ (omega arith)))) in
      sym (cond-true (test most s) _ _ pass ∙ ap (λ m. Some m) v)

  pub one_more : (i n m : ℕ) → i < length s → is_ascii_digit (get_or s i 0) ≡ true → IsInRange 48 57 (get_or s i 0) → n ≡ digits_value 10 (take i s) → all_ascii_digits (take i s) ≡ true → m ≡ n * 10 + (get_or s i 0 - 48) → (m ≡ digits_value 10 (take (i + 1) s)) × (all_ascii_digits (take (i + 1) s) ≡ true)
  one_more i n m l d dig e ds step =
      let dv = digit_value (get_or s i 0) dig in
      (omega (arith, digits_value_more 10 s i l), ap all_ascii_digits (take_more s i 0 l) ∙ digits_push (take i s) (get_or s i 0) ∙ and_from _ _ ds d)

-- ── How many digits a number has ──
pub length-step : (n : ℕ) → 10 ≤ n → n < 2 ^ 64 → length (decimal n) ≡ length (decimal (n / 10)) + 1
length-step n big fits = ap length (decimal_step n big fits) ∙ length_push (decimal (n / 10)) (48 + n % 10)

pub length-by_power : (k n : ℕ) → 10 ^ k ≤ n → n < 10 * 10 ^ k → n < 2 ^ 64 → length (decimal n) ≡ k + 1
length-by_power zero n le lt fits = ap length (decimal_digit n (omega arith))
length-by_power (suc k) n le lt fits =
    let p = power-pos k in
    omega (arith, length-step n (omega arith) fits, length-by_power k (n / 10) (omega arith) (omega arith) (omega arith))
  where
    power-pos : (k : ℕ) → 0 < 10 ^ k
    power-pos zero = omega arith
    power-pos (suc k) = let h = power-pos k in omega arith
