-- How many numbers of a list, and how many below a bound, pass a test.
use Rattle.std.proofs.Common.{◌≡◌, ℕ, zero, suc, ◌+◌, ◌<◌, ◌≤◌, Bool, true, false, cond, eqb, ltb, ◌≢◌, List, [], ◌∷◌, ◌++◌, length, sym, refl, ap, ◌∙◌, ⊎_elim, append-nil, arith}
use Rattle.std.specs.List.{AllByRecursion}
use Rattle.std.proofs.ByRecursion.{All-weaker}
use Rattle.std.proofs.lemmas.Bool.{eq-eqb, ne_eqb, lt-ltb, le-ltb, cases_lt, cases_eq, cond-true, cond-false}
use Rattle.agreement.specs.Moments.{count}

-- ── What holds of each number of a list ──
pub all-each : {P Q : ℕ → Type 0} → ((x : ℕ) → P x → Q x) → (xs : List ℕ) → AllByRecursion P xs → AllByRecursion Q xs
all-each {P} {Q} f xs h = All-weaker P Q f xs h

module _ (P : ℕ → Type 0) where
  pub all_left : (xs ys : List ℕ) → AllByRecursion P (xs ++ ys) → AllByRecursion P xs
  all_left [] ys h = tt
  all_left (x ∷ xs) ys h = (h.0, all_left xs ys h.1)

  pub all_right : (xs ys : List ℕ) → AllByRecursion P (xs ++ ys) → AllByRecursion P ys
  all_right [] ys h = h
  all_right (x ∷ xs) ys h = all_right xs ys h.1

-- ── In a list ──
-- one more if a test passes
abbrev pub one_if : Bool → ℕ → ℕ
one_if b n = cond b (suc n) n

-- two tests in either order
pub one_swap : (b d : Bool) (n : ℕ) → one_if b (one_if d n) ≡ one_if d (one_if b n)
one_swap true true n = refl
one_swap true false n = refl
one_swap false true n = refl
one_swap false false n = refl

pub one_left : (b : Bool) (m n : ℕ) → one_if b m + n ≡ one_if b (m + n)
one_left true m n = omega arith
one_left false m n = refl

pub one_right : (b : Bool) (m n : ℕ) → m + one_if b n ≡ one_if b (m + n)
one_right true m n = omega arith
one_right false m n = refl

module _ (f : ℕ → Bool) where
  abbrev pub tally_by : List ℕ → ℕ
  tally_by [] = 0
  tally_by (x ∷ xs) = one_if (f x) (tally_by xs)

  pub tally-append : (xs ys : List ℕ) → tally_by (xs ++ ys) ≡ tally_by xs + tally_by ys
  tally-append [] ys = omega arith
  tally-append (x ∷ xs) ys = ap (one_if (f x)) (tally-append xs ys) ∙ sym (one_left (f x) (tally_by xs) (tally_by ys))

  -- a number in the midst might stand in front
  pub tally_pull : (x : ℕ) (us vs : List ℕ) → tally_by (us ++ (x ∷ vs)) ≡ tally_by (x ∷ (us ++ vs))
  tally_pull x us vs =
      tally-append us (x ∷ vs) ∙ one_right (f x) (tally_by us) (tally_by vs) ∙ ap (one_if (f x)) (sym (tally-append us vs))

  pub tally-snoc : (xs : List ℕ) (x : ℕ) → tally_by (xs ++ (x ∷ [])) ≡ one_if (f x) (tally_by xs)
  tally-snoc xs x = tally_pull x xs [] ∙ ap (λ l. tally_by (x ∷ l)) (append-nil xs)

  pub tally-all : (xs : List ℕ) → AllByRecursion (λ x. f x ≡ true) xs → tally_by xs ≡ length xs
  tally-all [] h = refl
  tally-all (x ∷ xs) h = cond-true (f x) (suc (tally_by xs)) (tally_by xs) h.0 ∙ ap suc (tally-all xs h.1)

  pub tally-none : (xs : List ℕ) → AllByRecursion (λ x. f x ≡ false) xs → tally_by xs ≡ 0
  tally-none [] h = refl
  tally-none (x ∷ xs) h = cond-false (f x) (suc (tally_by xs)) (tally_by xs) h.0 ∙ tally-none xs h.1

  pub tally_zero : (xs : List ℕ) → tally_by xs ≡ 0 → AllByRecursion (λ x. f x ≡ false) xs
  tally_zero [] e = tt
  tally_zero (x ∷ xs) e = go (f x) refl e (λ k. tally_zero xs k)
    where
      go : (b : Bool) → f x ≡ b → one_if b (tally_by xs) ≡ 0 → (tally_by xs ≡ 0 → AllByRecursion (λ x. f x ≡ false) xs)
          → (f x ≡ false) × AllByRecursion (λ x. f x ≡ false) xs
      go true q k rec = absurd (omega arith)
      go false q k rec = (q, rec k)

-- ── Below a bound ──
pub count_none : (f : ℕ → Bool) (n : ℕ) → ((k : ℕ) → k < n → f k ≡ false) → count f n ≡ 0
count_none f zero h = refl
count_none f (suc n) h = cond-false (f n) _ _ (h n (omega arith)) ∙ count_none f n (λ k l. h k (omega arith))

-- one number
pub count-one : (p n : ℕ) → count (λ k. eqb p k) n ≡ cond (ltb p n) 1 0
count-one p zero = sym (cond-false (ltb p zero) 1 0 (le-ltb p zero (omega arith)))
count-one p (suc n) = ⊎_elim (λ (e : p ≡ n). hit e) (λ (e : p ≢ n). miss e (count-one p n)) (cases_eq p n)
  where
    hit : p ≡ n → count (λ k. eqb p k) (suc n) ≡ cond (ltb p (suc n)) 1 0
    hit e =
        cond-true (eqb p n) _ _ (eq-eqb p n e)
        ∙ ap suc (count_none (λ k. eqb p k) n (λ k l. ne_eqb p k (λ q. omega arith)))
        ∙ sym (cond-true (ltb p (suc n)) 1 0 (lt-ltb p (suc n) (omega arith)))

    miss : (p ≡ n → ⊥) → count (λ k. eqb p k) n ≡ cond (ltb p n) 1 0 → count (λ k. eqb p k) (suc n) ≡ cond (ltb p (suc n)) 1 0
    miss e h =
        cond-false (eqb p n) _ _ (ne_eqb p n e) ∙ h
        ∙ ap (λ b. cond b 1 0)
        (⊎_elim (λ (l : p < n). lt-ltb p n l ∙ sym (lt-ltb p (suc n) (omega arith)))
        (λ (l : n ≤ p). le-ltb p n l ∙ sym (le-ltb p (suc n) (omega arith))) (cases_lt p n))
