-- Texts cut at a byte, and put together again.
use Rattle.std.proofs.Common.{◌≡◌, ℕ, ◌+◌, ◌<◌, true, false, cond, eqb, ◌⊎◌, List, [], ◌∷◌, ◌++◌, length, Some, None, count_by, sym, refl, ap, ◌∙◌, inl, inr, arith}
use Rattle.std.specs.List.{AllByRecursion}
use Rattle.std.proofs.lemmas.List.Sums.{sum_by-cons}
use Rattle.std.proofs.lemmas.Bool.{cond-true, cond-false, cases_Bool, eq-eqb, eqb-true}
use Rattle.text.specs.Csv.{cr, on_first, split, join, line_of, only_first}
use Rattle.text.specs.Sheets.{free}
use Rattle.text.proofs.Apart.{none≢some, some_same}

-- no byte of s is c
abbrev pub Free : ℕ → List ℕ → Type 0
Free c s = AllByRecursion (λ x. eqb x c ≡ false) s

-- ── A text has a first stretch ──
pub record Cut (c : ℕ) (s : List ℕ) : Type 0 where
  pub part : List ℕ
  pub others : List (List ℕ)
  pub is : split c s ≡ part ∷ others

pub cut : (c : ℕ) (s : List ℕ) → Cut c s
cut c [] = record { part = []; others = []; is = refl }
cut c (x ∷ xs) = by (cut c xs) (cases_Bool (eqb x c))
  where
    by : Cut c xs → (eqb x c ≡ true) ⊎ (eqb x c ≡ false) → Cut c (x ∷ xs)
    by h (inl e) = record { part = []; others = split c xs; is = cond-true _ _ _ e }
    by h (inr e) = record { part = x ∷ h.part; others = h.others; is = cond-false _ _ _ e ∙ ap (on_first x) h.is }

module _ (c x : ℕ) (xs : List ℕ) where
  pub split_at : eqb x c ≡ true → split c (x ∷ xs) ≡ [] ∷ split c xs
  split_at e = cond-true _ _ _ e

  pub split_on : eqb x c ≡ false → split c (x ∷ xs) ≡ on_first x (split c xs)
  split_on e = cond-false _ _ _ e

-- ── What is cut ──
pub split-free : (c : ℕ) (s : List ℕ) → Free c s → split c s ≡ s ∷ []
split-free c [] h = refl
split-free c (x ∷ xs) (e, h) = split_on c x xs e ∙ ap (on_first x) (split-free c xs h)

pub split-cut : (c : ℕ) (a b : List ℕ) → Free c a → split c (a ++ c ∷ b) ≡ a ∷ split c b
split-cut c [] b h = split_at c c b (eq-eqb c c refl)
split-cut c (x ∷ xs) b (e, h) = split_on c x (xs ++ c ∷ b) e ∙ ap (on_first x) (split-cut c xs b h)

-- a front without c stands before the first stretch of the rest
pub split-ahead : (c : ℕ) (a s p : List ℕ) (ps : List (List ℕ)) → Free c a → split c s ≡ p ∷ ps → split c (a ++ s) ≡ (a ++ p) ∷ ps
split-ahead c [] s p ps h is = is
split-ahead c (x ∷ xs) s p ps (e, h) is = split_on c x (xs ++ s) e ∙ ap (on_first x) (split-ahead c xs s p ps h is)

pub length-split : (c : ℕ) (s : List ℕ) → length (split c s) ≡ count_by (λ x. eqb x c) s + 1
length-split c [] = refl
length-split c (x ∷ xs) = by (length-split c xs) (cases_Bool (eqb x c))
  where
    one : count_by (λ y. eqb y c) (x ∷ xs) ≡ cond (eqb x c) 1 0 + count_by (λ y. eqb y c) xs
    one = sum_by-cons (λ y. cond (eqb y c) 1 0) x xs

    same : (ps : List (List ℕ)) → 0 < length ps → length (on_first x ps) ≡ length ps
    same [] l = absurd (omega arith)
    same (p ∷ ps) l = refl

    by : length (split c xs) ≡ count_by (λ y. eqb y c) xs + 1 → (eqb x c ≡ true) ⊎ (eqb x c ≡ false) → length (split c (x ∷ xs)) ≡ count_by (λ y. eqb y c) (x ∷ xs) + 1
    by h (inl e) = omega (arith, ap length (split_at c x xs e), one, cond-true {A = ℕ} _ 1 0 e)
    by h (inr e) = omega (arith, ap length (split_on c x xs e), same (split c xs) (omega arith), one, cond-false {A = ℕ} _ 1 0 e)

-- one stretch alone: the byte is not there
pub free-from-split : (c : ℕ) (s : List ℕ) → length (split c s) ≡ 1 → Free c s
free-from-split c [] h = tt
free-from-split c (x ∷ xs) h = by (cut c xs) (cases_Bool (eqb x c)) (λ l. free-from-split c xs l)
  where
    by : Cut c xs → (eqb x c ≡ true) ⊎ (eqb x c ≡ false) → (length (split c xs) ≡ 1 → Free c xs) → Free c (x ∷ xs)
    by t (inl e) ih = absurd (omega (arith, ap length (split_at c x xs e), ap length t.is))
    by t (inr e) ih =
        let n = ap (λ l. length (on_first x l)) t.is in
        (e, ih (omega (arith, ap length (split_on c x xs e), ap length t.is)))

pub free_true : (c : ℕ) (s : List ℕ) → free c s ≡ true → Free c s
free_true c s h = free-from-split c s (eqb-true _ _ h)

-- ── And put together again ──
pub join_first : (c x : ℕ) (p : List ℕ) (ps : List (List ℕ)) → join c ((x ∷ p) ∷ ps) ≡ x ∷ join c (p ∷ ps)
join_first c x p [] = refl
join_first c x p (q ∷ ps) = refl

pub join-split : (c : ℕ) (s : List ℕ) → join c (split c s) ≡ s
join-split c [] = refl
join-split c (x ∷ xs) = by (cut c xs) (join-split c xs) (cases_Bool (eqb x c))
  where
    by : Cut c xs → join c (split c xs) ≡ xs → (eqb x c ≡ true) ⊎ (eqb x c ≡ false) → join c (split c (x ∷ xs)) ≡ x ∷ xs
    by t h (inl e) =
        let j : join c (t.part ∷ t.others) ≡ xs = sym (ap (join c) t.is) ∙ h in
        ap (join c) (split_at c x xs e ∙ ap (λ l. [] ∷ l) t.is) ∙ (λ i. sym (eqb-true x c e) i ∷ j i)
    by t h (inr e) =
        ap (join c) (split_on c x xs e ∙ ap (on_first x) t.is) ∙ join_first c x t.part t.others ∙ ap (λ l. x ∷ l) (sym (ap (join c) t.is) ∙ h)

pub split-join : (c : ℕ) (ps : List (List ℕ)) → AllByRecursion (Free c) ps → 0 < length ps → split c (join c ps) ≡ ps
split-join c [] h l = absurd (omega arith)
split-join c (p ∷ []) h l = split-free c p h.0
split-join c (p ∷ q ∷ ps) h l = split-cut c p (join c (q ∷ ps)) h.0 ∙ ap (λ t. p ∷ t) (split-join c (q ∷ ps) h.1 (omega arith))

-- ── A line and its end ──
pub line_at : (a : List ℕ) → Free cr a → line_of (a ++ cr ∷ []) ≡ Some a
line_at a h = ap only_first (split-cut cr a [] h)

-- a CR with something behind it, and no CR at all, make no line
pub line_not : (a : List ℕ) (x : ℕ) (b : List ℕ) → Free cr a → line_of (a ++ cr ∷ x ∷ b) ≡ None
line_not a x b h = by (cut cr b) (cases_Bool (eqb x cr))
  where
    by : Cut cr b → (eqb x cr ≡ true) ⊎ (eqb x cr ≡ false) → line_of (a ++ cr ∷ x ∷ b) ≡ None
    by t (inl e) = ap only_first (split-cut cr a (x ∷ b) h ∙ ap (λ l. a ∷ l) (split_at cr x b e ∙ ap (λ l. [] ∷ l) t.is))
    by t (inr e) = ap only_first (split-cut cr a (x ∷ b) h ∙ ap (λ l. a ∷ l) (split_on cr x b e ∙ ap (on_first x) t.is))

pub line-free : (a : List ℕ) → Free cr a → line_of a ≡ None
line-free a h = ap only_first (split-free cr a h)

-- what a line was made of
pub line-whole : (p a : List ℕ) → line_of p ≡ Some a → p ≡ a ++ cr ∷ []
line-whole p a e = sym (join-split cr p) ∙ whole (split cr p) e
  where
    whole : (ps : List (List ℕ)) → only_first ps ≡ Some a → join cr ps ≡ a ++ cr ∷ []
    whole [] h = absurd (none≢some a h)
    whole (q ∷ []) h = absurd (none≢some a h)
    whole (q ∷ [] ∷ []) h = ap (λ l. l ++ cr ∷ []) (some_same q a h)
    whole (q ∷ [] ∷ r ∷ rs) h = absurd (none≢some a h)
    whole (q ∷ (x ∷ xs) ∷ rs) h = absurd (none≢some a h)
