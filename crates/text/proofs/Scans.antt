-- What a scan of a text has found at a byte, or at its end.
use Rattle.std.proofs.Common.{◌≡◌, ℕ, ◌+◌, ◌-◌, ◌<◌, ◌≤◌, false, eqb, List, [], ◌∷◌, ◌++◌, length, get_or, take, drop, Some, None, count_by, sym, refl, ap, ◌∙◌, ⊎_elim, subst, append_assoc, arith}
use Rattle.std.proofs.ByRecursion.{All-append, All-more}
use Rattle.std.proofs.lemmas.List.{take_all, get_or-drop, drop-drop, take-append-drop, drop_more, drop_all, take_rest}
use Rattle.std.proofs.lemmas.List.Sums.{count_by_more_yes, count_by_more_no}
use Rattle.std.proofs.lemmas.Bool.{cases_lt, ne_eqb, eq-eqb}
use Rattle.text.specs.Csv.{comma, cr, lf, on_first, split, fields, first_of, rest_of, lines, first_line}
use Rattle.text.proofs.Splits.{Free, cut, split-free, split-cut, split_on, split-ahead, line_at, line_not, line-free}

-- ── The first byte c of s ──
pub record Found (c : ℕ) (s : List ℕ) (i : ℕ) : Type 0 where
  pub inside : i < length s
  pub before : Free c (take i s)
  pub is : get_or s i 0 ≡ c

-- and none at all
pub none_found : (c : ℕ) (s : List ℕ) (i : ℕ) → length s ≤ i → Free c (take i s) → Free c s
none_found c s i l h = subst (Free c) (take_all i s l) h

-- ── At each byte of s before the place i ──
module _ (s : List ℕ) (i : ℕ) (l : i < length s) where
  pub around : s ≡ take i s ++ get_or s i 0 ∷ drop (i + 1) s
  around = sym (take-append-drop i s) ∙ ap (λ t. take i s ++ t) (drop_more s i 0 l)

  pub free_more : (c : ℕ) → Free c (take i s) → (get_or s i 0 ≡ c → ⊥) → Free c (take (i + 1) s)
  free_more c h ne = All-more (λ x. eqb x c ≡ false) s i 0 l h (ne_eqb _ _ ne)

  pub count_yes : (c n : ℕ) → n ≡ count_by (λ x. eqb x c) (take i s) + 1 → get_or s i 0 ≡ c → n + 1 ≡ count_by (λ x. eqb x c) (take (i + 1) s) + 1
  count_yes c n e is = omega (arith, count_by_more_yes (λ x. eqb x c) s i 0 l (eq-eqb _ _ is))

  pub count_no : (c n : ℕ) → n ≡ count_by (λ x. eqb x c) (take i s) + 1 → (get_or s i 0 ≡ c → ⊥) → n ≡ count_by (λ x. eqb x c) (take (i + 1) s) + 1
  count_no c n e ne = omega (arith, count_by_more_no (λ x. eqb x c) s i 0 l (ne_eqb _ _ ne))

  -- at the byte that cuts
  pub cut_at : (c : ℕ) → Free c (take i s) → get_or s i 0 ≡ c → split c s ≡ take i s ∷ split c (drop (i + 1) s)
  cut_at c h is = ap (split c) (around ∙ ap (λ x. take i s ++ x ∷ drop (i + 1) s) is) ∙ split-cut c (take i s) (drop (i + 1) s) h

-- what stands behind the first i bytes
pub behind_at : (s t : List ℕ) (i k j : ℕ) → t ≡ drop i s → i + k ≡ j → get_or t k 0 ≡ get_or s j 0
behind_at s t i k j is at = ap (λ l. get_or l k 0) is ∙ get_or-drop i s k 0 ∙ ap (λ n. get_or s n 0) at

pub rest_behind : (s t : List ℕ) (i : ℕ) → t ≡ drop i s → take (length t - 2) (drop 2 t) ≡ drop (i + 2) s
rest_behind s t i is = take_rest t 2 ∙ ap (drop 2) is ∙ drop-drop 2 i s

pub rest_of_lem : (s : List ℕ) (i : ℕ) → take (length s - i) (drop i s) ≡ drop i s
rest_of_lem s i = take_rest s i

-- ── Fields ──
pub first_field : (s : List ℕ) (i : ℕ) → Found comma s i → take i s ≡ first_of (fields s)
first_field s i f = sym (ap first_of (cut_at s i f.inside comma f.before f.is))

pub other-fields : (s : List ℕ) (i : ℕ) → Found comma s i → fields (take (length s - (i + 1)) (drop (i + 1) s)) ≡ rest_of (fields s)
other-fields s i f =
    let t = cut comma (drop (i + 1) s) in
    ap fields (rest_of_lem s (i + 1)) ∙ t.is ∙ sym (ap rest_of (cut_at s i f.inside comma f.before f.is ∙ ap (λ ps. take i s ∷ ps) t.is))

-- a line without a comma is one field
pub only_field : (s : List ℕ) → Free comma s → fields s ≡ s ∷ []
only_field s h = split-free comma s h

-- ── Lines ──
module _ (s : List ℕ) (i : ℕ) (a : Free cr (take i s)) (b : Free lf (take i s)) where
  -- CR LF
  pub lines_at : i + 1 < length s → get_or s i 0 ≡ cr → get_or s (i + 1) 0 ≡ lf → lines s ≡ (take i s ++ cr ∷ []) ∷ lines (drop (i + 2) s)
  lines_at l c d =
      let n : i + 1 + 1 ≡ i + 2 = omega arith in
      let tail : drop (i + 1) s ≡ lf ∷ drop (i + 2) s = drop_more s (i + 1) 0 l ∙ (λ j. d j ∷ drop (n j) s) in
      let whole : s ≡ (take i s ++ cr ∷ []) ++ lf ∷ drop (i + 2) s = around s i (omega arith) ∙ (λ j. take i s ++ c j ∷ tail j) ∙ sym (append_assoc (take i s) (cr ∷ []) (lf ∷ drop (i + 2) s)) in
      ap lines whole ∙ split-cut lf (take i s ++ cr ∷ []) (drop (i + 2) s) (All-append (λ x. eqb x lf ≡ false) (take i s) (cr ∷ []) b (refl, tt))

  pub line-found : i + 1 < length s → get_or s i 0 ≡ cr → get_or s (i + 1) 0 ≡ lf → first_line (lines s) ≡ Some (take i s)
  line-found l c d =
      let t = cut lf (drop (i + 2) s) in
      ap first_line (lines_at l c d ∙ ap (λ ps. (take i s ++ cr ∷ []) ∷ ps) t.is) ∙ line_at (take i s) a

  -- LF alone
  pub line_lf : i < length s → get_or s i 0 ≡ lf → first_line (lines s) ≡ None
  line_lf l c =
      let t = cut lf (drop (i + 1) s) in
      ap first_line (cut_at s i l lf b c ∙ ap (λ ps. take i s ∷ ps) t.is) ∙ line-free (take i s) a

  -- CR with another byte behind it
  pub line_cr : i + 1 < length s → get_or s i 0 ≡ cr → (get_or s (i + 1) 0 ≡ lf → ⊥) → first_line (lines s) ≡ None
  line_cr l c ne =
      let x = get_or s (i + 1) 0 in
      let u = drop (i + 1 + 1) s in
      let t = cut lf u in
      let whole : s ≡ take i s ++ cr ∷ x ∷ u = around s i (omega arith) ∙ (λ j. take i s ++ c j ∷ drop_more s (i + 1) 0 l j) in
      let on : lines (cr ∷ x ∷ u) ≡ (cr ∷ x ∷ t.part) ∷ t.others = ap (λ ps. on_first cr ps) (split_on lf x u (ne_eqb _ _ ne) ∙ ap (on_first x) t.is) in
      ap first_line (ap lines whole ∙ split-ahead lf (take i s) (cr ∷ x ∷ u) (cr ∷ x ∷ t.part) t.others b on) ∙ none t.others
    where
      none : (ps : List (List ℕ)) → first_line ((take i s ++ cr ∷ get_or s (i + 1) 0 ∷ (cut lf (drop (i + 1 + 1) s)).part) ∷ ps) ≡ None
      none [] = refl
      none (p ∷ ps) = line_not (take i s) (get_or s (i + 1) 0) (cut lf (drop (i + 1 + 1) s)).part a

  -- CR as the last byte
  pub line-last : length s ≤ i + 1 → i < length s → get_or s i 0 ≡ cr → first_line (lines s) ≡ None
  line-last e l c =
      let whole : s ≡ take i s ++ cr ∷ [] = around s i l ∙ (λ j. take i s ++ c j ∷ drop_all (i + 1) s e j) in
      ap first_line (ap lines whole ∙ split-free lf (take i s ++ cr ∷ []) (All-append (λ x. eqb x lf ≡ false) (take i s) (cr ∷ []) b (refl, tt)))

  -- no end at all
  pub line_open : length s ≤ i → first_line (lines s) ≡ None
  line_open l = ap first_line (split-free lf s (subst (Free lf) (take_all i s l) b))

  -- CR that no LF follows
  pub cr_broken : get_or s i 0 ≡ cr → i < length s → (i + 1 < length s → get_or s (i + 1) 0 ≡ lf → ⊥) → first_line (lines s) ≡ None
  cr_broken c l no' = ⊎_elim (λ m. line_cr m c (no' m)) (λ e. line-last e l c) (cases_lt (i + 1) (length s))
