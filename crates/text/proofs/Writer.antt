-- Loops that measure rows and write their text, one row after the other.
use Rattle.std.proofs.Common.{◌≡◌, ℕ, ◌+◌, ◌<◌, ◌≤◌, Bool, true, false, cond, ◌&&◌, ltb, List, [], ◌∷◌, ◌++◌, map, length, get_or, take, drop, Ok, Err, sym, refl, ap, ◌∙◌, subst, append_assoc, arith, length-append}
use Rattle.std.specs.List.{flat_map, AllByRecursion}
use Rattle.std.proofs.ByRecursion.{All-map, All-push}
use Rattle.std.proofs.lemmas.List.{map-append, map_more, take_more, take_all, take-append-drop, drop_more, flat_map_more, length-map, length-take-le}
use Rattle.std.proofs.lemmas.Bool.{cond-true, cond-false, and_from, and_left, and_right, le-ltb}
use Rattle.records.specs.Refusals.{Refusal, refusal}
use Rattle.text.specs.Sheets.{Sheet, Fit, ended, row_text, text_of, all_known, rows_known}
use Rattle.text.specs.Writing.{measured, fitting, writing}
use Rattle.text.proofs.Apart.{cond_ok, cond_err}
use Rattle.text.proofs.RoundTrip.{Made, text-short}

-- ── Letters ──
known-append : (sh : Sheet) (xs ys : List (List ℕ)) → rows_known sh (xs ++ ys) ≡ (rows_known sh xs && rows_known sh ys)
known-append sh [] ys = refl
known-append sh (x ∷ xs) ys = ap (λ b. all_known sh.columns x && b) (known-append sh xs ys) ∙ sym (assoc (all_known sh.columns x) (rows_known sh xs) (rows_known sh ys))
  where
    assoc : (a b c : Bool) → ((a && b) && c) ≡ (a && (b && c))
    assoc true b c = refl
    assoc false b c = refl

known-fit : (sh : Sheet) (rows : List (List ℕ)) → AllByRecursion (Fit sh.columns) rows → rows_known sh rows ≡ true
known-fit sh [] h = refl
known-fit sh (r ∷ rs) (f, h) = and_from _ _ f.knows (known-fit sh rs h)

-- ── Texts ──
text-append : (sh : Sheet) (xs ys : List (List ℕ)) → text_of sh (xs ++ ys) ≡ text_of sh xs ++ flat_map (row_text sh.columns) ys
text-append sh xs ys = ap (λ t. ended sh.header ++ t) (joined-append xs) ∙ sym (append_assoc (ended sh.header) (flat_map (row_text sh.columns) xs) (flat_map (row_text sh.columns) ys))
  where
    joined-append : (xs : List (List ℕ)) → flat_map (row_text sh.columns) (xs ++ ys) ≡ flat_map (row_text sh.columns) xs ++ flat_map (row_text sh.columns) ys
    joined-append [] = refl
    joined-append (x ∷ xs) = ap (λ t. row_text sh.columns x ++ t) (joined-append xs) ∙ sym (append_assoc (row_text sh.columns x) (flat_map (row_text sh.columns) xs) (flat_map (row_text sh.columns) ys))

module _ {X : Type 0} (sh : Sheet) (cells : X → List ℕ) (rows : List X) where
  -- the text of the first i rows
  abbrev pub Front : ℕ → List ℕ
  Front i = text_of sh (map cells (take i rows))

  -- and of these rows without the header
  abbrev pub Lines : ℕ → List ℕ
  Lines i = flat_map (row_text sh.columns) (map cells (take i rows))

  abbrev pub Fits : List X → Type 0
  Fits xs = AllByRecursion (λ x. Fit sh.columns (cells x)) xs

  pub front-all : (i : ℕ) → length rows ≤ i → Front i ≡ text_of sh (map cells rows)
  front-all i l = ap (λ xs. text_of sh (map cells xs)) (take_all i rows l)

  pub lines-more : (i : ℕ) (x : X) → i < length rows → x ≡ get_or rows i x → Lines (i + 1) ≡ Lines i ++ row_text sh.columns (cells x)
  lines-more i x l is =
      ap (flat_map (row_text sh.columns)) (map_more cells rows i x l ∙ ap (λ y. map cells (take i rows) ++ cells y ∷ []) (sym is))
      ∙ sym (flat_map_more (row_text sh.columns) [] (map cells (take i rows)) (cells x))

  pub front-more : (i : ℕ) (x : X) → i < length rows → x ≡ get_or rows i x → Front (i + 1) ≡ Front i ++ row_text sh.columns (cells x)
  front-more i x l is = ap (λ t. ended sh.header ++ t) (lines-more i x l is) ∙ sym (append_assoc (ended sh.header) (Lines i) (row_text sh.columns (cells x)))

  pub front_le : (i : ℕ) → length (Front i) ≤ length (text_of sh (map cells rows))
  front_le i =
      let whole : text_of sh (map cells rows) ≡ Front i ++ flat_map (row_text sh.columns) (map cells (drop i rows)) =
      ap (λ xs. text_of sh (map cells xs)) (sym (take-append-drop i rows)) ∙ ap (text_of sh) (map-append cells (take i rows) (drop i rows)) ∙ text-append sh (map cells (take i rows)) (map cells (drop i rows)) in
      omega (arith, ap length whole, length-append (Front i) (flat_map (row_text sh.columns) (map cells (drop i rows))))

  pub front-short : (i : ℕ) → Made sh → length rows ≤ sh.most → i ≤ length rows → Fits (take i rows) → length (Front i) ≤ 65535
  front-short i m few l h =
      text-short sh (map cells (take i rows)) m (All-map (Fit sh.columns) cells (take i rows) h) (omega (arith, length-map (take i rows) cells, length-take-le i rows l))

  pub fits_more : (i : ℕ) (x : X) → i < length rows → x ≡ get_or rows i x → Fits (take i rows) → Fit sh.columns (cells x) → Fits (take (i + 1) rows)
  fits_more i x l is h f =
      subst Fits (sym (take_more rows i x l ∙ ap (λ y. take i rows ++ y ∷ []) (sym is))) (All-push (λ y. Fit sh.columns (cells y)) (take i rows) x h f)

  -- ── What the measuring answers ──
  pub unknown : (i : ℕ) (x : X) → i < length rows → x ≡ get_or rows i x → all_known sh.columns (cells x) ≡ false → Err (refusal 3 0) ≡ measured sh (map cells rows)
  unknown i x l is no' =
      let whole : map cells rows ≡ map cells (take i rows) ++ cells x ∷ map cells (drop (i + 1) rows) =
      ap (map cells) (sym (take-append-drop i rows) ∙ ap (λ t. take i rows ++ t) (drop_more rows i x l ∙ ap (λ y. y ∷ drop (i + 1) rows) (sym is))) ∙ map-append cells (take i rows) (x ∷ drop (i + 1) rows) in
      sym (cond-false (rows_known sh (map cells rows)) _ _
      (ap (rows_known sh) whole ∙ known-append sh (map cells (take i rows)) (cells x ∷ map cells (drop (i + 1) rows)) ∙ and_right (rows_known sh (map cells (take i rows))) _ (and_left _ _ no')))

  pub known-all : Fits rows → rows_known sh (map cells rows) ≡ true
  known-all h = known-fit sh (map cells rows) (All-map (Fit sh.columns) cells rows h)

  pub all-measured : (i n : ℕ) → length rows ≤ i → n ≡ length (Front i) → Fits (take i rows) → Ok n ≡ measured sh (map cells rows)
  all-measured i n l e h =
      ap (λ m. Ok m) (e ∙ ap length (front-all i l)) ∙ sym (cond-true (rows_known sh (map cells rows)) _ _ (known-all (subst Fits (take_all i rows l) h)))

-- ── What the writing answers ──
pub fits_all : (text : List ℕ) (room n : ℕ) → n ≡ length text → length text ≤ room → Ok n ≡ fitting text room
fits_all text room n is l = ap (λ m. Ok m) is ∙ sym (cond-false (ltb room (length text)) _ _ (le-ltb _ _ l))

module _ (sh : Sheet) (rows : List (List ℕ)) (room : ℕ) where
  module _ (few : length rows ≤ sh.most) where
    looks : writing sh rows room ≡ cond (rows_known sh rows) (fitting (text_of sh rows) room) (Err (refusal 3 0))
    looks = cond-false (ltb sh.most (length rows)) _ _ (le-ltb _ _ few)

    pub writes-unknown : (e : Refusal) → Err e ≡ measured sh rows → Err e ≡ writing sh rows room
    writes-unknown e h =
        let p = cond_err (rows_known sh rows) (length (text_of sh rows)) e (refusal 3 0) h in
        ap (λ d. Err d) p.1 ∙ sym (looks ∙ cond-false (rows_known sh rows) _ _ p.0)

    module _ (n : ℕ) (h : Ok n ≡ measured sh rows) where
      pub size_is : n ≡ length (text_of sh rows)
      size_is = (cond_ok (rows_known sh rows) (length (text_of sh rows)) n (refusal 3 0) h).1

      known : writing sh rows room ≡ fitting (text_of sh rows) room
      known = looks ∙ cond-true (rows_known sh rows) _ _ (cond_ok (rows_known sh rows) (length (text_of sh rows)) n (refusal 3 0) h).0

      pub writes-all : n ≤ room → Ok n ≡ writing sh rows room
      writes-all l = fits_all (text_of sh rows) room n size_is (omega (arith, size_is)) ∙ sym known
