-- Cells and their texts: each is read back, and what is read is the text of what was read.
use Rattle.std.proofs.Common.{◌≡◌, ℕ, true, false, cond, ◌&&◌, eqb, ltb, leb, List, [], ◌∷◌, length, get_or, Some, None, Ok, Err, decimal, Option, Result, sym, refl, ap, ◌∙◌, ⊎_elim, arith}
use Rattle.std.specs.Char.{is_ascii_digit, is_ascii_alphabetic}
use Rattle.std.specs.Str.{all_ascii_digits}
use Rattle.std.proofs.lemmas.Bool.{cond-true, cond-false, cond_both, cases_Bool, and_parts, and_left, and_right, leb-true, lt-leb, ne_eqb, false≢true}
use Rattle.records.specs.Letters.{among}
use Rattle.text.specs.Csv.{rest_of}
use Rattle.records.specs.Refusals.{Refusal, refusal}
use Rattle.text.specs.Fields.{number, letter, neither, kind_of, numeral, number_in, letter_in}
use Rattle.text.specs.Reading.{ok_or, cell_of, then, cells_of}
use Rattle.text.specs.Sheets.{Column, numbers, letters, cell_text, cell_texts, known, all_known, within, all_within, all_letters, proper, all_proper}
use Rattle.text.proofs.Apart.{none≢some, some_same, err≢ok, ok_same}
use Rattle.text.proofs.Letters.{letter-high, not_among}
use Rattle.text.proofs.Numerals.{numeral-decimal, decimal-numeral, none-plain}

-- ── A stretch that is told as a number or a letter ──
number-told : (most : ℕ) (s : List ℕ) → number_in most (kind_of s) ≡ numeral most s
number-told most s = ⊎_elim digits others (cases_Bool (ltb 0 (length s) && all_ascii_digits s))
  where
    digits : (ltb 0 (length s) && all_ascii_digits s) ≡ true → number_in most (kind_of s) ≡ numeral most s
    digits h = ap (number_in most) (cond-true (ltb 0 (length s) && all_ascii_digits s) (number s) _ h)

    none : number_in most (cond (eqb (length s) 1 && is_ascii_alphabetic (get_or s 0 0)) (letter s) (neither s)) ≡ None
    none = cond_both (eqb (length s) 1 && is_ascii_alphabetic (get_or s 0 0)) (letter s) (neither s) (λ k. number_in most k ≡ None) (λ e. refl) (λ e. refl)

    others : (ltb 0 (length s) && all_ascii_digits s) ≡ false → number_in most (kind_of s) ≡ numeral most s
    others h = ap (number_in most) (cond-false (ltb 0 (length s) && all_ascii_digits s) (number s) _ h) ∙ none ∙ none-plain most s h

-- the one letter of a stretch
abbrev lone : List ℕ → List ℕ → Option ℕ
lone ls [] = None
lone ls (c ∷ []) = cond (among c ls) (Some c) None
lone ls (c ∷ d ∷ cs) = None

letter_digit : (c : ℕ) → is_ascii_alphabetic c ≡ true → is_ascii_digit c ≡ false
letter_digit c h = and_right (leb 48 c) (leb c 57) (lt-leb c 57 (omega (arith, letter-high c h)))

letter-told : (ls s : List ℕ) → all_letters ls ≡ true → letter_in ls (kind_of s) ≡ lone ls s
letter-told ls [] p = refl
letter-told ls (c ∷ []) p = ⊎_elim one other (cases_Bool (is_ascii_alphabetic c))
  where
    one : is_ascii_alphabetic c ≡ true → letter_in ls (kind_of (c ∷ [])) ≡ lone ls (c ∷ [])
    one h = ap (letter_in ls) (cond-false (is_ascii_digit c && true) (number (c ∷ [])) _ (and_left _ true (letter_digit c h)) ∙ cond-true (is_ascii_alphabetic c) (letter (c ∷ [])) _ h)

    other : is_ascii_alphabetic c ≡ false → letter_in ls (kind_of (c ∷ [])) ≡ lone ls (c ∷ [])
    other h =
        cond_both (is_ascii_digit c && true) (number (c ∷ [])) (cond (is_ascii_alphabetic c) (letter (c ∷ [])) (neither (c ∷ []))) (λ k. letter_in ls k ≡ None) (λ e. refl)
        (λ e. ap (letter_in ls) (cond-false (is_ascii_alphabetic c) (letter (c ∷ [])) _ h))
        ∙ sym (cond-false (among c ls) (Some c) None (not_among c ls p h))
letter-told ls (c ∷ d ∷ cs) p =
    let n : eqb (length (c ∷ d ∷ cs)) 1 ≡ false = ne_eqb (length (c ∷ d ∷ cs)) 1 (λ e. omega arith) in
    cond_both (ltb 0 (length (c ∷ d ∷ cs)) && all_ascii_digits (c ∷ d ∷ cs)) (number (c ∷ d ∷ cs)) (cond (eqb (length (c ∷ d ∷ cs)) 1 && is_ascii_alphabetic c) (letter (c ∷ d ∷ cs)) (neither (c ∷ d ∷ cs))) (λ k. letter_in ls k ≡ None) (λ e. refl)
    (λ e. ap (letter_in ls) (cond-false (eqb (length (c ∷ d ∷ cs)) 1 && is_ascii_alphabetic c) (letter (c ∷ d ∷ cs)) _ (and_left _ _ n)))

-- ── One cell ──
pub cell-reads : (i : ℕ) (k : Column) (n : ℕ) → proper k ≡ true → known k n ≡ true → within k n ≡ true → cell_of i k (cell_text k n) ≡ Ok n
cell-reads i (numbers most) n p h w =
    let a = leb-true _ _ p in let b = leb-true _ _ w in
    ap (λ o. ok_or o (refusal 2 i)) (number-told most (decimal n) ∙ numeral-decimal most n b (omega arith))
cell-reads i (letters ls) n p h w = ap (λ o. ok_or o (refusal 3 i)) (letter-told ls (n ∷ []) p ∙ cond-true (among n ls) _ _ h)

ok_from : {X : Type 0} (o : Option X) (e : Refusal) (x : X) → ok_or o e ≡ Ok x → o ≡ Some x
ok_from None e x h = absurd (err≢ok e x h)
ok_from (Some y) e x h = ap (λ t. Some t) (ok_same y x h)

lone-from : (ls s : List ℕ) (n : ℕ) → lone ls s ≡ Some n → s ≡ n ∷ []
lone-from ls [] n e = absurd (none≢some n e)
lone-from ls (c ∷ []) n e = ⊎_elim is is_not (cases_Bool (among c ls))
  where
    is : among c ls ≡ true → c ∷ [] ≡ n ∷ []
    is h = ap (λ t. t ∷ []) (some_same c n (sym (cond-true (among c ls) (Some c) None h) ∙ e))

    is_not : among c ls ≡ false → c ∷ [] ≡ n ∷ []
    is_not h = absurd (none≢some n (sym (cond-false (among c ls) (Some c) None h) ∙ e))
lone-from ls (c ∷ d ∷ cs) n e = absurd (none≢some n e)

pub cell-text : (i : ℕ) (k : Column) (s : List ℕ) (n : ℕ) → proper k ≡ true → cell_of i k s ≡ Ok n → s ≡ cell_text k n
cell-text i (numbers most) s n p e = let a = leb-true _ _ p in decimal-numeral most s n (omega arith) (sym (number-told most s) ∙ ok_from _ _ _ e)
cell-text i (letters ls) s n p e = lone-from ls s n (sym (letter-told ls s p) ∙ ok_from _ _ _ e)

-- ── The cells of a row ──
pub cells-read : (i : ℕ) (ks : List Column) (ns : List ℕ) → all_proper ks ≡ true → all_known ks ns ≡ true → all_within ks ns ≡ true → cells_of i ks (cell_texts ks ns) ≡ Ok ns
cells-read i [] [] p h w = refl
cells-read i [] (n ∷ ns) p h w = absurd (false≢true w)
cells-read i (k ∷ ks) [] p h w = absurd (false≢true w)
cells-read i (k ∷ ks) (n ∷ ns) p h w =
    let p' = and_parts _ _ p in let h' = and_parts _ _ h in let w' = and_parts _ _ w in
    ap (λ r. then r (λ m. then (cells_of i ks (rest_of (cell_text k n ∷ cell_texts ks ns))) (λ ms. Ok (m ∷ ms)))) (cell-reads i k n p'.0 h'.0 w'.0)
    ∙ ap (λ r. then r (λ ms. Ok (n ∷ ms))) (rest ks ns (cells-read i ks ns p'.1 h'.1 w'.1) w'.1)
  where
    rest : (ks : List Column) (ns : List ℕ) → cells_of i ks (cell_texts ks ns) ≡ Ok ns → all_within ks ns ≡ true → cells_of i ks (rest_of (cell_text k n ∷ cell_texts ks ns)) ≡ Ok ns
    rest [] [] e v = refl
    rest [] (m ∷ ms) e v = absurd (false≢true v)
    rest (l ∷ ls) [] e v = absurd (false≢true v)
    rest (l ∷ ls) (m ∷ ms) e v = e

then_ok : {X Y : Type 0} (r : Result X Refusal) (f : X → Result Y Refusal) (y : Y) → then r f ≡ Ok y → (x : X) × (r ≡ Ok x) × (f x ≡ Ok y)
then_ok (Ok x) f y e = (x, refl, e)
then_ok (Err d) f y e = absurd (err≢ok d y e)

pub cells-text : (i : ℕ) (ks : List Column) (ps : List (List ℕ)) (ns : List ℕ) → all_proper ks ≡ true → length ps ≡ length ks → cells_of i ks ps ≡ Ok ns → ps ≡ cell_texts ks ns
cells-text i [] [] ns p l e = refl
cells-text i [] (q ∷ ps) ns p l e = absurd (omega arith)
cells-text i (k ∷ ks) [] ns p l e = absurd (omega arith)
cells-text i (k ∷ ks) (q ∷ ps) ns p l e =
    let parts = and_parts (proper k) (all_proper ks) p in
    let short : length ps ≡ length ks = omega arith in
    all parts.0 short (λ ms h. cells-text i ks ps ms parts.1 short h) (then_ok (cell_of i k q) (λ n. then (cells_of i ks (rest_of (q ∷ ps))) (λ ms. Ok (n ∷ ms))) ns e)
  where
    -- the fields behind the first; behind the only one, none is looked at
    behind : (ks : List Column) (ps : List (List ℕ)) (ms : List ℕ) → length ps ≡ length ks → (cells_of i ks ps ≡ Ok ms → ps ≡ cell_texts ks ms) → cells_of i ks (rest_of (q ∷ ps)) ≡ Ok ms → ps ≡ cell_texts ks ms
    behind [] [] ms l' ih h = refl
    behind (c ∷ cs) [] ms l' ih h = absurd (omega arith)
    behind ks (r ∷ rs) ms l' ih h = ih h

    all : proper k ≡ true → length ps ≡ length ks → ((ms : List ℕ) → cells_of i ks ps ≡ Ok ms → ps ≡ cell_texts ks ms)
        → (n : ℕ) × (cell_of i k q ≡ Ok n) × (then (cells_of i ks (rest_of (q ∷ ps))) (λ ms. Ok (n ∷ ms)) ≡ Ok ns) → q ∷ ps ≡ cell_texts (k ∷ ks) ns
    all good short ih (n, a, b) = last (then_ok (cells_of i ks (rest_of (q ∷ ps))) (λ ms. Ok (n ∷ ms)) ns b)
      where
        last : (ms : List ℕ) × (cells_of i ks (rest_of (q ∷ ps)) ≡ Ok ms) × (◌≡◌ {A = Result (List ℕ) Refusal} (Ok (n ∷ ms)) (Ok ns)) → q ∷ ps ≡ cell_texts (k ∷ ks) ns
        last (ms, c, d) =
            let t = behind ks ps ms short (ih ms) c in
            (λ j. cell-text i k q n good a j ∷ t j) ∙ ap (cell_texts (k ∷ ks)) (ok_same (n ∷ ms) ns d)
