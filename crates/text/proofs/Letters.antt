-- Letters of the alphabet, and of a column.
use Rattle.std.proofs.Common.{◌≡◌, ℕ, ◌<◌, true, false, ◌&&◌, ◌||◌, eqb, leb, List, [], ◌∷◌, refl, ap, ◌∙◌, ⊎_elim, arith}
use Rattle.std.specs.Char.{is_ascii_alphabetic}
use Rattle.std.specs.List.{list_any}
use Rattle.std.proofs.lemmas.Bool.{cases_Bool, both_ways, and_parts, or_cases, leb-true, eqb-true, false≢true}
use Rattle.records.specs.Letters.{among}
use Rattle.text.specs.Sheets.{all_letters}

-- a letter stands behind the digits
pub letter-high : (c : ℕ) → is_ascii_alphabetic c ≡ true → 64 < c
letter-high c h =
    ⊎_elim (λ u. omega (arith, leb-true 65 c (and_parts (leb 65 c) (leb c 90) u).0)) (λ u. omega (arith, leb-true 97 c (and_parts (leb 97 c) (leb c 122) u).0))
    (or_cases (leb 65 c && leb c 90) (leb 97 c && leb c 122) h)

pub among-letter : (n : ℕ) (ls : List ℕ) → all_letters ls ≡ true → among n ls ≡ true → is_ascii_alphabetic n ≡ true
among-letter n [] p h = absurd (false≢true h)
among-letter n (c ∷ cs) p h =
    let q = and_parts (is_ascii_alphabetic c) (all_letters cs) p in
    ⊎_elim (λ e. ap is_ascii_alphabetic (eqb-true n c e) ∙ q.0) (λ e. among-letter n cs q.1 e) (or_cases (eqb n c) (among n cs) h)

pub not_among : (n : ℕ) (ls : List ℕ) → all_letters ls ≡ true → is_ascii_alphabetic n ≡ false → among n ls ≡ false
not_among n ls p h = ⊎_elim (λ e. absurd (both_ways (is_ascii_alphabetic n) h (among-letter n ls p e))) (λ e. e) (cases_Bool (among n ls))

-- letter by letter, as the program looks for it
pub among_any : (n : ℕ) (ls : List ℕ) → among n ls ≡ list_any (λ l. eqb n l) ls
among_any n [] = refl
among_any n (c ∷ cs) = ap (λ b. eqb n c || b) (among_any n cs)
