-- A loop that reads the rows of a text, one line after the other.
use Rattle.std.proofs.Common.{◌≡◌, ℕ, suc, ◌+◌, ◌-◌, ◌<◌, ◌≤◌, min, true, cond, eqb, ltb, List, [], ◌∷◌, ◌++◌, map, length, take, drop, set, Some, None, Ok, Err, Option, Result, sym, refl, ap, ◌∙◌, append_assoc, append-nil, arith}
use Rattle.std.specs.Str.{bytes_eq}
use Rattle.std.proofs.lemmas.List.{length-map, length-take-le, take-append-drop, take_more_set, drop-set-lt, drop_more, map-append}
use Rattle.std.proofs.lemmas.Bool.{cond-true, cond-false, eq-eqb, ne_eqb, le-ltb}
use Rattle.text.specs.Csv.{lf, fields, join, lines, first_line}
use Rattle.records.specs.Refusals.{Refusal, refusal}
use Rattle.text.specs.Reading.{cells_of, row_of, Reading, finished, refused, ahead, on_row, rows_from, begins, reading, ends_as, answer_of, at_front, filled}
use Rattle.text.specs.Sheets.{Column, Sheet, text_of, well_made}
use Rattle.text.proofs.Apart.{none≢some}
use Rattle.text.specs.Writing.{ReadsAs}
use Rattle.text.proofs.RoundTrip.{ReadsBack, made, reading-text}
use Rattle.text.proofs.Splits.{join-split}

-- ── One line of a text that was cut by LF ──
module _ (cs : List Column) (room k : ℕ) where
  pub rows_on : (ps : List (List ℕ)) (line : List ℕ) → first_line ps ≡ Some line → rows_from cs room k ps ≡ on_row (row_of cs room k (Some line)) (rows_from cs (room - 1) (suc k) (drop 1 ps))
  rows_on [] line e = absurd (none≢some line e)
  rows_on (p ∷ []) line e = absurd (none≢some line e)
  rows_on (p ∷ q ∷ ps) line e = ap (λ o. on_row (row_of cs room k o) (rows_from cs (room - 1) (suc k) (q ∷ ps))) e

  none_on : (ps : List (List ℕ)) → first_line ps ≡ None → 0 < length (join lf ps) → rows_from cs room k ps ≡ refused (refusal 1 k)
  none_on [] e l = absurd (omega arith)
  none_on ([] ∷ []) e l = absurd (omega arith)
  none_on ((x ∷ xs) ∷ []) e l = refl
  none_on (p ∷ q ∷ ps) e l = ap (λ o. on_row (row_of cs room k o) (rows_from cs (room - 1) (suc k) (q ∷ ps))) e

  pub broken : (rest : List ℕ) → 0 < length rest → first_line (lines rest) ≡ None → rows_from cs room k (lines rest) ≡ refused (refusal 1 k)
  broken rest l e = none_on (lines rest) e (omega (arith, ap length (join-split lf rest)))

  module _ (rest line : List ℕ) (e : first_line (lines rest) ≡ Some line) where
    pub miscounted : (length (fields line) ≡ length cs → ⊥) → rows_from cs room k (lines rest) ≡ refused (refusal 1 k)
    miscounted ne = rows_on (lines rest) line e ∙ ap (λ r. on_row r (rows_from cs (room - 1) (suc k) (drop 1 (lines rest)))) (cond-false (eqb (length (fields line)) (length cs)) _ _ (ne_eqb _ _ ne))

    module _ (n : length (fields line) ≡ length cs) where
      counted : row_of cs room k (Some line) ≡ cond (eqb room 0) (Err (refusal 4 k)) (cells_of k cs (fields line))
      counted = cond-true (eqb (length (fields line)) (length cs)) _ _ (eq-eqb _ _ n)

      pub overfull : room ≡ 0 → rows_from cs room k (lines rest) ≡ refused (refusal 4 k)
      overfull z = rows_on (lines rest) line e ∙ ap (λ r. on_row r (rows_from cs (room - 1) (suc k) (drop 1 (lines rest)))) (counted ∙ cond-true (eqb room 0) _ _ (eq-eqb room 0 z))

      pub looked : 0 < room → (r : Result (List ℕ) Refusal) → r ≡ cells_of k cs (fields line) → rows_from cs room k (lines rest) ≡ on_row r (rows_from cs (room - 1) (suc k) (drop 1 (lines rest)))
      looked l r h = rows_on (lines rest) line e ∙ ap (λ t. on_row t (rows_from cs (room - 1) (suc k) (drop 1 (lines rest)))) (counted ∙ cond-false (eqb room 0) _ _ (ne_eqb room 0 (λ z. omega arith)) ∙ sym h)

-- ── The whole text, and rows of a type that cells determine ──
module _ {X : Type 0} (sh : Sheet) (cells : X → List ℕ) (row : List ℕ → X) where
  -- rows stand in the caller's list as far as the text was read
  pub record Sofar (text : List ℕ) (out now : List X) (count : ℕ) (rest : List ℕ) : Type 0 where
    pub few : count ≤ min (length out) sh.most
    pub tail : drop count now ≡ drop count out
    pub is : reading sh (length out) text ≡ ahead (map cells (take count now)) (rows_from sh.columns (min (length out) sh.most - count) (count + 2) (lines rest))

  pub started : (text : List ℕ) (out : List X) (rest line : List ℕ) → length text ≤ 65535 → first_line (lines text) ≡ Some line → bytes_eq line sh.header ≡ true → lines rest ≡ drop 1 (lines text) → Sofar text out out 0 rest
  started text out rest line short e same after =
      let z : min (length out) sh.most ≡ min (length out) sh.most - 0 = omega arith in
      record {
        few = omega arith;
        tail = refl;
        is =
            cond-false (ltb 65535 (length text)) _ _ (le-ltb _ _ short) ∙ cond-true (begins sh.header (first_line (lines text))) _ _ (ap (begins sh.header) e ∙ same)
            ∙ (λ i. rows_from sh.columns (z i) 2 (sym after i));
      }

  pub one_more : (text : List ℕ) (out now : List X) (count : ℕ) (rest line rest' : List ℕ) (x : X) → length now ≡ length out → count < min (length out) sh.most → Sofar text out now count rest
      → first_line (lines rest) ≡ Some line → length (fields line) ≡ length sh.columns → Ok (cells x) ≡ cells_of (count + 2) sh.columns (fields line) → lines rest' ≡ drop 1 (lines rest) → Sofar text out (set now count x) (count + 1) rest'
  one_more text out now count rest line rest' x long room s e n h after =
      let m = min (length out) sh.most in
      let less : m - count - 1 ≡ m - (count + 1) = omega arith in
      let next : suc (count + 2) ≡ count + 1 + 2 = omega arith in
      let front : take (count + 1) (set now count x) ≡ take count now ++ x ∷ [] = take_more_set now count x (omega arith) in
      let rd = rows_from sh.columns (m - (count + 1)) (count + 1 + 2) (lines rest') in
      record {
        few = omega arith;
        tail = drop-set-lt (count + 1) now count x (omega arith) ∙ tail_more now out count x long (omega arith) s.tail;
        is =
            s.is
            ∙ ap (ahead (map cells (take count now))) (looked sh.columns (m - count) (count + 2) rest line e n (omega arith) (Ok (cells x)) h ∙ (λ i. ahead (cells x ∷ []) (rows_from sh.columns (less i) (next i) (sym after i))))
            ∙ (λ i. record { rows = join' i; end = rd.end });
      }
    where
      tail_more : (now out : List X) (i : ℕ) (d : X) → length now ≡ length out → i < length now → drop i now ≡ drop i out → drop (i + 1) now ≡ drop (i + 1) out
      tail_more now out i d long l h = ap (drop 1) (sym (drop_more now i d l) ∙ h ∙ drop_more out i d (omega arith))

      join' : map cells (take count now) ++ cells x ∷ (rows_from sh.columns (min (length out) sh.most - (count + 1)) (count + 1 + 2) (lines rest')).rows
          ≡ map cells (take (count + 1) (set now count x)) ++ (rows_from sh.columns (min (length out) sh.most - (count + 1)) (count + 1 + 2) (lines rest')).rows
      join' =
          let rs = (rows_from sh.columns (min (length out) sh.most - (count + 1)) (count + 1 + 2) (lines rest')).rows in
          sym (append_assoc (map cells (take count now)) (cells x ∷ []) rs)
          ∙ ap (λ l. l ++ rs) (sym (map-append cells (take count now) (x ∷ [])) ∙ ap (map cells) (sym (take_more_set now count x (omega arith))))

  -- cells and back again
  again : ((x : X) → row (cells x) ≡ x) → (xs : List X) → map row (map cells xs) ≡ xs
  again back [] = refl
  again back (x ∷ xs) = λ i. back x i ∷ again back xs i

  pub reads_as : ((x : X) → row (cells x) ≡ x) → (xs : List X) → ReadsBack sh (map cells xs) → ReadsAs sh row (text_of sh (map cells xs)) xs
  reads_as back xs h out l =
      let n = length-map xs cells in
      let is = h (length out) (omega arith) in
      (ap answer_of is ∙ ap (λ k. Ok k) n, ap (λ rd. filled row rd out) is ∙ ap (λ ys. at_front ys out) (again back xs))

-- ── Where the reading ends ──
module _ {X : Type 0} {sh : Sheet} {cells : X → List ℕ} {row : List ℕ → X} {text : List ℕ} {out now : List X} {count : ℕ} {rest : List ℕ}
    (back : (x : X) → row (cells x) ≡ x) (long : length now ≡ length out) (s : Sofar sh cells row text out now count rest) where
  -- what the caller is answered, and what the list holds
  abbrev pub Answers : Result ℕ Refusal → Type 0
  Answers r = (r ≡ answer_of (reading sh (length out) text)) × (now ≡ filled row (reading sh (length out) text) out)

  -- no row comes from what is left
  module _ (e : Option Refusal) (stop : rows_from sh.columns (min (length out) sh.most - count) (count + 2) (lines rest) ≡ record { rows = []; end = e }) where
    whole : reading sh (length out) text ≡ record { rows = map cells (take count now); end = e }
    whole = s.is ∙ ap (ahead (map cells (take count now))) stop ∙ (λ i. record { rows = append-nil (map cells (take count now)) i; end = e })

    size : length (map cells (take count now)) ≡ count
    size = length-map (take count now) cells ∙ length-take-le count now (let f = s.few in omega arith)

    fills : now ≡ filled row (reading sh (length out) text) out
    fills =
        sym (take-append-drop count now)
        ∙ (λ i. sym (again sh cells row back (take count now)) i ++ s.tail i)
        ∙ ap (λ k. map row (map cells (take count now)) ++ drop k out) (sym (length-map (map cells (take count now)) row ∙ size))
        ∙ ap (λ rd. filled row rd out) (sym whole)

    ends : Answers (ends_as e count)
    ends = (ap (ends_as e) (sym size) ∙ sym (ap answer_of whole), fills)

  -- nothing is left
  module _ (none : rest ≡ []) where
    stop : rows_from sh.columns (min (length out) sh.most - count) (count + 2) (lines rest) ≡ finished
    stop = ap (λ t. rows_from sh.columns (min (length out) sh.most - count) (count + 2) (lines t)) none

    pub at-end : Answers (Ok count)
    at-end = ends None stop

    pub reads_whole : well_made sh ≡ true → text ≡ text_of sh (map cells (take count now))
    reads_whole m = reading-text sh (length out) text (made sh m) (ap (λ (rd : Reading). rd.end) (whole None stop)) ∙ ap (λ (rd : Reading). text_of sh rd.rows) (whole None stop)

  -- what is left does not begin with a line
  pub at_broken : 0 < length rest → first_line (lines rest) ≡ None → Answers (Err (refusal 1 (count + 2)))
  at_broken l e = ends _ (broken sh.columns _ (count + 2) rest l e)

  module _ (line : List ℕ) (e : first_line (lines rest) ≡ Some line) where
    -- with a line of too few fields or too many
    pub at_miscounted : (length (fields line) ≡ length sh.columns → ⊥) → Answers (Err (refusal 1 (count + 2)))
    at_miscounted wrong = ends _ (miscounted sh.columns _ (count + 2) rest line e wrong)

    module _ (right : length (fields line) ≡ length sh.columns) where
      -- with a line for which there is no room
      pub at-overfull : count ≡ min (length out) sh.most → Answers (Err (refusal 4 (count + 2)))
      at-overfull full = ends _ (overfull sh.columns _ (count + 2) rest line e right (omega arith))

      -- with a line that has a field which is refused
      pub at_refused : (count ≡ min (length out) sh.most → ⊥) → (r : Refusal) → Err r ≡ cells_of (count + 2) sh.columns (fields line) → Answers (Err r)
      at_refused some r h = ends _ (looked sh.columns _ (count + 2) rest line e right (let f = s.few in omega arith) (Err r) h)
