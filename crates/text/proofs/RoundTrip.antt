-- The text of rows is read as these rows, and a text that is read is the text of what was read.
use Rattle.std.proofs.Common.{◌≡◌, ℕ, suc, ◌+◌, ◌-◌, ◌*◌, ◌<◌, ◌≤◌, min, Bool, true, false, cond, eqb, ltb, List, [], ◌∷◌, ◌++◌, length, drop, Some, None, Ok, Err, decimal, Option, Result, sym, refl, ap, ◌∙◌, ⊎_elim, append_assoc, mul-le-mul_right, mul-le-mul_left, arith, length-append}
use Rattle.std.specs.List.{flat_map, AllByRecursion}
use Rattle.std.proofs.lemmas.Fmt.{digits_decimal}
use Rattle.std.proofs.ByRecursion.{All-from_get_or, All-weaker, All-append}
use Rattle.std.proofs.lemmas.Slice.Eq.{bytes_eq-Decides}
use Rattle.std.proofs.lemmas.Str.Parse.{digit_at}
use Rattle.std.proofs.lemmas.Bool.{cond-true, cond-false, cases_Bool, and_parts, leb-true, ltb-true, eqb-true, eq-eqb, ne_eqb, le-ltb, false≢true}
use Rattle.text.specs.Csv.{comma, cr, lf, join, fields, lines, line_of, first_line}
use Rattle.records.specs.Refusals.{Refusal, refusal}
use Rattle.text.specs.Reading.{cells_of, row_of, Reading, refused, ahead, on_row, rows_from, begins, reading}
use Rattle.text.specs.Sheets.{Column, numbers, letters, Sheet, cell_text, cell_texts, ended, row_text, text_of, known, all_known, within, all_within, Fit, width, widths, proper, all_proper, free, well_made}
use Rattle.text.proofs.Apart.{none≢some, err≢ok}
use Rattle.text.proofs.Letters.{letter-high, among-letter}
use Rattle.text.proofs.Numerals.{own, decimal-width}
use Rattle.text.proofs.Splits.{Free, cut, split-cut, split-join, join-split, free_true, line_at, line-whole}
use Rattle.text.proofs.Cells.{cells-read, cells-text}

-- ── What a sheet that is well made gives ──
pub record Made (sh : Sheet) : Type 0 where
  pub no_cr : Free cr sh.header
  pub no_lf : Free lf sh.header
  pub some : 0 < length sh.columns
  pub good : all_proper sh.columns ≡ true
  pub short : length sh.header + 2 + sh.most * widths sh.columns ≤ 65535

pub made : (sh : Sheet) → well_made sh ≡ true → Made sh
made sh h =
    let a = and_parts (free cr sh.header) _ h in
    let b = and_parts (free lf sh.header) _ a.1 in
    let c = and_parts (ltb 0 (length sh.columns)) _ b.1 in
    let d = and_parts (all_proper sh.columns) _ c.1 in
    record {
      no_cr = free_true cr sh.header a.0;
      no_lf = free_true lf sh.header b.0;
      some = ltb-true _ _ c.0;
      good = d.0;
      short = leb-true _ _ d.1;
    }

-- a file has at most as many rows as a text has bytes
pub most-rows : (sh : Sheet) → Made sh → sh.most ≤ 65535
most-rows sh m = omega (arith, m.short, mul-le-mul_left sh.most (some-width sh.columns))
  where
    some-width : (ks : List Column) → 1 ≤ widths ks
    some-width [] = omega arith
    some-width (k ∷ ks) = let h = some-width ks in omega arith

-- ── The bytes of cells are digits and letters ──
abbrev High : List ℕ → Type 0
High s = AllByRecursion (λ x. 48 ≤ x) s

high-free : (c : ℕ) (s : List ℕ) → c < 48 → High s → Free c s
high-free c s l h = All-weaker (λ x. 48 ≤ x) (λ x. eqb x c ≡ false) (λ x le. ne_eqb x c (λ e. omega arith)) s h

cell-high : (k : Column) (n : ℕ) → proper k ≡ true → known k n ≡ true → within k n ≡ true → High (cell_text k n)
cell-high (numbers most) n p h w =
    let a = leb-true _ _ p in let b = leb-true _ _ w in
    let d = own.to (decimal n) (digits_decimal own n (omega arith)) in
    All-from_get_or (λ x. 48 ≤ x) (decimal n) 0 (λ i l. (digit_at (decimal n) i d l).0)
cell-high (letters ls) n p h w = (omega (arith, letter-high n (among-letter n ls p h)), tt)

texts-free : (c : ℕ) (ks : List Column) (ns : List ℕ) → c < 48 → all_proper ks ≡ true → Fit ks ns → AllByRecursion (Free c) (cell_texts ks ns)
texts-free c [] ns l p f = tt
texts-free c (k ∷ ks) [] l p f = tt
texts-free c (k ∷ ks) (n ∷ ns) l p f =
    let q = and_parts (proper k) (all_proper ks) p in
    let h = and_parts (known k n) (all_known ks ns) f.knows in
    let w = and_parts (within k n) (all_within ks ns) f.holds in
    (high-free c (cell_text k n) l (cell-high k n q.0 h.0 w.0), texts-free c ks ns l q.1 (record { knows = h.1; holds = w.1 }))

length-texts : (ks : List Column) (ns : List ℕ) → all_within ks ns ≡ true → length (cell_texts ks ns) ≡ length ks
length-texts [] ns w = refl
length-texts (k ∷ ks) [] w = absurd (false≢true w)
length-texts (k ∷ ks) (n ∷ ns) w = ap suc (length-texts ks ns (and_parts (within k n) (all_within ks ns) w).1)

join_free : (c : ℕ) (ps : List (List ℕ)) → eqb comma c ≡ false → AllByRecursion (Free c) ps → Free c (join comma ps)
join_free c [] ne h = tt
join_free c (p ∷ []) ne h = h.0
join_free c (p ∷ q ∷ ps) ne h = All-append (λ x. eqb x c ≡ false) p (comma ∷ join comma (q ∷ ps)) h.0 (ne, join_free c (q ∷ ps) ne h.1)

-- ── Lengths ──
cell-short : (k : Column) (n : ℕ) → proper k ≡ true → within k n ≡ true → length (cell_text k n) ≤ width k
cell-short (numbers most) n p w = let a = leb-true _ _ p in decimal-width n most (leb-true _ _ w) (omega arith)
cell-short (letters ls) n p w = omega arith

line-short : (ks : List Column) (ns : List ℕ) → 0 < length ks → all_proper ks ≡ true → all_within ks ns ≡ true → length (join comma (cell_texts ks ns)) + 2 ≤ widths ks
line-short [] ns l p w = absurd (omega arith)
line-short (k ∷ ks) [] l p w = absurd (false≢true w)
line-short (k ∷ []) (n ∷ ns) l p w =
    let q = and_parts (proper k) true p in let v = and_parts (within k n) (all_within [] ns) w in
    omega (arith, cell-short k n q.0 v.0)
line-short (k ∷ k' ∷ ks) (n ∷ []) l p w = absurd (false≢true (and_parts (within k n) false w).1)
line-short (k ∷ k' ∷ ks) (n ∷ n' ∷ ns) l p w =
    let q = and_parts (proper k) (all_proper (k' ∷ ks)) p in let v = and_parts (within k n) (all_within (k' ∷ ks) (n' ∷ ns)) w in
    omega (arith, cell-short k n q.0 v.0, line-short (k' ∷ ks) (n' ∷ ns) (omega arith) q.1 v.1, length-append (cell_text k n) (comma ∷ join comma (cell_texts (k' ∷ ks) (n' ∷ ns))))

length-ended : (s : List ℕ) → length (ended s) ≡ length s + 2
length-ended s = length-append s (cr ∷ lf ∷ [])

rows_short : (ks : List Column) (rows : List (List ℕ)) → 0 < length ks → all_proper ks ≡ true → AllByRecursion (Fit ks) rows → length (flat_map (row_text ks) rows) ≤ length rows * widths ks
rows_short ks [] l p h = omega arith
rows_short ks (r ∷ rs) l p (f, h) =
    omega (arith, rows_short ks rs l p h, line-short ks r l p f.holds, length-ended (join comma (cell_texts ks r)), length-append (row_text ks r) (flat_map (row_text ks) rs))

pub text-short : (sh : Sheet) (rows : List (List ℕ)) → Made sh → AllByRecursion (Fit sh.columns) rows → length rows ≤ sh.most → length (text_of sh rows) ≤ 65535
text-short sh rows m h few =
    omega (arith, rows_short sh.columns rows m.some m.good h, mul-le-mul_right (widths sh.columns) few, m.short, length-ended sh.header, length-append (ended sh.header) (flat_map (row_text sh.columns) rows))

-- ── The text of rows is read ──
lines-ended : (line rest : List ℕ) → Free lf line → lines (ended line ++ rest) ≡ (line ++ cr ∷ []) ∷ lines rest
lines-ended line rest h =
    let split' : ended line ++ rest ≡ (line ++ cr ∷ []) ++ lf ∷ rest = append_assoc line (cr ∷ lf ∷ []) rest ∙ sym (append_assoc line (cr ∷ []) (lf ∷ rest)) in
    ap lines split' ∙ split-cut lf (line ++ cr ∷ []) rest (All-append (λ x. eqb x lf ≡ false) line (cr ∷ []) h (refl, tt))

row_reads : (ks : List Column) (room k : ℕ) (ns : List ℕ) → 0 < room → 0 < length ks → all_proper ks ≡ true → Fit ks ns → row_of ks room k (line_of (join comma (cell_texts ks ns) ++ cr ∷ [])) ≡ Ok ns
row_reads ks room k ns r l p f =
    let line = join comma (cell_texts ks ns) in
    let n = length-texts ks ns f.holds in
    let fs : fields line ≡ cell_texts ks ns = split-join comma (cell_texts ks ns) (texts-free comma ks ns (omega arith) p f) (omega arith) in
    ap (row_of ks room k) (line_at line (join_free cr (cell_texts ks ns) refl (texts-free cr ks ns (omega arith) p f)))
    ∙ cond-true _ _ _ (eq-eqb _ _ (ap length fs ∙ n)) ∙ cond-false _ _ _ (ne_eqb room 0 (λ e. omega arith))
    ∙ ap (cells_of k ks) fs ∙ cells-read k ks ns p f.knows f.holds

pub rows-read : (ks : List Column) (room k : ℕ) (rows : List (List ℕ)) → 0 < length ks → all_proper ks ≡ true → AllByRecursion (Fit ks) rows → length rows ≤ room
    → rows_from ks room k (lines (flat_map (row_text ks) rows)) ≡ record { rows = rows; end = None }
rows-read ks room k [] l p h few = refl
rows-read ks room k (r ∷ rs) l p (f, h) few =
    let line = join comma (cell_texts ks r) in
    let rest = flat_map (row_text ks) rs in
    let t = cut lf rest in
    ap (rows_from ks room k) (lines-ended line rest (join_free lf (cell_texts ks r) refl (texts-free lf ks r (omega arith) p f)) ∙ ap (λ ls. (line ++ cr ∷ []) ∷ ls) t.is)
    ∙ ap (λ o. on_row o (rows_from ks (room - 1) (suc k) (t.part ∷ t.others))) (row_reads ks room k r (omega arith) l p f)
    ∙ ap (ahead (r ∷ [])) (ap (rows_from ks (room - 1) (suc k)) (sym t.is) ∙ rows-read ks (room - 1) (suc k) rs l p h (omega arith))

-- the text of rows reads as these rows
abbrev pub ReadsBack : Sheet → List (List ℕ) → Type 0
ReadsBack sh rows = (room : ℕ) → length rows ≤ room → reading sh room (text_of sh rows) ≡ record { rows = rows; end = None }

pub text-reads : (sh : Sheet) (rows : List (List ℕ)) → Made sh → AllByRecursion (Fit sh.columns) rows → length rows ≤ sh.most → ReadsBack sh rows
text-reads sh rows m h few room fits =
    let rest = flat_map (row_text sh.columns) rows in
    let t = cut lf rest in
    let ls : lines (text_of sh rows) ≡ (sh.header ++ cr ∷ []) ∷ lines rest = lines-ended sh.header rest m.no_lf in
    let head : begins sh.header (first_line (lines (text_of sh rows))) ≡ true =
    ap (λ l. begins sh.header (first_line l)) (ls ∙ ap (λ l. (sh.header ++ cr ∷ []) ∷ l) t.is) ∙ ap (begins sh.header) (line_at sh.header m.no_cr) ∙ (bytes_eq-Decides sh.header sh.header).1 refl in
    cond-false _ _ _ (le-ltb _ _ (text-short sh rows m h few)) ∙ cond-true _ _ _ head
    ∙ ap (λ l. rows_from sh.columns (min room sh.most) 2 (drop 1 l)) ls
    ∙ rows-read sh.columns (min room sh.most) 2 rows m.some m.good h (omega arith)

-- ── A text that is read is the text of what was read ──
row-text : (ks : List Column) (room k : ℕ) (p ns : List ℕ) → all_proper ks ≡ true → row_of ks room k (line_of p) ≡ Ok ns → p ++ lf ∷ [] ≡ row_text ks ns
row-text ks room k p ns good e = by (line_of p) refl e
  where
    fit : (line : List ℕ) → cells_of k ks (fields line) ≡ Ok ns → length (fields line) ≡ length ks → line ≡ join comma (cell_texts ks ns)
    fit line c n = sym (join-split comma line) ∙ ap (join comma) (cells-text k ks (fields line) ns good n c)

    full : (line : List ℕ) → length (fields line) ≡ length ks → cond (eqb room 0) (Err (refusal 4 k)) (cells_of k ks (fields line)) ≡ Ok ns → line ≡ join comma (cell_texts ks ns)
    full line n h =
        ⊎_elim (λ z. absurd (err≢ok _ ns (sym (cond-true (eqb room 0) _ _ z) ∙ h))) (λ z. fit line (sym (cond-false (eqb room 0) _ _ z) ∙ h) n) (cases_Bool (eqb room 0))

    count : (line : List ℕ) → row_of ks room k (Some line) ≡ Ok ns → line ≡ join comma (cell_texts ks ns)
    count line h =
        ⊎_elim (λ z. full line (eqb-true _ _ z) (sym (cond-true (eqb (length (fields line)) (length ks)) _ _ z) ∙ h))
        (λ z. absurd (err≢ok _ ns (sym (cond-false (eqb (length (fields line)) (length ks)) _ _ z) ∙ h))) (cases_Bool (eqb (length (fields line)) (length ks)))

    by : (o : Option (List ℕ)) → line_of p ≡ o → row_of ks room k o ≡ Ok ns → p ++ lf ∷ [] ≡ row_text ks ns
    by None q h = absurd (err≢ok _ ns h)
    by (Some line) q h = ap (λ l. l ++ lf ∷ []) (line-whole p line q) ∙ append_assoc line (cr ∷ []) (lf ∷ []) ∙ ap ended (count line h)

on_row_lem : (r : Result (List ℕ) Refusal) (rd : Reading) → (on_row r rd).end ≡ None → (ns : List ℕ) × (r ≡ Ok ns) × (rd.end ≡ None) × ((on_row r rd).rows ≡ ns ∷ rd.rows)
on_row_lem (Ok ns) rd e = (ns, refl, e, refl)
on_row_lem (Err d) rd e = absurd (none≢some d (sym e))

pub rows-text : (ks : List Column) (room k : ℕ) (ps : List (List ℕ)) → all_proper ks ≡ true → (rows_from ks room k ps).end ≡ None → join lf ps ≡ flat_map (row_text ks) (rows_from ks room k ps).rows
rows-text ks room k [] good e = refl
rows-text ks room k ([] ∷ []) good e = refl
rows-text ks room k ((x ∷ xs) ∷ []) good e = absurd (none≢some _ (sym e))
rows-text ks room k (p ∷ q ∷ ps) good e =
    first (on_row_lem (row_of ks room k (line_of p)) (rows_from ks (room - 1) (suc k) (q ∷ ps)) e) (λ d. rows-text ks (room - 1) (suc k) (q ∷ ps) good d)
  where
    after : Reading
    after = rows_from ks (room - 1) (suc k) (q ∷ ps)

    first : (ns : List ℕ) × (row_of ks room k (line_of p) ≡ Ok ns) × (after.end ≡ None) × ((rows_from ks room k (p ∷ q ∷ ps)).rows ≡ ns ∷ after.rows)
        → (after.end ≡ None → join lf (q ∷ ps) ≡ flat_map (row_text ks) after.rows) → join lf (p ∷ q ∷ ps) ≡ flat_map (row_text ks) (rows_from ks room k (p ∷ q ∷ ps)).rows
    first (ns, a, b, c) ih =
        sym (append_assoc p (lf ∷ []) (join lf (q ∷ ps))) ∙ (λ i. row-text ks room k p ns good a i ++ ih b i) ∙ ap (flat_map (row_text ks)) (sym c)

header-text : (header : List ℕ) (ps : List (List ℕ)) → begins header (first_line ps) ≡ true → join lf ps ≡ ended header ++ join lf (drop 1 ps)
header-text header [] e = absurd (false≢true e)
header-text header (p ∷ []) e = absurd (false≢true e)
header-text header (p ∷ q ∷ ps) e = by (line_of p) refl e
  where
    by : (o : Option (List ℕ)) → line_of p ≡ o → begins header o ≡ true → p ++ lf ∷ join lf (q ∷ ps) ≡ ended header ++ join lf (q ∷ ps)
    by None h t = absurd (false≢true t)
    by (Some line) h t =
        let same = (bytes_eq-Decides line header).0 t in
        ap (λ l. l ++ lf ∷ join lf (q ∷ ps)) (line-whole p line h ∙ ap (λ l. l ++ cr ∷ []) same) ∙ append_assoc header (cr ∷ []) (lf ∷ join lf (q ∷ ps)) ∙ sym (append_assoc header (cr ∷ lf ∷ []) (join lf (q ∷ ps)))

pub reading-text : (sh : Sheet) (room : ℕ) (text : List ℕ) → Made sh → (reading sh room text).end ≡ None → text ≡ text_of sh (reading sh room text).rows
reading-text sh room text m e = ⊎_elim long fits (cases_Bool (ltb 65535 (length text)))
  where
    ks : List Column
    ks = sh.columns

    rest : Reading
    rest = rows_from sh.columns (min room sh.most) 2 (drop 1 (lines text))

    headed : Bool
    headed = begins sh.header (first_line (lines text))

    long : ltb 65535 (length text) ≡ true → text ≡ text_of sh (reading sh room text).rows
    long h = absurd (none≢some _ (sym e ∙ ap (λ (rd : Reading). rd.end) (cond-true (ltb 65535 (length text)) _ _ h)))

    fits : ltb 65535 (length text) ≡ false → text ≡ text_of sh (reading sh room text).rows
    fits h = ⊎_elim right wrong (cases_Bool headed)
      where
        inner : reading sh room text ≡ cond headed rest (refused (refusal 1 1))
        inner = cond-false (ltb 65535 (length text)) _ _ h

        wrong : headed ≡ false → text ≡ text_of sh (reading sh room text).rows
        wrong b = absurd (none≢some _ (sym e ∙ ap (λ (rd : Reading). rd.end) (inner ∙ cond-false headed _ _ b)))

        right : headed ≡ true → text ≡ text_of sh (reading sh room text).rows
        right b =
            let is : reading sh room text ≡ rest = inner ∙ cond-true headed _ _ b in
            let ends : rest.end ≡ None = sym (ap (λ (rd : Reading). rd.end) is) ∙ e in
            sym (join-split lf text) ∙ header-text sh.header (lines text) b
            ∙ ap (λ l. ended sh.header ++ l) (rows-text sh.columns (min room sh.most) 2 (drop 1 (lines text)) m.good ends)
            ∙ ap (λ (rd : Reading). text_of sh rd.rows) (sym is)
