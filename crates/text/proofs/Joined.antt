-- The fields of a report's row, one after the other.
use Rattle.std.proofs.Common.{◌≡◌, ℕ, ◌+◌, ◌-◌, ◌<◌, ◌≤◌, List, [], ◌∷◌, ◌++◌, map, length, get_or, take, drop, refl, sym, ap, ◌∙◌, subst, append_assoc, arith, length-append}
use Rattle.std.specs.List.{sum_by}
use Rattle.std.proofs.lemmas.List.{map_more, map-append, length-map, length-take-le, take-append-drop}
use Rattle.std.proofs.lemmas.List.Sums.{sum_by-cons, sum_by-append}
use Rattle.text.specs.declared.put.Writer.{Writer}
use Rattle.text.specs.declared.report.Cell.{Cell}
use Rattle.text.specs.declared.report.Cell.TheVariants.{Word}
use Rattle.text.specs.Csv.{comma, cr, lf, join}
use Rattle.text.specs.Reports.{cell_bytes, report_text}
use Rattle.text.specs.Sheets.{ended}
use Rattle.text.specs.Writing.{HasRoom, Wrote}
use Rattle.text.proofs.Columns.{wrote-then}

-- ── Stretches put together ──
pub length-join : (c : ℕ) (ps : List (List ℕ)) → length (join c ps) ≡ sum_by length ps + (length ps - 1)
length-join c [] = refl
length-join c (p ∷ []) = omega (arith, sum_by-cons {X = List ℕ} length p [])
length-join c (p ∷ q ∷ ps) = omega (arith, length-append p (c ∷ join c (q ∷ ps)), length-join c (q ∷ ps), sum_by-cons {X = List ℕ} length p (q ∷ ps))

join_push : (c : ℕ) (ps : List (List ℕ)) (p : List ℕ) → 0 < length ps → join c (ps ++ p ∷ []) ≡ join c ps ++ c ∷ p
join_push c [] p l = absurd (omega arith)
join_push c (q ∷ []) p l = refl
join_push c (q ∷ r ∷ ps) p l = ap (λ t. q ++ c ∷ t) (join_push c (r ∷ ps) p (omega arith)) ∙ sym (append_assoc q (c ∷ join c (r ∷ ps)) (c ∷ p))

join_front : (c : ℕ) (ps qs : List (List ℕ)) → length (join c ps) ≤ length (join c (ps ++ qs))
join_front c ps qs = omega (arith, length-join c ps, length-join c (ps ++ qs), sum_by-append {X = List ℕ} length ps qs, length-append ps qs)

-- ── The first fields of a row ──
abbrev pub Fields : List Cell → ℕ → List ℕ
Fields row i = join comma (map cell_bytes (take i row))

-- what Rattle reads past the end of a row
abbrev pub past : Cell
past = Word (record { ref_ptr = (0, 0); now = [] })

-- the bytes of field i
abbrev pub Field : List Cell → ℕ → List ℕ
Field row i = cell_bytes (get_or row i past)

module _ (row : List Cell) (i : ℕ) (l : i < length row) where
  pub fields-first : i ≡ 0 → Fields row (i + 1) ≡ Fields row i ++ Field row i
  fields-first z =
      let none : map cell_bytes (take i row) ≡ [] = ap (λ k. map cell_bytes (take k row)) z in
      ap (join comma) (map_more cell_bytes row i past l ∙ ap (λ ps. ps ++ Field row i ∷ []) none) ∙ sym (ap (λ ps. join comma ps ++ Field row i) none)

  pub fields-more : 0 < i → Fields row (i + 1) ≡ Fields row i ++ comma ∷ Field row i
  fields-more pos =
      ap (join comma) (map_more cell_bytes row i past l)
      ∙ join_push comma (map cell_bytes (take i row)) (Field row i) (omega (arith, length-map (take i row) cell_bytes, length-take-le i row (omega arith)))

pub fields_le : (row : List Cell) (i : ℕ) → length (Fields row i) ≤ length (join comma (map cell_bytes row))
fields_le row i =
    let whole : map cell_bytes row ≡ map cell_bytes (take i row) ++ map cell_bytes (drop i row) = ap (map cell_bytes) (sym (take-append-drop i row)) ∙ map-append cell_bytes (take i row) (drop i row) in
    omega (arith, join_front comma (map cell_bytes (take i row)) (map cell_bytes (drop i row)), ap (λ ps. length (join comma ps)) whole)

-- ── They are written one after the other ──
module _ (row : List Cell) (i : ℕ) (l : i < length row) {a b : Writer} (room : HasRoom a (join comma (map cell_bytes row))) (w : Wrote a b (Fields row i)) where
  pub comma-fits : 0 < i → HasRoom b (comma ∷ [])
  comma-fits pos = omega (arith, ap length (fields-more row i l pos), length-append (Fields row i) (comma ∷ Field row i), fields_le row (i + 1), w.end, w.room)

  pub first-fits : i ≡ 0 → HasRoom b (Field row i)
  first-fits z = omega (arith, ap length (fields-first row i l z), length-append (Fields row i) (Field row i), fields_le row (i + 1), w.end, w.room)

  pub first-wrote : {c : Writer} → i ≡ 0 → Wrote b c (Field row i) → Wrote a c (Fields row (i + 1))
  first-wrote {c} z v = subst (Wrote a c) (sym (fields-first row i l z)) (wrote-then w v (first-fits z))

  pub more-fits : {c : Writer} → 0 < i → Wrote b c (comma ∷ []) → HasRoom c (Field row i)
  more-fits pos v = omega (arith, ap length (fields-more row i l pos), length-append (Fields row i) (comma ∷ Field row i), fields_le row (i + 1), w.end, w.room, v.end, v.room)

  pub more-wrote : {c e : Writer} → 0 < i → Wrote b c (comma ∷ []) → Wrote c e (Field row i) → Wrote a e (Fields row (i + 1))
  more-wrote {c} {e} pos v u =
      let pair = wrote-then v u (more-fits pos v) in
      let fits : HasRoom b (comma ∷ Field row i) = omega (arith, more-fits pos v, v.end, v.room) in
      subst (Wrote a e) (sym (fields-more row i l pos)) (wrote-then w pair fits)

-- ── How long the file is ──
abbrev pub widths : List Cell → ℕ
widths row = sum_by (λ x. length (cell_bytes x)) row

sum-lengths : (row : List Cell) → sum_by length (map cell_bytes row) ≡ widths row
sum-lengths [] = refl
sum-lengths (x ∷ xs) = sum_by-cons length (cell_bytes x) (map cell_bytes xs) ∙ ap (λ n. length (cell_bytes x) + n) (sum-lengths xs) ∙ sym (sum_by-cons (λ x. length (cell_bytes x)) x xs)

pub length-report : (header : List ℕ) (row : List Cell) → length (report_text header row) ≡ widths row + (length row - 1) + length header + 4
length-report header row =
    let fields = join comma (map cell_bytes row) in
    omega (arith, length-append (ended header) (ended fields), length-append header (cr ∷ lf ∷ []), length-append fields (cr ∷ lf ∷ []), length-join comma (map cell_bytes row), sum-lengths row, length-map row cell_bytes)
