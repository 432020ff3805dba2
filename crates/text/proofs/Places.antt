-- Bytes written one after the other.
use Rattle.std.proofs.Common.{◌≡◌, ℕ, ◌+◌, ◌/◌, ◌%◌, ◌^◌, ◌<◌, ◌≤◌, List, [], ◌∷◌, ◌++◌, length, get_or, take, drop, set, decimal, sym, ap, ◌∙◌, append_assoc, append-nil, arith, length-append}
use Rattle.std.proofs.lemmas.List.{set_at, drop_more, take-append-drop, length-take-le, length_push, take_at, drop_at, drop-drop}
use Rattle.std.proofs.lemmas.Fmt.{decimal_digit, decimal_step}
use Rattle.text.specs.Writing.{placed}
use Rattle.text.proofs.Numerals.{length-step}

pub placed-none : (s : List ℕ) (at : ℕ) → s ≡ placed s at []
placed-none s at =
    let z : at + 0 ≡ at = omega arith in
    sym (ap (λ l. l ++ drop (at + 0) s) (append-nil (take at s)) ∙ ap (λ k. take at s ++ drop k s) z ∙ take-append-drop at s)

-- one byte more
pub placed_push : (s : List ℕ) (at : ℕ) (ds : List ℕ) (d : ℕ) → at + length ds < length s → set (placed s at ds) (at + length ds) d ≡ placed s at (ds ++ d ∷ [])
placed_push s at ds d lt =
    let p = take at s ++ ds in
    let e = at + length ds in
    let n : length p ≡ e = length-append (take at s) ds ∙ ap (λ k. k + length ds) (length-take-le at s (omega arith)) in
    let m : e + 1 ≡ at + length (ds ++ d ∷ []) = omega (arith, length_push ds d) in
    ap (λ l. set (p ++ l) e d) (drop_more s e 0 lt) ∙ set_at p (get_or s e 0) (drop (e + 1) s) d e n
    ∙ sym (append_assoc p (d ∷ []) (drop (e + 1) s)) ∙ ap (λ l. l ++ drop (e + 1) s) (append_assoc (take at s) ds (d ∷ []))
    ∙ ap (λ k. take at s ++ (ds ++ d ∷ []) ++ drop k s) m

pub placed_one : (s : List ℕ) (at d : ℕ) → at < length s → set s at d ≡ placed s at (d ∷ [])
placed_one s at d lt = let z : at ≡ at + 0 = omega arith in (λ i. set (placed-none s at i) (z i) d) ∙ placed_push s at [] d (omega arith)

-- more bytes behind those that were written
pub placed-more : (s : List ℕ) (at : ℕ) (a b : List ℕ) (e : ℕ) → e ≡ at + length a → at + length a + length b ≤ length s → placed (placed s at a) e b ≡ placed s at (a ++ b)
placed-more s at a b e is room =
    let p = take at s ++ a in
    let m = at + length a in
    let n : length p ≡ m = length-append (take at s) a ∙ ap (λ k. k + length a) (length-take-le at s (omega arith)) in
    let w : m + length b ≡ at + length (a ++ b) = omega (arith, length-append a b) in
    let front : take m (p ++ drop m s) ≡ p = take_at p (drop m s) m n in
    let back : drop (m + length b) (p ++ drop m s) ≡ drop (m + length b) s =
    sym (drop-drop (length b) m (p ++ drop m s)) ∙ ap (drop (length b)) (drop_at p (drop m s) m n) ∙ drop-drop (length b) m s in
    ap (λ k. placed (placed s at a) k b) is ∙ (λ i. front i ++ b ++ back i) ∙ (λ i. append_assoc (take at s) a b i ++ drop (w i) s)

-- all of it is a front
pub placed-front : (s ds : List ℕ) → placed s 0 ds ≡ ds ++ drop (length ds) s
placed-front s ds = let z : 0 + length ds ≡ length ds = omega arith in ap (λ k. ds ++ drop k s) z

-- ── Digits ──
pub one_digit : (s : List ℕ) (at n : ℕ) → n < 10 → at < length s → set s at (48 + n) ≡ placed s at (decimal n)
one_digit s at n small room = placed_one s at (48 + n) room ∙ ap (placed s at) (sym (decimal_digit n small))

pub more-digits : (s t : List ℕ) (at e n : ℕ) → 10 ≤ n → n < 2 ^ 64 → at + length (decimal n) ≤ length s → e ≡ at + length (decimal (n / 10)) → t ≡ placed s at (decimal (n / 10)) → set t e (48 + n % 10) ≡ placed s at (decimal n)
more-digits s t at e n big fits room ends is =
    let l = length-step n big fits in
    (λ i. set (is i) (ends i) (48 + n % 10)) ∙ placed_push s at (decimal (n / 10)) (48 + n % 10) (omega arith) ∙ ap (placed s at) (sym (decimal_step n big fits))
