-- One element of a list comes before the ones ahead of it, as a rotation of a part leaves it.
use Rattle.std.proofs.Common.{◌≡◌, ℕ, suc, ◌+◌, ◌-◌, ◌<◌, ◌≤◌, List, ◌++◌, map, length, take, drop, sym, ap, ◌∙◌, arith}
use borrow.Rule.Slice.PartMut.{put_mid}
use Rattle.std.proofs.lemmas.List.{append_assoc, map-append, length-append, length-take, length-drop, take-append-drop, take-append-le, drop-append-le, take_at, drop-take, drop-drop, take-map, drop-map}
use Rattle.machines.specs.Moves.{turned, shift}

module _ {X : Type 0} where
  turned-append : (c : ℕ) (xs ys : List X) → suc (suc c) ≤ length xs → turned c (xs ++ ys) ≡ turned c xs ++ ys
  turned-append c xs ys h =
      (λ i. drop (suc c) (take-append-le (suc (suc c)) xs ys h i) ++ take (suc c) (take-append-le (suc (suc c)) xs ys h i) ++ drop-append-le (suc (suc c)) xs ys h i)
      ∙ sym (append_assoc (drop (suc c) (take (suc (suc c)) xs) ++ take (suc c) (take (suc (suc c)) xs)) (drop (suc (suc c)) xs) ys)

  shift-append : (p c : ℕ) (xs ys : List X) → p + c + 1 < length xs → shift p c (xs ++ ys) ≡ shift p c xs ++ ys
  shift-append p c xs ys h =
      (λ i. take-append-le p xs ys (omega arith) i ++ turned c (drop-append-le p xs ys (omega arith) i))
      ∙ ap (λ zs. take p xs ++ zs) (turned-append c (drop p xs) ys (simp length-drop (omega arith))) ∙ sym (append_assoc (take p xs) (turned c (drop p xs)) ys)

  pub length_shift : (p c : ℕ) (xs : List X) → p + c + 1 < length xs → length (shift p c xs) ≡ length xs
  length_shift p c xs h = simp (length-append, length-take, length-drop) (omega arith)

  pub take-shift : (m p c : ℕ) (xs : List X) → p + c + 1 < m → m ≤ length xs → take m (shift p c xs) ≡ shift p c (take m xs)
  take-shift m p c xs h l =
      let n : length (take m xs) ≡ m = simp length-take (omega arith) in
      ap (λ ys. take m (shift p c ys)) (sym (take-append-drop m xs)) ∙ ap (take m) (shift-append p c (take m xs) (drop m xs) (omega arith))
      ∙ take_at (shift p c (take m xs)) (drop m xs) m (length_shift p c (take m xs) (omega arith) ∙ n)

  pub drop-shift : (n p c : ℕ) (xs : List X) → n + p ≤ length xs → drop n (shift (n + p) c xs) ≡ shift p c (drop n xs)
  drop-shift n p c xs h =
      drop-append-le n (take (n + p) xs) _ (simp length-take (omega arith)) ∙ (λ i. drop-take n p xs i ++ turned c (sym (drop-drop p n xs) i))

pub map-shift : {X Y : Type 0} (f : X → Y) (p c : ℕ) (xs : List X) → map f (shift p c xs) ≡ shift p c (map f xs)
map-shift f p c xs = simp (map-append, take-map, drop-map)

-- the part from `from` to `last`, rotated by one
pub rotated : {X : Type 0} (from last : ℕ) (xs ys : List X) → from < last → last < length xs
    → ys ≡ drop (length (take (last + 1 - from) (drop from xs)) - 1) (take (last + 1 - from) (drop from xs)) ++ take (length (take (last + 1 - from) (drop from xs)) - 1) (take (last + 1 - from) (drop from xs))
    → put_mid from (last + 1 - from) xs ys ≡ shift from (last - from - 1) xs
rotated from last xs ys h l e =
    let n : last + 1 - from ≡ suc (suc (last - from - 1)) = omega arith in
    let m : length (take (last + 1 - from) (drop from xs)) - 1 ≡ suc (last - from - 1) = simp (length-take, length-drop) (omega arith) in
    ap (λ zs. put_mid from (last + 1 - from) xs zs) e
    ∙ (λ i. take from xs ++ (drop (m i) (take (n i) (drop from xs)) ++ take (m i) (take (n i) (drop from xs)) ++ drop (n i) (drop from xs)))
