-- Hosts stand for groups: what a read does to groups, and the moves by which it passes them, depend on the hosts alone.
use Rattle.std.proofs.Common.{◌≡◌, ℕ, zero, suc, ◌+◌, ◌-◌, ◌<◌, Bool, true, false, cond, ◌||◌, eqb, List, [], ◌∷◌, ◌++◌, map, length, take, drop, refl, ap, ◌∙◌, arith}
use Rattle.std.proofs.lemmas.List.{map-append, length_push}
use Rattle.std.proofs.lemmas.Bool.{true≢false, false≢true}
use Rattle.records.specs.declared.Item.{Item}
use Rattle.agreement.specs.Convert.{Group, group, holds, joins, Mark, mark, shifts, passing, settling}
use Rattle.agreement.proofs.Shifts.{shifts-nil, shifts-append, shifts-more, shifts-one}
use Rattle.conversions.specs.declared.hosts.Host.{Host}
use Rattle.conversions.specs.Hosts.{width, behind, stay, joins_at}
use Rattle.conversions.specs.Along.{move_of, passes, moves_before}
use Rattle.conversions.proofs.Staying.{width-drop}

abbrev pub host_of : Group → Host
host_of (group w y ns) = record { location = y; joined = length ns }

abbrev pub hosts_of : List Group → List Host
hosts_of gs = map host_of gs

-- ── Where a read stays ──
abbrev pub positive : ℕ → Bool
positive zero = false
positive (suc n) = true

pub positive-some : (n : ℕ) → positive n ≡ true → 0 < n
positive-some zero e = absurd (false≢true e)
positive-some (suc n) e = omega arith

pub positive-none : (n : ℕ) → positive n ≡ false → n ≡ 0
positive-none zero e = refl
positive-none (suc n) e = absurd (true≢false e)

pub holds-stay : (x : ℕ) (gs : List Group) → holds x gs ≡ positive (stay x (hosts_of gs))
holds-stay x [] = refl
holds-stay x (group w y ns ∷ gs) = ap (λ b. eqb x y || b) (holds-stay x gs) ∙ go (eqb x y) (stay x (hosts_of gs))
  where
    go : (b : Bool) (n : ℕ) → (b || positive n) ≡ positive (behind b n)
    go true zero = refl
    go false zero = refl
    go true (suc n) = refl
    go false (suc n) = refl

-- ── A read that joins ──
pub joins-hosts : (n x : ℕ) (gs : List Group) → holds x gs ≡ true → hosts_of (joins n x gs) ≡ joins_at (stay x (hosts_of gs)) (hosts_of gs)
joins-hosts n x [] e = absurd (false≢true e)
joins-hosts n x (group w y ns ∷ gs) e =
    go (holds x gs) (stay x (hosts_of gs)) (holds-stay x gs) (joins-hosts n x gs) (eqb x y) e
  where
    go : (k : Bool) (m : ℕ) → k ≡ positive m → (k ≡ true → hosts_of (joins n x gs) ≡ joins_at m (hosts_of gs))
        → (b : Bool) → (b || k) ≡ true
        → hosts_of (cond k (group w y ns ∷ joins n x gs) (group w y (ns ++ (n ∷ [])) ∷ gs))
        ≡ joins_at (behind b m) (hosts_of (group w y ns ∷ gs))
    go true zero q onward b h = absurd (true≢false q)
    go true (suc m) q onward b h = ap {B = List Host} (λ l. host_of (group w y ns) ∷ l) (onward refl)
    go false (suc m) q onward b h = absurd (false≢true q)
    go false zero q onward true h =
        ap {B = List Host} (λ k. record { location = y; joined = k } ∷ hosts_of gs) (length_push ns n)
    go false zero q onward false h = absurd (false≢true h)

-- ── The moves past groups, as items ──
abbrev pub move_item : ℕ → Mark → Item
move_item t (mark p n) = move_of t p n

abbrev pub as_moves : ℕ → List Mark → List Item
as_moves t ms = map (move_item t) ms

passing-moves : (t b : ℕ) (gs : List Group) → as_moves t (shifts b (passing gs)) ≡ passes t b (hosts_of gs)
passing-moves t b [] = ap (as_moves t) (shifts-nil b)
passing-moves t b (group w y ns ∷ gs) =
    let n = length ns in
    let ms = shifts (suc n) (passing gs) in
    ap (as_moves t)
    (shifts-append b ms (mark 0 n ∷ [])
    ∙ (λ i. shifts-more b (suc n) (passing gs) i ++ shifts-one b n i))
    ∙ map-append (move_item t) (shifts (b + suc n) (passing gs)) (mark b n ∷ [])
    ∙ ap {B = List Item} (λ l. l ++ (move_of t b n ∷ [])) (passing-moves t (b + suc n) gs)

-- the marks of a read of x
abbrev pub marks_past : ℕ → List Group → List Mark
marks_past x gs = cond (holds x gs) (settling x gs) (passing gs)

past-moves : (t b x : ℕ) (gs : List Group)
    → as_moves t (shifts b (marks_past x gs)) ≡ passes t (b + width (take (stay x (hosts_of gs)) (hosts_of gs))) (drop (stay x (hosts_of gs)) (hosts_of gs))
past-moves t b x [] = ap (as_moves t) (shifts-nil b)
past-moves t b x (group w y ns ∷ gs) =
    go (holds x gs) (stay x (hosts_of gs)) (holds-stay x gs) (past-moves t (b + suc (length ns)) x gs) (eqb x y)
  where
    deeper : (k : Bool) (m : ℕ)
        → as_moves t (shifts (b + suc (length ns)) (cond k (settling x gs) (passing gs)))
        ≡ passes t (b + suc (length ns) + width (take m (hosts_of gs))) (drop m (hosts_of gs))
        → as_moves t (shifts b (shifts (suc (length ns)) (cond k (settling x gs) (passing gs))))
        ≡ passes t (b + suc (length ns + width (take m (hosts_of gs)))) (drop m (hosts_of gs))
    deeper k m h =
        let e : b + suc (length ns) + width (take m (hosts_of gs)) ≡ b + suc (length ns + width (take m (hosts_of gs))) = omega arith in
        ap (as_moves t) (shifts-more b (suc (length ns)) (cond k (settling x gs) (passing gs))) ∙ h
        ∙ ap (λ p. passes t p (drop m (hosts_of gs))) e

    go : (k : Bool) (m : ℕ) → k ≡ positive m
        → as_moves t (shifts (b + suc (length ns)) (cond k (settling x gs) (passing gs)))
        ≡ passes t (b + suc (length ns) + width (take m (hosts_of gs))) (drop m (hosts_of gs))
        → (z : Bool)
        → as_moves t (shifts b (cond (z || k) (shifts (suc (length ns)) (cond k (settling x gs) (passing gs))) (passing (group w y ns ∷ gs))))
        ≡ passes t (b + width (take (behind z m) (hosts_of (group w y ns ∷ gs)))) (drop (behind z m) (hosts_of (group w y ns ∷ gs)))
    go true zero q h z = absurd (true≢false q)
    go true (suc m) q h true = deeper true (suc m) h
    go true (suc m) q h false = deeper true (suc m) h
    go false (suc m) q h z = absurd (false≢true q)
    go false zero q h true = deeper false zero h
    go false zero q h false =
        let e : b ≡ b + 0 = omega arith in
        passing-moves t b (group w y ns ∷ gs) ∙ ap (λ p. passes t p (hosts_of (group w y ns ∷ gs))) e

-- b actions come before all that wait, and the read stands at p
pub read-moves : (t b p x : ℕ) (gs : List Group) → b + width (hosts_of gs) ≡ p
    → as_moves t (shifts b (marks_past x gs)) ≡ moves_before t p (drop (stay x (hosts_of gs)) (hosts_of gs))
read-moves t b p x gs e =
    let hs = hosts_of gs in
    let w = width-drop (stay x hs) hs in
    let q : b + width (take (stay x hs) hs) ≡ p - width (drop (stay x hs) hs) = omega arith in
    past-moves t b x gs ∙ ap (λ k. passes t k (drop (stay x hs) hs)) q
