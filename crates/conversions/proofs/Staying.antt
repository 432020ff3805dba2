-- Hosts from the newest on: where a read stays, how many actions wait, and the moves past the newer hosts.
use Rattle.std.proofs.Common.{◌≡◌, ℕ, zero, suc, ◌+◌, ◌-◌, ◌<◌, ◌≤◌, Bool, true, false, cond, eqb, List, [], ◌∷◌, ◌++◌, map, sum, length, get_or, take, drop, set, sym, refl, ap, ◌∙◌, arith}
use lib.Seq.{take-set-lt}
use Rattle.std.specs.List.{between}
use Rattle.std.proofs.lemmas.List.{drop-set-add, take-append-drop}
use Rattle.std.proofs.lemmas.List.Edits.{length-between, get_or-between}
use Rattle.std.proofs.lemmas.List.Sums.{sum_by-cons}
use Rattle.records.specs.declared.Item.{Item}
use Rattle.conversions.specs.declared.hosts.Host.{Host}
use Rattle.conversions.specs.Hosts.{new_host, width, behind, stay, raised, joins_at}
use Rattle.conversions.specs.Along.{unhosted, move_of, passes}

-- ── Where a read stays ──
pub stay_push : (x : ℕ) (hs : List Host) (h : Host) → stay x (hs ++ h ∷ []) ≡ cond (eqb x h.location) (suc (length hs)) (stay x hs)
stay_push x [] h = refl
stay_push x (g ∷ hs) h =
    ap (behind (eqb x g.location)) (stay_push x hs h) ∙ go (eqb x h.location)
  where
    go : (b : Bool) → behind (eqb x g.location) (cond b (suc (length hs)) (stay x hs))
        ≡ cond b (suc (suc (length hs))) (behind (eqb x g.location) (stay x hs))
    go true = refl
    go false = refl

pub stay-within : (x : ℕ) (hs : List Host) → stay x hs ≤ length hs
stay-within x [] = omega arith
stay-within x (h ∷ hs) = go (stay x hs) (eqb x h.location) (stay-within x hs)
  where
    go : (n : ℕ) (b : Bool) → n ≤ length hs → behind b n ≤ suc (length hs)
    go zero true l = omega arith
    go zero false l = omega arith
    go (suc n) b l = omega arith

-- ── How many actions wait ──
pub width-sum : (hs : List Host) → sum (map (λ (h : Host). h.joined + 1) hs) ≡ width hs
width-sum [] = refl
width-sum (h ∷ hs) =
    let w = width-sum hs in
    sum_by-cons (λ n. n) (h.joined + 1) (map (λ (g : Host). g.joined + 1) hs) ∙ omega arith

pub width_append : (xs ys : List Host) → width (xs ++ ys) ≡ width xs + width ys
width_append [] ys = omega arith
width_append (h ∷ xs) ys = let a = width_append xs ys in omega arith

pub width-drop : (n : ℕ) (hs : List Host) → width (take n hs) + width (drop n hs) ≡ width hs
width-drop n hs = sym (width_append (take n hs) (drop n hs)) ∙ ap width (take-append-drop n hs)

pub width-take-le : (n : ℕ) (hs : List Host) → width (take n hs) ≤ width hs
width-take-le n hs = let w = width-drop n hs in omega arith

pub width-drop-le : (n : ℕ) (hs : List Host) → width (drop n hs) ≤ width hs
width-drop-le n hs = let w = width-drop n hs in omega arith

width-raised : (n : ℕ) (hs : List Host) (d : Host) → n < length hs → width (set hs n (raised (get_or hs n d))) ≡ suc (width hs)
width-raised n [] d l = absurd (omega arith)
width-raised zero (h ∷ hs) d l = omega arith
width-raised (suc n) (h ∷ hs) d l = let a = width-raised n hs d (omega arith) in omega arith

pub joined_small : (hs : List Host) (n : ℕ) (d : Host) → n < length hs → (get_or hs n d).joined < width hs
joined_small [] n d l = absurd (omega arith)
joined_small (h ∷ hs) zero d l = omega arith
joined_small (h ∷ hs) (suc n) d l = let a = joined_small hs n d (omega arith) in omega arith

-- ── A read joins ──
pub unhosted-some : (n : ℕ) → 0 < n → unhosted n ≡ 0
unhosted-some zero l = absurd (omega arith)
unhosted-some (suc n) l = refl

pub width-joins : (n : ℕ) (hs : List Host) → 0 < n → n ≤ length hs → width (joins_at n hs) ≡ suc (width hs)
width-joins zero hs l m = absurd (omega arith)
width-joins (suc n) hs l m = width-raised n hs (new_host 0) (omega arith)

-- in a window of a table
pub window-joins : (xs : List Host) (i j n : ℕ) → 0 < n → n ≤ j - i
    → between i j (set xs (i + n - 1) (raised (get_or xs (i + n - 1) (new_host 0)))) ≡ joins_at n (between i j xs)
window-joins xs i j zero l m = absurd (omega arith)
window-joins xs i j (suc n) l m =
    let e : i + suc n - 1 ≡ i + n = omega arith in
    ap (λ k. between i j (set xs k (raised (get_or xs k (new_host 0))))) e
    ∙ ap (take (j - i)) (drop-set-add i xs n (raised (get_or xs (i + n) (new_host 0))))
    ∙ take-set-lt (j - i) (drop i xs) n (raised (get_or xs (i + n) (new_host 0))) (omega arith)
    ∙ ap (λ h. set (between i j xs) n (raised h)) (sym (get_or-between xs i j n (new_host 0) (omega arith)))

-- ── The moves past hosts ──
pub passes_push : (t b : ℕ) (hs : List Host) (h : Host) → passes t b (hs ++ h ∷ []) ≡ move_of t (b + width hs) h.joined ∷ passes t b hs
passes_push t b [] h = let z : b ≡ b + 0 = omega arith in ap {B = List Item} (λ p. move_of t p h.joined ∷ []) z
passes_push t b (g ∷ hs) h =
    let e : b + suc g.joined + width hs ≡ b + suc (g.joined + width hs) = omega arith in
    ap {B = List Item} (λ l. l ++ (move_of t b g.joined ∷ [])) (passes_push t (b + suc g.joined) hs h)
    ∙ ap {B = List Item} (λ p. move_of t p h.joined ∷ passes t b (g ∷ hs)) e

-- ── What the check may use at a row's methods ──
-- a read stays within the hosts that wait, and passes no more than wait
pub ruleset staying = (stay-within, length-between, width-take-le, width-drop-le)
