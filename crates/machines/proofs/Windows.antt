-- A window of a table moved at either end, and the newest of the waiting writes in it.
use Rattle.std.proofs.Common.{◌≡◌, ℕ, suc, ◌+◌, ◌-◌, ◌<◌, ◌≤◌, Bool, true, false, cond, eqb, List, [], ◌∷◌, ◌++◌, map, length, reverse, get_or, take, drop, set, Some, None, Option, unwrap_or, sym, refl, ap, ◌∙◌, arith}
use Rattle.std.specs.List.{between, find}
use Rattle.std.specs.Option.{option_or, option_map}
use Rattle.std.proofs.lemmas.List.Folds.{find-append}
use Rattle.std.proofs.lemmas.Bool.Decides.{nat_tests}
use Rattle.std.proofs.lemmas.List.{reverse-append, get_or-set_same, take-set, length-set, drop_more}
use Rattle.std.proofs.lemmas.Slice.{between_is}
use Rattle.std.proofs.lemmas.List.Edits.{between_more}
use Rattle.records.specs.Names.{named}
use Rattle.machines.specs.declared.rows.PendingWrite.{PendingWrite}
use Rattle.machines.specs.Rows.{waits_of, fits, newest_of}
use Rattle.machines.specs.Run.{sees}

-- one more at the end
pub window_more : {X : Type 0} (xs : List X) (i j : ℕ) (x : X) → i ≤ j → j < length xs → between i (j + 1) (set xs j x) ≡ between i j xs ++ x ∷ []
window_more xs i j x le lt =
    let long : length (set xs j x) ≡ length xs = length-set xs j x in
    let same : between i j (set xs j x) ≡ between i j xs = between_is _ i j ∙ ap (drop i) (take-set xs j x) ∙ sym (between_is xs i j) in
    between_more (set xs j x) i j x le (omega arith) ∙ (λ k. same k ++ get_or-set_same xs j x x lt k ∷ [])

-- one less at the front
pub window-less : {X : Type 0} (xs : List X) (i j : ℕ) (d : X) → i < j → i < length xs → between i j xs ≡ get_or xs i d ∷ between (i + 1) j xs
window-less xs i j d lt within =
    let n : j - i ≡ suc (j - (i + 1)) = omega arith in
    (λ k. take (n k) (drop_more xs i d within k))

-- ── The newest write to a location ──
or_assoc : (a b c : Option ℕ) → option_or (option_or a b) c ≡ option_or a (option_or b c)
or_assoc None b c = refl
or_assoc (Some x) b c = refl

or_none : (a : Option ℕ) → a ≡ option_or a None
or_none None = refl
or_none (Some x) = refl

map_or : (a b : Option PendingWrite) → option_map (λ w. w.place) (option_or a b) ≡ option_or (option_map (λ w. w.place) a) (option_map (λ w. w.place) b)
map_or None b = refl
map_or (Some w) b = refl

fits-find : (x : ℕ) (w : PendingWrite) → option_map (λ v. v.place) (find (λ v. eqb v.location x) (w ∷ [])) ≡ fits x w
fits-find x w = grind (arith, nat_tests)

-- the first that fits of the writes in reverse
pub newest_found : (x : ℕ) (ws : List PendingWrite) → option_map (λ w. w.place) (find (λ w. eqb w.location x) (reverse ws)) ≡ newest_of x ws
newest_found x [] = refl
newest_found x (w ∷ ws) =
    ap (λ vs. option_map (λ v. v.place) (find (λ v. eqb v.location x) vs)) (reverse-append (w ∷ []) ws) ∙ ap (option_map (λ v. v.place)) (find-append (λ v. eqb v.location x) (reverse ws) (w ∷ []))
    ∙ map_or (find (λ v. eqb v.location x) (reverse ws)) (find (λ v. eqb v.location x) (w ∷ []))
    ∙ (λ i. option_or (newest_found x ws i) (fits-find x w i))

-- what a read sees is the newest of the waiting writes, by its name, or else what memory holds
named-cond : (t p m : ℕ) (b : Bool) → cond b (named t p) m ≡ unwrap_or (option_map (named t) (cond b (Some p) None)) m
named-cond t p m true = refl
named-cond t p m false = refl

named_or : (t x m : ℕ) (w : PendingWrite) (o : Option ℕ) → unwrap_or (option_map (named t) o) (cond (eqb x w.location) (named t w.place) m) ≡ unwrap_or (option_map (named t) (option_or o (fits x w))) m
named_or t x m w (Some p) = refl
named_or t x m w None = named-cond t w.place m (eqb x w.location)

pub sees_newest : (t x : ℕ) (ws : List PendingWrite) (m : ℕ) → sees x (map (waits_of t) ws) m ≡ unwrap_or (option_map (named t) (newest_of x ws)) m
sees_newest t x [] m = refl
sees_newest t x (w ∷ ws) m = sees_newest t x ws (cond (eqb x w.location) (named t w.place) m) ∙ named_or t x m w (newest_of x ws)
