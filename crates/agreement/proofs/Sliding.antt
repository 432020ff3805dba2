-- Reads that pass waiting writes: every list that a store buffer emits is reached from program order by moves.
use Rattle.std.proofs.Common.{◌≡◌, ℕ, true, false, cond, eqb, ◌≢◌, List, [], ◌∷◌, ◌++◌, length, sym, refl, ap, ◌∙◌, subst, subst₂}
use Rattle.std.proofs.lemmas.Bool.{eq-eqb, ne_eqb, or_left, or_right, or_from, cond-true, cond-false}
use Rattle.records.specs.declared.action.Action.{Action}
use Rattle.records.specs.declared.action.Action.TheVariants.{Read, Write}
use Rattle.agreement.specs.Convert.{Group, group, holds, joins, Mark, shift, shifts, passing, settling}
use Rattle.agreement.proofs.Buffer.{Free, Join, here, there, reads, reads-snoc}
use Rattle.agreement.proofs.Moving.{Carry, stop, skip, at, on, Moves, still, step}

-- the groups laid out before the rest
abbrev pub lay : List Group → List Action → List Action
lay [] rs = rs
lay (group w y ns ∷ gs) rs = Write w y ∷ (reads w y ns ++ lay gs rs)

pub lay-snoc : (gs : List Group) (w y : ℕ) (rs : List Action) → lay (gs ++ (group w y [] ∷ [])) rs ≡ lay gs (Write w y ∷ rs)
lay-snoc [] w y rs = refl
lay-snoc (group v z ns ∷ gs) w y rs = ap {B = List Action} (λ k. Write v z ∷ (reads v z ns ++ k)) (lay-snoc gs w y rs)

-- moves behind one action, moves behind some reads, and one list of moves after another
pub under : {a : Action} {ms : List Mark} {K L : List Action} → Moves ms K L → Moves (shift ms) (a ∷ K) (a ∷ L)
under {a} (still e) = still (ap {B = List Action} (λ z. a ∷ z) e)
under (step m h) = step (on m) (under h)

pub under-reads : (w y : ℕ) (ns : List ℕ) {ms : List Mark} {K L : List Action}
    → Moves ms K L → Moves (shifts (length ns) ms) (reads w y ns ++ K) (reads w y ns ++ L)
under-reads w y [] h = h
under-reads w y (n ∷ ns) h = under (under-reads w y ns h)

pub after : {ms ms' : List Mark} {J K L : List Action} → Moves ms J K → Moves ms' K L → Moves (ms ++ ms') J L
after {ms' = ms'} {L = L} (still e) h = subst (λ z. Moves ms' z L) (sym e) h
after (step m g) h = step m (after g h)

carry : (w y : ℕ) (ns : List ℕ) (n x s : ℕ) (K : List Action) → x ≢ y
    → Carry w y (length ns) (reads w y ns ++ (Read n x s ∷ K)) (Read n x s) (reads w y ns ++ K)
carry w y [] n x s K h = stop h
carry w y (m ∷ ns) n x s K h = skip refl refl (carry w y ns n x s K h)

-- a read that sees memory passes all the groups, from the last to the first
pub slide : (gs : List Group) (n x s : ℕ) (rs : List Action) → Free x gs
    → Moves (passing gs) (lay gs (Read n x s ∷ rs)) (Read n x s ∷ lay gs rs)
slide [] n x s rs f = still refl
slide (group w y ns ∷ gs) n x s rs f =
    after (under (under-reads w y ns (slide gs n x s rs f.1)))
    (step (at (carry w y ns n x s (lay gs rs) f.0)) (still refl))

-- ── Which group a read joins ──
pub free-holds : (x : ℕ) (gs : List Group) → Free x gs → holds x gs ≡ false
free-holds x [] f = refl
free-holds x (group w y ns ∷ gs) f = or_from (eqb x y) (holds x gs) (ne_eqb x y f.0) (free-holds x gs f.1)

pub join-holds : {n x s : ℕ} {gs hs : List Group} → Join n x s gs hs → holds x gs ≡ true
join-holds {x = x} (here {w} {y} {ns} {gs} e f g) = or_left (eqb x y) (holds x gs) (eq-eqb x y f)
join-holds {x = x} (there {g = group w y ns} {gs} j) = or_right (eqb x y) (holds x gs) (join-holds j)

pub join_is : {n x s : ℕ} {gs hs : List Group} → Join n x s gs hs → hs ≡ joins n x gs
join_is {n} {x} (here {w} {y} {ns} {gs} e f g) = sym (cond-false (holds x gs) _ _ (free-holds x gs g))
join_is {n} {x} (there {g = group w y ns} {gs} j) =
    ap {B = List Group} (λ h. group w y ns ∷ h) (join_is j) ∙ sym (cond-true (holds x gs) _ _ (join-holds j))

-- a read that joins a group passes those behind it
pub settle : {n x s : ℕ} {gs hs : List Group} (rs : List Action) → Join n x s gs hs
    → Moves (settling x gs) (lay gs (Read n x s ∷ rs)) (lay hs rs)
settle {n} {x} {s} rs (here {w} {y} {ns} {gs} e f g) =
    let same : Read n x s ≡ Read n y w = (cc) in
    subst₂ (λ b l. Moves (shift (shifts (length ns) (cond b (settling x gs) (passing gs))))
    (Write w y ∷ (reads w y ns ++ lay gs (Read n x s ∷ rs))) (Write w y ∷ l))
    (sym (free-holds x gs g))
    (ap {B = List Action} (λ z. reads w y ns ++ (z ∷ lay gs rs)) same ∙ sym (reads-snoc w y ns n (lay gs rs)))
    (under (under-reads w y ns (slide gs n x s rs g)))
settle {n} {x} {s} rs (there {g = group w y ns} {gs} {hs} j) =
    subst (λ b. Moves (shift (shifts (length ns) (cond b (settling x gs) (passing gs))))
    (Write w y ∷ (reads w y ns ++ lay gs (Read n x s ∷ rs))) (Write w y ∷ (reads w y ns ++ lay hs rs)))
    (sym (join-holds j)) (under (under-reads w y ns (settle rs j)))
