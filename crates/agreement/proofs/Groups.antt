-- Waiting writes and their reads, by places instead of names.
use Rattle.std.proofs.Common.{◌≡◌, ℕ, suc, ◌+◌, Bool, true, false, cond, ◌||◌, eqb, List, [], ◌∷◌, ◌++◌, length, sym, refl, ap, ◌∙◌, subst, ap₂, append_assoc, arith, length-append}
use Rattle.std.specs.List.{AllByRecursion}
use Rattle.std.proofs.lemmas.Bool.{false≢true, cond_both}
use Rattle.agreement.specs.Convert.{Group, group, holds, joins, mark, shifts, passing, settling, each, released}
use Rattle.agreement.proofs.Tallies.{all_right, one_if, one_swap, tally_by, tally-append, tally_pull}

-- ── The same groups, once by names and once by places ──
pub data Alike : List Group → List Group → Type 0 where
  a_nil : Alike [] []
  a_cons : {w y q : ℕ} {ns ps : List ℕ} {gs hs : List Group} → length ns ≡ length ps
      → Alike gs hs → Alike (group w y ns ∷ gs) (group q y ps ∷ hs)

pub alike-holds : {gs hs : List Group} (x : ℕ) → Alike gs hs → holds x gs ≡ holds x hs
alike-holds x a_nil = refl
alike-holds x (a_cons {y = y} e s) = ap (λ b. eqb x y || b) (alike-holds x s)

pub alike-snoc : {gs hs : List Group} (w y q : ℕ) → Alike gs hs → Alike (gs ++ (group w y [] ∷ [])) (hs ++ (group q y [] ∷ []))
alike-snoc w y q a_nil = a_cons refl a_nil
alike-snoc w y q (a_cons e s) = a_cons e (alike-snoc w y q s)

pub alike-joins : {gs hs : List Group} (n p x : ℕ) → Alike gs hs → Alike (joins n x gs) (joins p x hs)
alike-joins n p x a_nil = a_nil
alike-joins n p x (a_cons {w} {y} {q} {ns} {ps} {gs} {hs} e s) =
    subst (λ b. Alike (cond b (group w y ns ∷ joins n x gs) (group w y (ns ++ (n ∷ [])) ∷ gs)) (joins p x (group q y ps ∷ hs)))
    (sym (alike-holds x s)) (go (holds x hs) (alike-joins n p x s))
  where
    go : (b : Bool) → Alike (joins n x gs) (joins p x hs)
        → Alike (cond b (group w y ns ∷ joins n x gs) (group w y (ns ++ (n ∷ [])) ∷ gs))
        (cond b (group q y ps ∷ joins p x hs) (group q y (ps ++ (p ∷ [])) ∷ hs))
    go true j = a_cons e j
    go false j = a_cons (let a = length-append ns (n ∷ []) in let b = length-append ps (p ∷ []) in omega arith) s

pub alike-passing : {gs hs : List Group} → Alike gs hs → passing gs ≡ passing hs
alike-passing a_nil = refl
alike-passing (a_cons e s) = ap₂ (λ n ms. shifts (suc n) ms ++ (mark 0 n ∷ [])) e (alike-passing s)

pub alike-settling : {gs hs : List Group} (x : ℕ) → Alike gs hs → settling x gs ≡ settling x hs
alike-settling x a_nil = refl
alike-settling x (a_cons {ns = ns} {ps} {gs} {hs} e s) =
    ap₂ (λ n b. shifts (suc n) (cond b (settling x gs) (passing gs))) e (alike-holds x s)
    ∙ ap₂ (λ m p. shifts (suc (length ps)) (cond (holds x hs) m p)) (alike-settling x s) (alike-passing s)

pub alike-each : (t : ℕ) (ns ps os : List ℕ) → length ns ≡ length ps → each t ns os ≡ each t ps os
alike-each t [] [] os e = refl
alike-each t [] (p ∷ ps) os e = absurd (omega arith)
alike-each t (n ∷ ns) [] os e = absurd (omega arith)
alike-each t (n ∷ ns) (p ∷ ps) os e = ap {B = List ℕ} (λ l. t ∷ l) (alike-each t ns ps os (omega arith))

pub alike-released : {gs hs : List Group} (t : ℕ) (os : List ℕ) → Alike gs hs → released t gs os ≡ released t hs os
alike-released t os a_nil = refl
alike-released t os (a_cons {ns = ns} {ps} {gs} {hs} e s) =
    ap {B = List ℕ} (λ l. t ∷ l) (alike-each t ns ps (released t gs os) e ∙ ap (λ l. each t ps l) (alike-released t os s))

-- the oldest group by places
pub record Oldest (y : ℕ) (ns : List ℕ) (gs hs : List Group) : Type 0 where
  pub place : ℕ
  pub readers : List ℕ
  pub newer : List Group
  pub are : hs ≡ group place y readers ∷ newer
  pub many : length ns ≡ length readers
  pub alike : Alike gs newer

pub oldest : {w y : ℕ} {ns : List ℕ} {gs hs : List Group} → Alike (group w y ns ∷ gs) hs → Oldest y ns gs hs
oldest (a_cons {q = q} {ps = ps} {hs = hs} e s) = record { place = q; readers = ps; newer = hs; are = refl; many = e; alike = s }

pub alike-nil : {hs : List Group} → Alike [] hs → hs ≡ []
alike-nil a_nil = refl

-- ── Places ──
-- all places of the groups, oldest group first
abbrev pub places : List Group → List ℕ
places [] = []
places (group q y ps ∷ hs) = q ∷ (ps ++ places hs)

-- those of the writes, oldest first; newest first, before others
abbrev pub writes_in : List Group → List ℕ
writes_in [] = []
writes_in (group q y ps ∷ hs) = q ∷ writes_in hs

abbrev pub newest_first : List Group → List ℕ → List ℕ
newest_first [] acc = acc
newest_first (group q y ps ∷ hs) acc = newest_first hs (q ∷ acc)

-- the newest write to x
abbrev pub newest_to : ℕ → List Group → ℕ
newest_to x [] = 0
newest_to x (group q y ps ∷ hs) = cond (holds x hs) (newest_to x hs) q

pub newest_first-snoc : (hs : List Group) (q y : ℕ) (acc : List ℕ)
    → newest_first (hs ++ (group q y [] ∷ [])) acc ≡ q ∷ newest_first hs acc
newest_first-snoc [] q y acc = refl
newest_first-snoc (group p z ps ∷ hs) q y acc = newest_first-snoc hs q y (p ∷ acc)

pub newest_first-length : (hs : List Group) (acc : List ℕ) → length (newest_first hs acc) ≡ length acc + length hs
newest_first-length [] acc = omega arith
newest_first-length (group p z ps ∷ hs) acc = let h = newest_first-length hs (p ∷ acc) in omega arith

pub places-snoc : (hs : List Group) (q y : ℕ) → places (hs ++ (group q y [] ∷ [])) ≡ places hs ++ (q ∷ [])
places-snoc [] q y = refl
places-snoc (group p z ps ∷ hs) q y =
    ap {B = List ℕ} (λ l. p ∷ (ps ++ l)) (places-snoc hs q y)
    ∙ ap {B = List ℕ} (λ l. p ∷ l) (sym (append_assoc ps (places hs) (q ∷ [])))

pub all-writes : (P : ℕ → Type 0) (hs : List Group) → AllByRecursion P (places hs) → AllByRecursion P (writes_in hs)
all-writes P [] h = tt
all-writes P (group q y ps ∷ hs) h = (h.0, all-writes P hs (all_right P ps (places hs) h.1))

pub newest_in : (P : ℕ → Type 0) (x : ℕ) (hs : List Group) → holds x hs ≡ true → AllByRecursion P (writes_in hs) → P (newest_to x hs)
newest_in P x [] h a = absurd (false≢true h)
newest_in P x (group q y ps ∷ hs) h a =
    cond_both (holds x hs) (newest_to x hs) q P (λ e. newest_in P x hs e a.1) (λ e. a.0)

-- ── A read that joins ──
module _ (n x : ℕ) where
  -- what holds of both forms that a joined group may take
  joined_by : (P : List Group → Type 0) (q y : ℕ) (ps : List ℕ) (hs : List Group)
      → (holds x hs ≡ true → P (group q y ps ∷ joins n x hs)) → (holds x hs ≡ false → P (group q y (ps ++ (n ∷ [])) ∷ hs))
      → P (joins n x (group q y ps ∷ hs))
  joined_by P q y ps hs a b = cond_both (holds x hs) (group q y ps ∷ joins n x hs) (group q y (ps ++ (n ∷ [])) ∷ hs) P a b

  pub writes_in-joins : (hs : List Group) → writes_in (joins n x hs) ≡ writes_in hs
  writes_in-joins [] = refl
  writes_in-joins (group q y ps ∷ hs) =
      joined_by (λ g. writes_in g ≡ q ∷ writes_in hs) q y ps hs (λ _. ap {B = List ℕ} (λ l. q ∷ l) (writes_in-joins hs)) (λ _. refl)

  pub newest_first-joins : (hs : List Group) (acc : List ℕ) → newest_first (joins n x hs) acc ≡ newest_first hs acc
  newest_first-joins [] acc = refl
  newest_first-joins (group q y ps ∷ hs) acc =
      joined_by (λ g. newest_first g acc ≡ newest_first hs (q ∷ acc)) q y ps hs (λ _. newest_first-joins hs (q ∷ acc)) (λ _. refl)

  pub tally-joins : (f : ℕ → Bool) (hs : List Group) → holds x hs ≡ true
      → tally_by f (places (joins n x hs)) ≡ tally_by f (n ∷ places hs)
  tally-joins f [] h = absurd (false≢true h)
  tally-joins f (group q y ps ∷ hs) h =
      joined_by (λ g. tally_by f (places g) ≡ tally_by f (n ∷ q ∷ (ps ++ places hs))) q y ps hs
      (λ e. ap (one_if (f q))
      (tally-append f ps (places (joins n x hs)) ∙ ap (λ u. tally_by f ps + u) (tally-joins f hs e)
      ∙ sym (tally-append f ps (n ∷ places hs)) ∙ tally_pull f n ps (places hs))
      ∙ one_swap (f q) (f n) (tally_by f (ps ++ places hs)))
      (λ e. ap (λ l. tally_by f (q ∷ l)) (append_assoc ps (n ∷ []) (places hs)) ∙ ap (one_if (f q)) (tally_pull f n ps (places hs))
      ∙ one_swap (f q) (f n) (tally_by f (ps ++ places hs)))
