-- Lists of actions by thread and place: whose they are, how often each comes, and that they rise by moments.
use Rattle.std.proofs.Common.{◌≡◌, ℕ, zero, suc, ◌+◌, ◌<◌, ◌≤◌, true, ◌&&◌, eqb, ◌≢◌, List, [], ◌∷◌, ◌++◌, sym, refl, ap, ◌∙◌, subst, ⊎_elim, arith}
use Rattle.std.specs.List.{AllByRecursion}
use Rattle.std.proofs.lemmas.Bool.{eq-eqb, cases_eq}
use Rattle.records.specs.Names.{Case}
use Rattle.machines.specs.declared.items.RunItem.{RunItem}
use Rattle.agreement.specs.Convert.{Group, group, each, released, flushed}
use Rattle.agreement.specs.Moments.{before, Site, site, threads_in, times, host, moment, earlier, First, Rising}
use Rattle.agreement.proofs.Dictionary.{before_head, before-tail}
use Rattle.agreement.proofs.Tallies.{all-each, all_left, one_if, one_left, tally_by}
use Rattle.agreement.proofs.Orders.{not_here}
use Rattle.agreement.proofs.Groups.{Alike, alike-released, places}
use Rattle.agreement.proofs.Waiting.{when, RisingIn}

-- actions of one thread before others; the groups of d threads from j on
abbrev pub each_site : ℕ → List ℕ → List Site → List Site
each_site t [] l = l
each_site t (p ∷ ps) l = site t p ∷ each_site t ps l

abbrev pub flushed_sites : ℕ → ℕ → (ℕ → List Group) → List Site
flushed_sites zero j hs = []
flushed_sites (suc d) j hs = each_site j (places (hs j)) (flushed_sites d (suc j) hs)

-- ── Their threads ──
pub threads-each : (t : ℕ) (ps : List ℕ) (l : List Site) → threads_in (each_site t ps l) ≡ each t ps (threads_in l)
threads-each t [] l = refl
threads-each t (p ∷ ps) l = ap {B = List ℕ} (λ z. t ∷ z) (threads-each t ps l)

each_append : (t : ℕ) (ps qs os : List ℕ) → each t (ps ++ qs) os ≡ each t ps (each t qs os)
each_append t [] qs os = refl
each_append t (p ∷ ps) qs os = ap {B = List ℕ} (λ z. t ∷ z) (each_append t ps qs os)

each-places : (t : ℕ) (hs : List Group) (os : List ℕ) → each t (places hs) os ≡ released t hs os
each-places t [] os = refl
each-places t (group q y ps ∷ hs) os =
    ap {B = List ℕ} (λ z. t ∷ z) (each_append t ps (places hs) os ∙ ap (λ z. each t ps z) (each-places t hs os))

pub threads-flushed : (d j : ℕ) (gs hs : ℕ → List Group) → ((u : ℕ) → Alike (gs u) (hs u))
    → threads_in (flushed_sites d j hs) ≡ flushed d j gs
threads-flushed zero j gs hs s = refl
threads-flushed (suc d) j gs hs s =
    let l = flushed_sites d (suc j) hs in
    threads-each j (places (hs j)) l ∙ each-places j (hs j) (threads_in l) ∙ sym (alike-released j (threads_in l) (s j))
    ∙ ap (λ z. released j (gs j) z) (threads-flushed d (suc j) gs hs s)

-- ── How often each comes ──
pub times-same : (t r : ℕ) (xs : List ℕ) (l : List Site) → times t r (each_site t xs l) ≡ tally_by (λ k. eqb r k) xs + times t r l
times-same t r [] l = omega arith
times-same t r (x ∷ xs) l =
    ap (λ b. one_if (b && eqb r x) (times t r (each_site t xs l))) (eq-eqb t t refl)
    ∙ ap (one_if (eqb r x)) (times-same t r xs l) ∙ sym (one_left (eqb r x) (tally_by (λ k. eqb r k) xs) (times t r l))

pub times-off : (t u r : ℕ) (xs : List ℕ) (l : List Site) → u ≢ t → times u r (each_site t xs l) ≡ times u r l
times-off t u r [] l n = refl
times-off t u r (x ∷ xs) l n = not_here t u r x (each_site t xs l) n ∙ times-off t u r xs l n

times-low : (d j u r : ℕ) (hs : ℕ → List Group) → u < j → times u r (flushed_sites d j hs) ≡ 0
times-low zero j u r hs l = refl
times-low (suc d) j u r hs l =
    times-off j u r (places (hs j)) (flushed_sites d (suc j) hs) (omega arith) ∙ times-low d (suc j) u r hs (omega arith)

pub times-flushed : (d j u r : ℕ) (hs : ℕ → List Group) → j ≤ u → (j + d ≤ u → hs u ≡ [])
    → times u r (flushed_sites d j hs) ≡ tally_by (λ k. eqb r k) (places (hs u))
times-flushed zero j u r hs l e = sym (ap (λ h. tally_by (λ k. eqb r k) (places h)) (e (omega arith)))
times-flushed (suc d) j u r hs l e =
    ⊎_elim (λ (q : u ≡ j). subst (λ v. times v r (flushed_sites (suc d) j hs) ≡ tally_by (λ k. eqb r k) (places (hs v)))
    (sym q) same)
    (λ (q : u ≢ j). times-off j u r (places (hs j)) (flushed_sites d (suc j) hs) q ∙ times-flushed d (suc j) u r hs (omega arith)
    (λ k. e (omega arith)))
    (cases_eq u j)
  where
    same : times j r (flushed_sites (suc d) j hs) ≡ tally_by (λ k. eqb r k) (places (hs j))
    same =
        let a = times-same j r (places (hs j)) (flushed_sites d (suc j) hs) in
        let b = times-low d (suc j) j r hs (omega arith) in
        omega arith

-- ── Rising by moments ──
module _ (c : Case) (js : List RunItem) where
  -- nothing comes before i
  abbrev pub Late : ℕ → List Site → Type 0
  Late i [] = Unit {0}
  Late i (site t p ∷ l) = (i ≤ when c js t p) × Late i l

  pub late_down : (i : ℕ) (l : List Site) → Late (suc i) l → Late i l
  late_down i [] h = tt
  late_down i (site t p ∷ l) h = ((omega arith), late_down i l h.1)

  pub late-each : (i t : ℕ) (xs : List ℕ) (l : List Site) → AllByRecursion (λ x. when c js t x ≡ i) xs → Late i l → Late i (each_site t xs l)
  late-each i t [] l h k = k
  late-each i t (x ∷ xs) l h k = ((omega arith), late-each i t xs l h.1 k)

  first-each : (u x t : ℕ) (xs : List ℕ) (l : List Site) → AllByRecursion (λ z. before (moment c js u x) (moment c js t z) ≡ true) xs
      → First c js (site u x) l → First c js (site u x) (each_site t xs l)
  first-each u x t [] l h k = k
  first-each u x t (z ∷ xs) l h k = (h.0, first-each u x t xs l h.1 k)

  pub first-late : (t x i : ℕ) (l : List Site) → when c js t x < i → Late i l → First c js (site t x) l
  first-late t x i [] h k = tt
  first-late t x i (site u z ∷ l) h k = (
    before_head (when c js t x) (when c js u z) (t ∷ host c js t x ∷ x ∷ []) (u ∷ host c js u z ∷ z ∷ [])
        (let y = k.0 in omega arith),
    first-late t x i l h k.1,
  )

  pub rising-each : (t : ℕ) (xs : List ℕ) (l : List Site) → RisingIn c js t xs → AllByRecursion (λ x. First c js (site t x) l) xs
      → Rising c js l → Rising c js (each_site t xs l)
  rising-each t [] l r f k = k
  rising-each t (x ∷ xs) l r f k = (first-each t x t xs l r.0 f.0, rising-each t xs l r.1 f.1 k)

  pub rising-left : (t : ℕ) (xs ys : List ℕ) → RisingIn c js t (xs ++ ys) → RisingIn c js t xs
  rising-left t [] ys r = tt
  rising-left t (x ∷ xs) ys r = (all_left (λ z. earlier c js t x z ≡ true) xs ys r.0, rising-left t xs ys r.1)

  -- the groups that wait at the end come after the last item, by thread and then by age
  module _ (i : ℕ) (hs : ℕ → List Group) (now : (u : ℕ) → AllByRecursion (λ x. when c js u x ≡ i) (places (hs u)))
      (up : (u : ℕ) → RisingIn c js u (places (hs u))) where
    first-flushed : (t x d j : ℕ) → t < j → when c js t x ≡ i → First c js (site t x) (flushed_sites d j hs)
    first-flushed t x zero j l e = tt
    first-flushed t x (suc d) j l e =
        first-each t x j (places (hs j)) (flushed_sites d (suc j) hs)
        (all-each (λ z h. before-tail (when c js t x) (when c js j z) (t ∷ host c js t x ∷ x ∷ []) (j ∷ host c js j z ∷ z ∷ [])
        (e ∙ sym h)
        (before_head t j (host c js t x ∷ x ∷ []) (host c js j z ∷ z ∷ []) l)) (places (hs j)) (now j))
        (first-flushed t x d (suc j) (omega arith) e)

    pub rising-flushed : (d j : ℕ) → Rising c js (flushed_sites d j hs)
    rising-flushed zero j = tt
    rising-flushed (suc d) j =
        rising-each j (places (hs j)) (flushed_sites d (suc j) hs) (up j)
        (all-each (λ x h. first-flushed j x d (suc j) (omega arith) h) (places (hs j)) (now j)) (rising-flushed d (suc j))

    pub late-flushed : (d j : ℕ) → Late i (flushed_sites d j hs)
    late-flushed zero j = tt
    late-flushed (suc d) j = late-each i j (places (hs j)) (flushed_sites d (suc j) hs) (now j) (late-flushed d (suc j))
