-- The order of all actions by rising moments: there is one, and sorting finds it.
use Rattle.std.proofs.Common.{◌≡◌, ℕ, zero, suc, ◌+◌, ◌<◌, ◌≤◌, Bool, true, false, cond, ◌&&◌, eqb, ltb, ◌≢◌, ◌⊎◌, List, [], ◌∷◌, length, sym, refl, ap, ◌∙◌, subst, ap₂, subst₂, inl, inr, ⊎_elim, arith}
use lib.ListN.{get_or-eq_default}
use Rattle.std.proofs.lemmas.Bool.{false≢true, eqb-true, eq-eqb, ne_eqb, lt-ltb, le-ltb, cases_lt, cases_eq, cases_Bool, and_parts, and_from, and_left, and_right, cond-true, cond-false}
use Rattle.records.specs.Names.{Case, thread}
use Rattle.machines.specs.declared.items.RunItem.{RunItem}
use Rattle.machines.specs.declared.items.CertificateItem.{CertificateItem}
use Rattle.agreement.specs.Convert.{comings, all_moves}
use Rattle.agreement.specs.Moments.{before, Site, site, threads_in, times, moment, First, Rising, moves, Converted, sites_from}
use Rattle.agreement.specs.Moments.{sites, sooner, insert, sorted, by_moments}
use Rattle.agreement.proofs.Dictionary.{before_not, before_trans, before_total}
use Rattle.agreement.proofs.Tallies.{one_if, one_swap}

pub here-once : (t p : ℕ) (l : List Site) → times t p (site t p ∷ l) ≡ suc (times t p l)
here-once t p l = cond-true (eqb t t && eqb p p) _ _ (and_from (eqb t t) (eqb p p) (eq-eqb t t refl) (eq-eqb p p refl))

pub not_here : (t u p q : ℕ) (l : List Site) → u ≢ t → times u p (site t q ∷ l) ≡ times u p l
not_here t u p q l n = cond-false (eqb u t && eqb p q) _ _ (and_left (eqb u t) (eqb p q) (ne_eqb u t n))

-- what the test for one site tells
same-site : (t u p q : ℕ) → (eqb t u && eqb p q) ≡ true → (t ≡ u) × (p ≡ q)
same-site t u p q e = let s = and_parts (eqb t u) (eqb p q) e in (eqb-true t u s.0, eqb-true p q s.1)

site-test : (t u p q : ℕ) → t ≡ u → p ≡ q → (eqb t u && eqb p q) ≡ true
site-test t u p q a b = and_from (eqb t u) (eqb p q) (eq-eqb t u a) (eq-eqb p q b)

site-turned : (t u p q : ℕ) → (eqb t u && eqb p q) ≡ false → (eqb u t && eqb q p) ≡ false
site-turned t u p q e =
    ⊎_elim (λ (z : (eqb u t && eqb q p) ≡ true).
    let s = same-site u t q p z in absurd (false≢true (sym e ∙ site-test t u p q (sym s.0) (sym s.1))))
    (λ z. z) (cases_Bool (eqb u t && eqb q p))

module _ (c : Case) (is : List RunItem) where
  -- ── There is one order ──
  -- what comes is behind the first
  later : (t p u q : ℕ) (l : List Site) → First c is (site t p) l → (times u q l ≡ 0 → ⊥)
      → before (moment c is t p) (moment c is u q) ≡ true
  later t p u q [] f h = absurd (h refl)
  later t p u q (site v r ∷ l) f h = go (eqb u v && eqb q r) refl (λ k. later t p u q l f.1 k)
    where
      go : (b : Bool) → (eqb u v && eqb q r) ≡ b → ((times u q l ≡ 0 → ⊥) → before (moment c is t p) (moment c is u q) ≡ true)
          → before (moment c is t p) (moment c is u q) ≡ true
      go true e rec =
          let s = same-site u v q r e in
          subst₂ (λ a b. before (moment c is t p) (moment c is a b) ≡ true) (sym s.0) (sym s.1) f.0
      go false e rec = rec (λ z. h (cond-false (eqb u v && eqb q r) _ _ e ∙ z))

  determined : (l m : List Site) → Rising c is l → Rising c is m → ((t p : ℕ) → times t p l ≡ times t p m) → l ≡ m
  determined [] [] rl rm h = refl
  determined [] (site u q ∷ m) rl rm h = let e = h u q in let k = here-once u q m in absurd (omega arith)
  determined (site t p ∷ l) [] rl rm h = let e = h t p in let k = here-once t p l in absurd (omega arith)
  determined (site t p ∷ l) (site u q ∷ m) rl rm h = go (eqb t u && eqb p q) refl (λ k. determined l m rl.1 rm.1 k)
    where
      same : (b : Bool) (x y : ℕ) → one_if b x ≡ one_if b y → x ≡ y
      same true x y e = omega arith
      same false x y e = e

      go : (b : Bool) → (eqb t u && eqb p q) ≡ b → (((v r : ℕ) → times v r l ≡ times v r m) → l ≡ m)
          → (site t p ∷ l) ≡ (site u q ∷ m)
      go true e rec =
          let s = same-site t u p q e in
          let a = s.0 in
          let b = s.1 in
          let k = rec (λ v r. same (eqb v t && eqb r p) (times v r l) (times v r m)
          (h v r ∙ ap₂ (λ x y. one_if (eqb v x && eqb r y) (times v r m)) (sym a) (sym b))) in
          cc
      go false e rec =
          let x = later t p u q l rl.0 (λ z.
          let f = h u q in
          let g = here-once u q m in
          let o = cond-false (eqb u t && eqb q p) (suc (times u q l)) (times u q l) (site-turned t u p q e) in
          omega arith) in
          let y = later u q t p m rm.0 (λ z.
          let f = h t p in
          let g = here-once t p l in
          let o = cond-false (eqb t u && eqb p q) (suc (times t p m)) (times t p m) e in
          omega arith) in
          absurd (false≢true (sym (before_not (moment c is t p) (moment c is u q) x) ∙ y))

  pub one : (js ks : List CertificateItem) → Converted c is js → Converted c is ks → js ≡ ks
  one js ks a b =
      let e = determined a.order b.order a.in_order.rising b.in_order.rising
      (λ t p. a.in_order.once t p ∙ sym (b.in_order.once t p)) in
      a.listed ∙ ap (λ l. all_moves (length c) 0 (moves c is) (comings (threads_in l))) e ∙ sym b.listed

  -- ── Sorting finds it ──
  -- two actions have two moments
  apart : (t p u q : ℕ) → moment c is t p ≡ moment c is u q → (t ≡ u) × (p ≡ q)
  apart t p u q e = ((cc), (cc))

  times-insert : (v r t p : ℕ) (l : List Site) → times v r (insert c is (site t p) l) ≡ times v r (site t p ∷ l)
  times-insert v r t p [] = refl
  times-insert v r t p (site u q ∷ l) = go (sooner c is (site t p) (site u q)) (times-insert v r t p l)
    where
      go : (b : Bool) → times v r (insert c is (site t p) l) ≡ times v r (site t p ∷ l)
          → times v r (cond b (site t p ∷ site u q ∷ l) (site u q ∷ insert c is (site t p) l)) ≡ times v r
          (site t p ∷ site u q ∷ l)
      go true e = refl
      go false e = ap (one_if (eqb v u && eqb r q)) e ∙ one_swap (eqb v u && eqb r q) (eqb v t && eqb r p) (times v r l)

  times-sorted : (v r : ℕ) (l : List Site) → times v r (sorted c is l) ≡ times v r l
  times-sorted v r [] = refl
  times-sorted v r (site t p ∷ l) = times-insert v r t p (sorted c is l) ∙ ap (one_if (eqb v t && eqb r p)) (times-sorted v r l)

  -- what is before the first is before all
  first-before : (t p u q : ℕ) (l : List Site) → before (moment c is t p) (moment c is u q) ≡ true
      → First c is (site u q) l → First c is (site t p) l
  first-before t p u q [] h f = tt
  first-before t p u q (site v r ∷ l) h f =
      (before_trans (moment c is t p) (moment c is u q) (moment c is v r) h f.0, first-before t p u q l h f.1)

  first-insert : (u q t p : ℕ) (l : List Site) → before (moment c is u q) (moment c is t p) ≡ true
      → First c is (site u q) l → First c is (site u q) (insert c is (site t p) l)
  first-insert u q t p [] h f = (h, tt)
  first-insert u q t p (site v r ∷ l) h f = go (sooner c is (site t p) (site v r)) (first-insert u q t p l h f.1)
    where
      go : (b : Bool) → First c is (site u q) (insert c is (site t p) l)
          → First c is (site u q) (cond b (site t p ∷ site v r ∷ l) (site v r ∷ insert c is (site t p) l))
      go true k = (h, f)
      go false k = (f.0, k)

  rising-insert : (t p : ℕ) (l : List Site) → times t p l ≡ 0 → Rising c is l → Rising c is (insert c is (site t p) l)
  rising-insert t p [] z r = (tt, tt)
  rising-insert t p (site u q ∷ l) z r = go (sooner c is (site t p) (site u q)) refl (λ k. rising-insert t p l k r.1)
    where
      other : (b : Bool) → one_if b (times t p l) ≡ 0 → (b ≡ false) × (times t p l ≡ 0)
      other true e = absurd (omega arith)
      other false e = (refl, e)

      go : (b : Bool) → sooner c is (site t p) (site u q) ≡ b → (times t p l ≡ 0 → Rising c is (insert c is (site t p) l))
          → Rising c is (cond b (site t p ∷ site u q ∷ l) (site u q ∷ insert c is (site t p) l))
      go true e rec = ((e, first-before t p u q l e r.0), r)
      go false e rec =
          let o = other (eqb t u && eqb p q) z in (
            first-insert u q t p l (⊎_elim (λ (k : before (moment c is u q) (moment c is t p) ≡ true). k)
                (λ (k : moment c is t p ≡ moment c is u q). let s = apart t p u q k in absurd
                (false≢true (sym o.0 ∙ site-test t u p q s.0 s.1)))
                (before_total (moment c is t p) (moment c is u q) e)) r.0,
            rec o.1,
          )

  -- no action twice
  abbrev Once : List Site → Type 0
  Once [] = Unit {0}
  Once (site t p ∷ l) = (times t p l ≡ 0) × Once l

  rising-sorted : (l : List Site) → Once l → Rising c is (sorted c is l)
  rising-sorted [] o = tt
  rising-sorted (site t p ∷ l) o = rising-insert t p (sorted c is l) (times-sorted t p l ∙ o.0) (rising-sorted l o.1)

  -- ── All actions ──
  -- those of other threads, of other places, and of one of these places
  from-off : (v r t n p : ℕ) (l : List Site) → v ≢ t → times v r (sites_from c is t n p l) ≡ times v r l
  from-off v r t zero p l h = refl
  from-off v r t (suc n) p l h = not_here t v r p (sites_from c is t n (suc p) l) h ∙ from-off v r t n (suc p) l h

  place-off : (t r p : ℕ) (l : List Site) → r ≢ p → times t r (site t p ∷ l) ≡ times t r l
  place-off t r p l n = cond-false (eqb t t && eqb r p) _ _ (and_right (eqb t t) (eqb r p) (ne_eqb r p n))

  from-miss : (r t n p : ℕ) (l : List Site) → (r < p) ⊎ (p + n ≤ r) → times t r (sites_from c is t n p l) ≡ times t r l
  from-miss r t zero p l h = refl
  from-miss r t (suc n) p l h =
      place-off t r p (sites_from c is t n (suc p) l)
      (λ e. ⊎_elim (λ (k : r < p). omega arith) (λ (k : p + suc n ≤ r). omega arith) h)
      ∙ from-miss r t n (suc p) l (⊎_elim (λ (k : r < p). inl (omega arith)) (λ (k : p + suc n ≤ r). inr (omega arith)) h)

  from-hit : (r t n p : ℕ) (l : List Site) → p ≤ r → r < p + n → times t r (sites_from c is t n p l) ≡ suc (times t r l)
  from-hit r t zero p l h k = absurd (omega arith)
  from-hit r t (suc n) p l h k =
      ⊎_elim (λ (e : r ≡ p). cond-true (eqb t t && eqb r p) _ _ (site-test t t r p refl e) ∙ ap suc
      (from-miss r t n (suc p) l (inl (omega arith))))
      (λ (e : r ≢ p). place-off t r p (sites_from c is t n (suc p) l) e ∙ from-hit r t n (suc p) l (omega arith) (omega arith))
      (cases_eq r p)

  sites-low : (d t v r : ℕ) → v < t → times v r (sites c is d t) ≡ 0
  sites-low zero t v r h = refl
  sites-low (suc d) t v r h =
      from-off v r t (length (thread c t)) 0 (sites c is d (suc t)) (λ e. omega arith) ∙ sites-low d (suc t) v r (omega arith)

  -- whether the thread has an action there
  abbrev Has : ℕ → ℕ → ℕ
  Has t r = cond (ltb r (length (thread c t))) 1 0

  sites_at : (d t r : ℕ) → times t r (sites c is (suc d) t) ≡ Has t r
  sites_at d t r =
      let n = length (thread c t) in
      let l = sites c is d (suc t) in
      let none = sites-low d (suc t) t r (omega arith) in
      ⊎_elim (λ (k : r < n). from-hit r t n 0 l (omega arith) (omega arith) ∙ ap suc none
      ∙ sym (cond-true (ltb r n) 1 0 (lt-ltb r n k)))
      (λ (k : n ≤ r). from-miss r t n 0 l (inr (omega arith)) ∙ none ∙ sym (cond-false (ltb r n) 1 0 (le-ltb r n k)))
      (cases_lt r n)

  sites-once : (d t v r : ℕ) → t ≤ v → (t + d ≤ v → thread c v ≡ []) → times v r (sites c is d t) ≡ Has v r
  sites-once zero t v r h e =
      sym (ap (λ l. cond (ltb r (length l)) 1 0) (e (omega arith)) ∙ cond-false (ltb r 0) 1 0 (le-ltb r 0 (omega arith)))
  sites-once (suc d) t v r h e =
      ⊎_elim (λ (q : v ≡ t). subst (λ u. times u r (sites c is (suc d) t) ≡ Has u r) (sym q) (sites_at d t r))
      (λ (q : v ≢ t). from-off v r t (length (thread c t)) 0 (sites c is d (suc t)) q ∙ sites-once d (suc t) v r (omega arith)
      (λ k. e (omega arith)))
      (cases_eq v t)

  once-from : (t n p : ℕ) (l : List Site) → ((r : ℕ) → times t r l ≡ 0) → Once l → Once (sites_from c is t n p l)
  once-from t zero p l h o = o
  once-from t (suc n) p l h o = (from-miss p t n (suc p) l (inl (omega arith)) ∙ h p, once-from t n (suc p) l h o)

  once-sites : (d t : ℕ) → Once (sites c is d t)
  once-sites zero t = tt
  once-sites (suc d) t =
      once-from t (length (thread c t)) 0 (sites c is d (suc t)) (λ r. sites-low d (suc t) t r (omega arith))
      (once-sites d (suc t))

  pub computed : Converted c is (by_moments c is)
  computed =
      let all = sites c is (length c) 0 in
      record {
        order = sorted c is all;
        in_order = record {
          once = λ t p. times-sorted t p all ∙ sites-once (length c) 0 t p (omega arith)
              (λ h. get_or-eq_default c [] (omega arith));
          rising = rising-sorted all (once-sites (length c) 0);
        };
        listed = refl;
      }
