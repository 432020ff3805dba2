-- The moves of a read past the waiting writes of its thread: those by moments are those by groups.
use Rattle.std.proofs.Common.{◌≡◌, ℕ, suc, ◌+◌, ◌<◌, Bool, true, false, cond, eqb, List, [], ◌∷◌, ◌++◌, length, sym, refl, ap, ◌∙◌, subst, ap₂, append_assoc, append-nil, arith, length-append}
use Rattle.std.specs.List.{AllByRecursion}
use Rattle.std.proofs.ByRecursion.{All-append}
use Rattle.std.proofs.lemmas.Bool.{false≢true, eq-eqb, ne_eqb, and_from, and_left, and_right, cond-true, cond-false}
use Rattle.records.specs.Names.{Case}
use Rattle.machines.specs.declared.items.RunItem.{RunItem}
use Rattle.agreement.specs.Convert.{Group, group, holds, Mark, mark, shifts, passing, settling}
use Rattle.agreement.specs.Moments.{count, is_read, action_at, host, moment, earlier, joined, over}
use Rattle.agreement.proofs.Dictionary.{before_self}
use Rattle.agreement.proofs.Tallies.{all-each, all_right, tally_by, tally-append, tally-all, tally-none}
use Rattle.agreement.proofs.Groups.{places, writes_in, newest_first, newest_to, all-writes, newest_in}
use Rattle.agreement.proofs.Shifts.{shifts-nil, shifts-append, shifts-more, shifts-one}
use Rattle.agreement.proofs.Waiting.{Grouped, Goes, host-write, goes_with, goes_self, with_older, with_same, not_yet, ahead}

module _ (c : Case) (js : List RunItem) (t : ℕ) where
  -- among the actions before a: the place of each group's write by moments is k and on, its count the number of its reads
  abbrev pub Marked : ℕ → ℕ → List Group → Type 0
  Marked a k [] = Unit {0}
  Marked a k (group q y ps ∷ hs) =
      (count (λ z. earlier c js t z q) a ≡ k) × (count (λ z. joined c js t q z) a ≡ length ps)
      × Marked a (k + suc (length ps)) hs

  hosts-later : (q d : ℕ) (hs : List Group) → Grouped c js t d hs → AllByRecursion (λ z. q < z) (writes_in hs)
      → AllByRecursion (λ z. q < host c js t z) (places hs)
  hosts-later q d [] gr l = tt
  hosts-later q d (group r y ps ∷ hs) gr l = (
    subst (λ z. q < z) (sym (host-write c js t gr.0)) l.0,
    All-append (λ z. q < host c js t z) ps (places hs)
        (all-each (λ p h. subst (λ z. q < z) (sym h.1) l.0) ps gr.0.readers) (hosts-later q (suc d) hs gr.2 l.1),
  )

  not_joined : (q x : ℕ) → (host c js t x ≡ q → ⊥) → joined c js t q x ≡ false
  not_joined q x h = and_right (is_read (action_at c t x)) (eqb (host c js t x) q) (ne_eqb (host c js t x) q h)

  module _ (a : ℕ) where
    -- ── Places and counts ──
    -- `pre` and the groups are the actions before a; what is in `pre` comes first and goes with none of the groups' writes
    pub marked : (pre : List ℕ) (d : ℕ) (hs : List Group) → Grouped c js t d hs
        → AllByRecursion (λ x. AllByRecursion (λ z. earlier c js t x z ≡ true) (places hs)) pre
        → AllByRecursion (λ x. AllByRecursion (λ z. host c js t x ≡ z → ⊥) (writes_in hs)) pre
        → ((f : ℕ → Bool) → count f a ≡ tally_by f (pre ++ places hs)) → Marked a (length pre) hs
    marked pre d [] gr l o e = tt
    marked pre d (group q y ps ∷ hs) gr l o e = (
      e (λ z. earlier c js t z q) ∙ tally-append (λ z. earlier c js t z q) pre (q ∷ (ps ++ places hs)) ∙ place,
      e (λ z. joined c js t q z) ∙ tally-append (λ z. joined c js t q z) pre (q ∷ (ps ++ places hs)) ∙ number,
      subst (λ k. Marked a k hs) (length-append pre (q ∷ ps))
          (marked (pre ++ (q ∷ ps)) (suc d) hs gr.2
          (All-append (λ x. AllByRecursion (λ z. earlier c js t x z ≡ true) (places hs)) pre (q ∷ ps)
          (all-each (λ x h. all_right (λ z. earlier c js t x z ≡ true) ps (places hs) h.1) pre l)
          (before-newer q (host-write c js t gr.0), all-each (λ p h. before-newer p h.1) ps gr.0.readers))
          (All-append (λ x. AllByRecursion (λ z. host c js t x ≡ z → ⊥) (writes_in hs)) pre (q ∷ ps) (all-each (λ x h. h.1) pre o)
          (others q (host-write c js t gr.0), all-each (λ p h. others p h.1) ps gr.0.readers))
          (λ f. e f ∙ ap (tally_by f) (sym (append_assoc pre (q ∷ ps) (places hs))))),
    )
      where
        before-newer : (x : ℕ) → host c js t x ≡ q → AllByRecursion (λ z. earlier c js t x z ≡ true) (places hs)
        before-newer x h = ahead c js t q x (goes_with c js t gr.0 x h) (suc d) hs gr.2 gr.1

        others : (x : ℕ) → host c js t x ≡ q → AllByRecursion (λ z. host c js t x ≡ z → ⊥) (writes_in hs)
        others x h = all-each (λ z l₁ k. omega arith) (writes_in hs) gr.1

        -- what is in `pre` comes before the write at q, nothing else does
        place : tally_by (λ z. earlier c js t z q) pre + tally_by (λ z. earlier c js t z q) (q ∷ (ps ++ places hs)) ≡ length pre
        place =
            let f : ℕ → Bool = λ z. earlier c js t z q in
            let self = goes_self c js t gr.0 in
            let a₁ = tally-all f pre (all-each (λ x h. h.0) pre l) in
            let a₂ = tally-none f (q ∷ (ps ++ places hs)) (
              before_self (moment c js t q),
              All-append (λ z. f z ≡ false) ps (places hs)
                  (all-each (λ p h. not_yet c js t q p (with_same c js t q q p self (goes_with c js t gr.0 p h.1) h.2))
                  ps gr.0.readers)
                  (all-each (λ z h. not_yet c js t q z h) (places hs) (ahead c js t q q self (suc d) hs gr.2 gr.1)),
            ) in
            omega arith

        -- its reads go with the write at q, nothing else does
        number : tally_by (λ z. joined c js t q z) pre + tally_by (λ z. joined c js t q z) (q ∷ (ps ++ places hs)) ≡ length ps
        number =
            let f : ℕ → Bool = λ z. joined c js t q z in
            let a₁ = tally-none f pre (all-each (λ x h. not_joined q x h.0) pre o) in
            let a₂ = cond-false (f q) (suc (tally_by f (ps ++ places hs))) (tally_by f (ps ++ places hs))
            (and_left (is_read (action_at c t q)) (eqb (host c js t q) q) (ap is_read gr.0.kind.1)) in
            let a₃ = tally-append f ps (places hs) in
            let a₄ = tally-all f ps
            (all-each (λ p h. and_from (is_read (action_at c t p)) (eqb (host c js t p) q) h.0 (eq-eqb (host c js t p) q h.1))
            ps gr.0.readers) in
            let a₅ = tally-none f (places hs)
            (all-each (λ z h. not_joined q z (λ k. omega arith)) (places hs) (hosts-later q (suc d) hs gr.2 gr.1)) in
            omega arith

    -- ── The moves over no write, over all writes, over those newer than the one that serves ──
    pub over_none : (qs : List ℕ) → AllByRecursion (λ q. earlier c js t a q ≡ false) qs → over c js t a qs ≡ []
    over_none [] h = refl
    over_none (q ∷ qs) h = cond-false (earlier c js t a q) _ _ h.0 ∙ over_none qs h.1

    pub over-all : (hs : List Group) (acc : List ℕ) (k : ℕ) → Marked a k hs → AllByRecursion (λ q. earlier c js t a q ≡ true) (writes_in hs)
        → over c js t a (newest_first hs acc) ≡ shifts k (passing hs) ++ over c js t a acc
    over-all [] acc k m h = ap {B = List Mark} (λ l. l ++ over c js t a acc) (sym (shifts-nil k))
    over-all (group q y ps ∷ hs) acc k m h =
        let n = length ps in
        let newer = shifts (k + suc n) (passing hs) in
        let rest = over c js t a acc in
        let moves_it : shifts k (passing (group q y ps ∷ hs)) ≡ newer ++ (mark k n ∷ []) =
        shifts-append k (shifts (suc n) (passing hs)) (mark 0 n ∷ [])
        ∙ ap₂ {C = List Mark} ◌++◌ (shifts-more k (suc n) (passing hs)) (shifts-one k n) in
        over-all hs (q ∷ acc) (k + suc n) m.2 h.1
        ∙ ap {B = List Mark} (λ l. newer ++ l)
        (cond-true (earlier c js t a q) _ _ h.0 ∙ ap₂ {C = List Mark} (λ u v. mark u v ∷ rest) m.0 m.1)
        ∙ sym (ap {B = List Mark} (λ l. l ++ rest) moves_it ∙ append_assoc newer (mark k n ∷ []) rest)

    pub over-newer : (x d : ℕ) (hs : List Group) (acc : List ℕ) (k : ℕ) → Grouped c js t d hs → AllByRecursion (λ q. q < a) (writes_in hs)
        → holds x hs ≡ true → Goes c js t (newest_to x hs) a → Marked a k hs → AllByRecursion (λ q. earlier c js t a q ≡ false) acc
        → over c js t a (newest_first hs acc) ≡ shifts k (settling x hs)
    over-newer x d [] acc k gr l h g m o = absurd (false≢true h)
    over-newer x d (group q y ps ∷ hs) acc k gr l h g m o =
        go (holds x hs) refl g (λ e g' n. over-newer x (suc d) hs (q ∷ acc) (k + suc (length ps)) gr.2 l.1 e g' m.2
        (n, o))
        ∙ sym (shifts-more k (suc (length ps)) (cond (holds x hs) (settling x hs) (passing hs)))
      where
        go : (b : Bool) → holds x hs ≡ b → Goes c js t (cond b (newest_to x hs) q) a
            → (holds x hs ≡ true → Goes c js t (newest_to x hs) a → earlier c js t a q ≡ false
            → over c js t a (newest_first hs (q ∷ acc)) ≡ shifts (k + suc (length ps)) (settling x hs))
            → over c js t a (newest_first hs (q ∷ acc)) ≡ shifts (k + suc (length ps)) (cond b (settling x hs) (passing hs))
        go true e g' rec =
            rec e g' (not_yet c js t q a
            (with_older c js t q q (newest_to x hs) a (goes_self c js t gr.0) g' (newest_in (λ z. q < z) x hs e gr.1)))
        go false e g' rec =
            let newer = shifts (k + suc (length ps)) (passing hs) in
            let late = not_yet c js t q a (with_same c js t q q a (goes_self c js t gr.0) g' l.0) in
            over-all hs (q ∷ acc) (k + suc (length ps)) m.2
            (all-writes (λ z. earlier c js t a z ≡ true) hs (ahead c js t q a g' (suc d) hs gr.2 gr.1))
            ∙ ap {B = List Mark} (λ r. newer ++ r) (over_none (q ∷ acc) (late, o)) ∙ append-nil newer
