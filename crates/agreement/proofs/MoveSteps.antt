-- The move that computes, and moves as a relation.
use Rattle.std.proofs.Common.{◌≡◌, ℕ, zero, suc, ◌+◌, ◌<◌, not, eqb, ltb, List, [], ◌∷◌, length, Ok, Err, Result, refl, ap, ◌∙◌, subst, subst₂, arith}
use Rattle.std.proofs.lemmas.Bool.{eqb-true, eqb-false, eq-eqb, ne_eqb, lt-ltb, not-true, not_from_false}
use Rattle.records.specs.declared.action.Action.{Action}
use Rattle.records.specs.declared.action.Action.TheVariants.{Read, Write, Sync}
use Rattle.machines.specs.Certificate.{Taken, taken, behind, carries, passed, behind_action, move_at, move_in}
use Rattle.machines.proofs.Feeds.{ok_inj, not_ok, needed, need_met}
use Rattle.agreement.proofs.Moving.{Carry, stop, skip, OneMove, at, on}

-- ── A move that is asked for is taken ──
carry-out : {w y c : ℕ} {K : List Action} {b : Action} {K' : List Action} → Carry w y c K b K' → carries w y c K ≡ Ok (taken b K')
carry-out {w} {y} (stop {n} {z} {s} {K} h) =
    need_met (not (eqb z y)) 35 (Ok (taken (Read n z s) K)) (not_from_false (eqb z y) (ne_eqb z y h))
carry-out {w} {y} (skip {n} {z} {s} e f d) =
    need_met (eqb s w) 34 _ (eq-eqb s w e) ∙ need_met (eqb z y) 34 _ (eq-eqb z y f)
    ∙ ap (λ o. behind (Read n z s) o) (carry-out d)

move-out : {p c : ℕ} {K L : List Action} → OneMove p c K L → move_at p c K ≡ Ok L
move-out (at {w} {y} d) = ap (λ r. passed w y r) (carry-out d)
move-out (on {a} d) = ap (λ r. behind_action a r) (move-out d)

carry-fits : {w y c : ℕ} {K : List Action} {b : Action} {K' : List Action} → Carry w y c K b K' → c < length K
carry-fits (stop h) = omega arith
carry-fits (skip e f d) = let l = carry-fits d in omega arith

pub move-fits : {p c : ℕ} {K L : List Action} → OneMove p c K L → p + c + 1 < length K
move-fits (at d) = let l = carry-fits d in omega arith
move-fits (on d) = let l = move-fits d in omega arith

pub move_taken : {p c : ℕ} {K L : List Action} → OneMove p c K L → move_in p c K ≡ Ok L
move_taken {p} {c} {K} m =
    need_met (ltb (p + c + 1) (length K)) 32 (move_at p c K) (lt-ltb (p + c + 1) (length K) (move-fits m)) ∙ move-out m

-- ── What is taken is a move ──
carry_in : (w y c : ℕ) (K : List Action) {b : Action} {K' : List Action} → carries w y c K ≡ Ok (taken b K') → Carry w y c K b K'
carry_in w y c [] e = absurd (not_ok e)
carry_in w y zero (Write n x ∷ K) e = absurd (not_ok e)
carry_in w y (suc c) (Write n x ∷ K) e = absurd (not_ok e)
carry_in w y zero (Sync n k o ∷ K) e = absurd (not_ok e)
carry_in w y (suc c) (Sync n k o ∷ K) e = absurd (not_ok e)
carry_in w y zero (Read n z s ∷ K) {b} {K'} e =
    let h = needed (not (eqb z y)) 35 _ e in
    let g = ok_inj h.1 in
    let u : Read n z s ≡ b = (cc) in
    let v : K ≡ K' = (cc) in
    subst₂ (λ b K'. Carry w y zero (Read n z s ∷ K) b K') u v (stop (eqb-false z y (not-true (eqb z y) h.0)))
carry_in w y (suc c) (Read n z s ∷ K) {b} {K'} e =
    let h₁ = needed (eqb s w) 34 _ e in
    let h₂ = needed (eqb z y) 34 _ h₁.1 in
    go (λ b' J e'. carry_in w y c K e') (eqb-true s w h₁.0) (eqb-true z y h₂.0) (carries w y c K) refl h₂.1
  where
    go : ((b' : Action) (J : List Action) → carries w y c K ≡ Ok (taken b' J) → Carry w y c K b' J) → s ≡ w → z ≡ y
        → (r : Result Taken ℕ) → carries w y c K ≡ r → behind (Read n z s) r ≡ Ok (taken b K')
        → Carry w y (suc c) (Read n z s ∷ K) b K'
    go onward p q (Err r) k e' = absurd (not_ok e')
    go onward p q (Ok (taken a J)) k e' =
        let g = ok_inj e' in
        let u : a ≡ b = (cc) in
        let v : Read n z s ∷ J ≡ K' = (cc) in
        subst₂ (λ b K'. Carry w y (suc c) (Read n z s ∷ K) b K') u v (skip p q (onward a J k))

move_in_lem : (p c : ℕ) (K : List Action) {L : List Action} → move_at p c K ≡ Ok L → OneMove p c K L
move_in_lem p c [] e = absurd (not_ok e)
move_in_lem zero c (Write w y ∷ K) {L} e = go (carries w y c K) refl e
  where
    go : (r : Result Taken ℕ) → carries w y c K ≡ r → passed w y r ≡ Ok L → OneMove zero c (Write w y ∷ K) L
    go (Err r) k e' = absurd (not_ok e')
    go (Ok (taken b J)) k e' = subst (λ l. OneMove zero c (Write w y ∷ K) l) (ok_inj e') (at (carry_in w y c K k))
move_in_lem zero c (Read n x s ∷ K) e = absurd (not_ok e)
move_in_lem zero c (Sync n k o ∷ K) e = absurd (not_ok e)
move_in_lem (suc p) c (a ∷ K) {L} e = go (λ J e'. move_in_lem p c K e') (move_at p c K) refl e
  where
    go : ((J : List Action) → move_at p c K ≡ Ok J → OneMove p c K J)
        → (r : Result (List Action) ℕ) → move_at p c K ≡ r → behind_action a r ≡ Ok L → OneMove (suc p) c (a ∷ K) L
    go onward (Err r) k e' = absurd (not_ok e')
    go onward (Ok J) k e' = subst (λ l. OneMove (suc p) c (a ∷ K) l) (ok_inj e') (on (onward J k))

pub taken-move : (p c : ℕ) (K : List Action) {L : List Action} → move_in p c K ≡ Ok L → OneMove p c K L
taken-move p c K e = move_in_lem p c K (needed (ltb (p + c + 1) (length K)) 32 (move_at p c K) e).1
