-- A move that the certificate takes is one of the subject's moves, and moves go on behind moves.
use Rattle.std.proofs.Common.{◌≡◌, ℕ, zero, suc, ◌+◌, not, eqb, ltb, List, [], ◌∷◌, ◌++◌, length, Ok, Err, Result, refl, subst, subst₂}
use Rattle.std.proofs.lemmas.Bool.{eqb-true, eqb-false, not-true}
use Rattle.records.specs.declared.action.Action.{Action}
use Rattle.records.specs.declared.action.Action.TheVariants.{Read, Write, Sync}
use Rattle.machines.specs.declared.items.CertificateItem.{CertificateItem}
use Rattle.machines.specs.Certificate.{Taken, taken, behind, carries, passed, behind_action, move_at, move_in}
use Rattle.laws.specs.Orders.{Carried, Passes, Moved, passing, Reordered, still, moves, elsewhere, ordered}
use Rattle.machines.proofs.Feeds.{ok_inj, not_ok, needed}

-- the carried reads, and the read behind them that is taken out
data Carrying (w y : ℕ) : ℕ → List Action → Action → List Action → Type 0 where
  carrying : (carried : List Action) (r : Action) (back : List Action) → Carried w y carried → Passes y r
      → Carrying w y (length carried) (carried ++ (r ∷ back)) r (carried ++ back)

one_more : {w y c n x s : ℕ} {K L : List Action} {r : Action} → x ≡ y → s ≡ w → Carrying w y c K r L
    → Carrying w y (suc c) (Read n x s ∷ K) r (Read n x s ∷ L)
one_more {n = n} {x} {s} e f (carrying carried r back h g) = carrying (Read n x s ∷ carried) r back (e, f, h) g

carries_in : (w y c : ℕ) (K : List Action) {r : Action} {L : List Action} → carries w y c K ≡ Ok (taken r L) → Carrying w y c K r L
carries_in w y c [] e = absurd (not_ok e)
carries_in w y zero (Write n x ∷ K) e = absurd (not_ok e)
carries_in w y (suc c) (Write n x ∷ K) e = absurd (not_ok e)
carries_in w y zero (Sync n k o ∷ K) e = absurd (not_ok e)
carries_in w y (suc c) (Sync n k o ∷ K) e = absurd (not_ok e)
carries_in w y zero (Read n x s ∷ K) {r} {L} e =
    let h = needed (not (eqb x y)) 35 _ e in
    let same = h.1 in
    subst₂ (Carrying w y 0 (Read n x s ∷ K)) (cc) (cc)
    (carrying [] (Read n x s) K tt (eqb-false x y (not-true (eqb x y) h.0)))
carries_in w y (suc c) (Read n x s ∷ K) {r} {L} e =
    let g = needed (eqb s w) 34 _ e in
    let h = needed (eqb x y) 34 _ g.1 in
    by (λ a M. carries_in w y c K) (eqb-true x y h.0) (eqb-true s w g.0) (carries w y c K) refl h.1
  where
    by : ((a : Action) (M : List Action) → carries w y c K ≡ Ok (taken a M) → Carrying w y c K a M) → x ≡ y → s ≡ w
        → (o : Result Taken ℕ) → carries w y c K ≡ o → behind (Read n x s) o ≡ Ok (taken r L)
        → Carrying w y (suc c) (Read n x s ∷ K) r L
    by rec f g (Err m) q d = absurd (not_ok d)
    by rec f g (Ok (taken a M)) q d = subst₂ (Carrying w y (suc c) (Read n x s ∷ K)) (cc) (cc) (one_more f g (rec a M q))

first-move : {w y c : ℕ} {K L : List Action} {r : Action} → Carrying w y c K r L → Moved 0 c (Write w y ∷ K) (r ∷ Write w y ∷ L)
first-move {w} {y} (carrying carried r back h g) = passing [] w y carried r back h g

behind-move : {p c : ℕ} {K L : List Action} (a : Action) → Moved p c K L → Moved (suc p) c (a ∷ K) (a ∷ L)
behind-move a (passing front w y carried r back h g) = passing (a ∷ front) w y carried r back h g

move_at_lem : (p c : ℕ) (K : List Action) {L : List Action} → move_at p c K ≡ Ok L → Moved p c K L
move_at_lem p c [] e = absurd (not_ok e)
move_at_lem zero c (Write w y ∷ K) {L} e = by (carries w y c K) refl e
  where
    by : (o : Result Taken ℕ) → carries w y c K ≡ o → passed w y o ≡ Ok L → Moved 0 c (Write w y ∷ K) L
    by (Err m) q d = absurd (not_ok d)
    by (Ok (taken r M)) q d = subst (Moved 0 c (Write w y ∷ K)) (ok_inj d) (first-move (carries_in w y c K q))
move_at_lem zero c (Read n x s ∷ K) e = absurd (not_ok e)
move_at_lem zero c (Sync n k o ∷ K) e = absurd (not_ok e)
move_at_lem (suc p) c (a ∷ K) {L} e = by (λ M. move_at_lem p c K) (move_at p c K) refl e
  where
    by : ((M : List Action) → move_at p c K ≡ Ok M → Moved p c K M)
        → (o : Result (List Action) ℕ) → move_at p c K ≡ o → behind_action a o ≡ Ok L → Moved (suc p) c (a ∷ K) L
    by rec (Err m) q d = absurd (not_ok d)
    by rec (Ok M) q d = subst (Moved (suc p) c (a ∷ K)) (ok_inj d) (behind-move a (rec M q))

pub move_in_lem : (p c : ℕ) (K : List Action) {L : List Action} → move_in p c K ≡ Ok L → Moved p c K L
move_in_lem p c K e = move_at_lem p c K (needed (ltb (p + c + 1) (length K)) 32 (move_at p c K) e).1

-- ── One after the other ──
pub reorders : {t : ℕ} {is js : List CertificateItem} {K L M : List Action}
    → Reordered t is K L → Reordered t js L M → Reordered t (is ++ js) K M
reorders still k = k
reorders (moves m h) k = moves m (reorders h k)
reorders (elsewhere ne h) k = elsewhere ne (reorders h k)
reorders (ordered h) k = ordered (reorders h k)
