-- Sums over threads, where one thread's summand changes.
use Rattle.std.proofs.Common.{◌≡◌, ℕ, zero, suc, ◌+◌, ◌*◌, ◌<◌, ◌≤◌, ◌≢◌, refl, ap, ap₂, ⊎_elim, arith}
use Rattle.std.proofs.lemmas.Bool.{cases_eq}
use Rattle.agreement.specs.Convert.{sum_over}

module _ (t : ℕ) (g g' : ℕ → ℕ) (same : (u : ℕ) → u ≢ t → g' u ≡ g u) where
  sum-off : (d i : ℕ) → t < i → sum_over d i g' ≡ sum_over d i g
  sum-off zero i l = refl
  sum-off (suc d) i l = ap₂ ◌+◌ (same i (omega arith)) (sum-off d (suc i) (omega arith))

  -- the sum changes by as much as the summand
  pub sum_at : (d i : ℕ) → i ≤ t → t < i + d → sum_over d i g' + g t ≡ sum_over d i g + g' t
  sum_at zero i l m = absurd (omega arith)
  sum_at (suc d) i l m = ⊎_elim here (there (λ k. sum_at d (suc i) k (omega arith))) (cases_eq i t)
    where
      here : i ≡ t → sum_over (suc d) i g' + g t ≡ sum_over (suc d) i g + g' t
      here e =
          let a = sum-off d (suc i) (omega arith) in
          let b = ap g e in
          let c = ap g' e in
          omega arith

      there : (suc i ≤ t → sum_over d (suc i) g' + g t ≡ sum_over d (suc i) g + g' t) → i ≢ t
          → sum_over (suc d) i g' + g t ≡ sum_over (suc d) i g + g' t
      there onward n =
          let a = same i n in
          let b = onward (omega arith) in
          omega arith

pub sum_le : (d i : ℕ) (g h : ℕ → ℕ) → ((u : ℕ) → g u ≤ h u) → sum_over d i g ≤ sum_over d i h
sum_le zero i g h le = omega arith
sum_le (suc d) i g h le = let a = le i in let b = sum_le d (suc i) g h le in omega arith

pub sum-times : (k d i : ℕ) (g : ℕ → ℕ) → sum_over d i (λ u. k * g u) ≡ k * sum_over d i g
sum-times k zero i g = omega arith
sum-times k (suc d) i g = let a = sum-times k d (suc i) g in omega arith

pub sum_zero : (d i : ℕ) (g : ℕ → ℕ) → ((u : ℕ) → u < i + d → g u ≡ 0) → sum_over d i g ≡ 0
sum_zero zero i g h = refl
sum_zero (suc d) i g h = let a = h i (omega arith) in let b = sum_zero d (suc i) g (λ u l. h u (omega arith)) in omega arith
