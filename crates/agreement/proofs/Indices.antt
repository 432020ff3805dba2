-- Indices in a run: of the item with so many such items ahead of it.
use Rattle.std.proofs.Common.{◌≡◌, ℕ, zero, suc, ◌<◌, ◌≤◌, Bool, true, false, cond, List, [], ◌∷◌, length, ap, subst, ⊎_elim, arith}
use Rattle.std.proofs.lemmas.Bool.{cases_lt, cond-true, cond-false, cond_both}
use Rattle.records.specs.Names.{Case}
use Rattle.machines.specs.declared.items.RunItem.{RunItem}
use Rattle.agreement.specs.Moments.{index, drains, is_write, action_at, writes_before, drained}

module _ (f : RunItem → Bool) where
  pub index-skip : (k : ℕ) (i : RunItem) (is : List RunItem) → f i ≡ false → index f k (i ∷ is) ≡ suc (index f k is)
  index-skip zero i is e = cond-false (f i) 0 _ e
  index-skip (suc k) i is e = ap suc (cond-false (f i) (index f k is) _ e)

  pub index-first : (i : RunItem) (is : List RunItem) → f i ≡ true → index f 0 (i ∷ is) ≡ 0
  index-first i is e = cond-true (f i) 0 _ e

  pub index-next : (k : ℕ) (i : RunItem) (is : List RunItem) → f i ≡ true → index f (suc k) (i ∷ is) ≡ suc (index f k is)
  index-next k i is e = ap suc (cond-true (f i) (index f k is) _ e)

  index_up : (k : ℕ) (is : List RunItem) → index f k is ≤ index f (suc k) is
  index_up k [] = omega arith
  index_up zero (i ∷ is) = go (f i) (index_up 0 is)
    where
      go : (b : Bool) → index f 0 is ≤ index f 1 is → cond b 0 (suc (index f 0 is)) ≤ suc (cond b (index f 0 is) (index f 1 is))
      go true h = omega arith
      go false h = omega arith
  index_up (suc k) (i ∷ is) = go (f i) (index_up k is) (index_up (suc k) is)
    where
      go : (b : Bool) → index f k is ≤ index f (suc k) is → index f (suc k) is ≤ index f (suc (suc k)) is
          → suc (cond b (index f k is) (index f (suc k) is)) ≤ suc (cond b (index f (suc k) is) (index f (suc (suc k)) is))
      go true h g = omega arith
      go false h g = omega arith

-- what rises with each step rises
rises : (g : ℕ → ℕ) → ((k : ℕ) → g k ≤ g (suc k)) → (k l : ℕ) → k ≤ l → g k ≤ g l
rises g up k zero h = subst (λ z. g z ≤ g 0) (let e : 0 ≡ k = omega arith in e) (omega arith)
rises g up k (suc l) h =
    ⊎_elim (λ (e : k < suc l). let a = rises g up k l (omega arith) in let b = up l in omega arith)
    (λ (e : suc l ≤ k). subst (λ z. g z ≤ g (suc l)) (let q : suc l ≡ k = omega arith in q) (omega arith)) (cases_lt k (suc l))

writes_up : (c : Case) (t p : ℕ) → length (writes_before c t p) ≤ length (writes_before c t (suc p))
writes_up c t p =
    cond_both (is_write (action_at c t p)) (p ∷ writes_before c t p) (writes_before c t p)
    (λ l. length (writes_before c t p) ≤ length l) (λ _. omega arith) (λ _. omega arith)

-- a later write is not drained earlier
pub drained_up : (c : Case) (js : List RunItem) (t p q : ℕ) → p ≤ q → drained c js t p ≤ drained c js t q
drained_up c js t p q h =
    rises (λ k. index (drains t) k js) (λ k. index_up (drains t) k js) (length (writes_before c t p)) (length (writes_before c t q))
    (rises (λ p. length (writes_before c t p)) (writes_up c t) p q h)
