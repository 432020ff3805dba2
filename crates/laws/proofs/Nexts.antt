-- The next element of a list, after its first n; and what holds of each element and those before it.
use Rattle.std.proofs.Common.{◌≡◌, ℕ, zero, suc, List, [], ◌∷◌, ◌++◌, take, drop, Some, ap, subst, arith}
use mathlib.Core.List.{nil≢cons}
use Rattle.std.specs.List.{slice_get}

pub record Next {A : Type 0} (n : ℕ) (l : List A) (a : A) (later : List A) : Type 0 where
  pub is : slice_get l n ≡ Some a
  pub past : drop (suc n) l ≡ later
  pub upto : take (suc n) l ≡ take n l ++ (a ∷ [])

module _ {A : Type 0} where
  pub next : (n : ℕ) (l : List A) {a : A} {later : List A} → drop n l ≡ a ∷ later → Next n l a later
  next zero [] e = absurd (nil≢cons e)
  next zero (x ∷ l) e = record { is = cc; past = cc; upto = cc }
  next (suc n) [] e = absurd (nil≢cons e)
  next (suc n) (x ∷ l) e =
      let h = next n l e in
      record { is = h.is; past = h.past; upto = ap (λ k. x ∷ k) h.upto }

  -- ── What holds of each element and those before it ──
  abbrev pub Each : (List A → A → Type 0) → List A → Type 0
  Each P l = (k : ℕ) (a : A) → slice_get l k ≡ Some a → P (take k l) a

  pub each_none : (P : List A → A → Type 0) → Each P []
  each_none P k a e = let z : ◌≡◌ {A = ℕ} 0 1 = cc in absurd (omega arith)

  pub each_more : (P : List A → A → Type 0) (l : List A) (a : A) → Each P l → P l a → Each P (l ++ (a ∷ []))
  each_more P [] a all h zero b e = subst (P []) (cc) h
  each_more P [] a all h (suc k) b e = each_none (λ m. P (a ∷ m)) k b e
  each_more P (x ∷ l) a all h zero b e = all 0 b e
  each_more P (x ∷ l) a all h (suc k) b e = each_more (λ m. P (x ∷ m)) l a (λ i. all (suc i)) h k b e
