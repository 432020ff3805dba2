-- Functions that are changed at one number: what holds at every number before the change and after it.
use Rattle.std.proofs.Common.{◌≡◌, ℕ, ◌<◌, ◌≤◌, Bool, true, false, cond, eqb, ◌≢◌, List, [], ◌∷◌, sym, refl, ◌∙◌, subst, ⊎_elim, arith}
use mathlib.Core.Path.{fun_ext}
use Rattle.std.proofs.lemmas.Bool.{eq-eqb, ne_eqb, cases_lt, cases_eq}
use Rattle.machines.specs.Memory.{upd}
use Rattle.machines.proofs.Tables.{upd_off}

module _ {A : Type 0} (f : ℕ → A) (t : ℕ) where
  pub upd_upd : (a b : A) → upd (upd f t a) t b ≡ upd f t b
  upd_upd a b = fun_ext (λ u. go u (eqb u t))
    where
      go : (u : ℕ) (k : Bool) → cond k b (cond k a (f u)) ≡ cond k b (f u)
      go u true = refl
      go u false = refl

-- ── At t and elsewhere: R u k speaks of the number u, and k tells whether u is t ──
module _ (t : ℕ) (R : ℕ → Bool → Type 0) where
  everywhere : R t true → ((u : ℕ) → u ≢ t → R u false) → (u : ℕ) → R u (eqb u t)
  everywhere here off u =
      ⊎_elim (λ (e : u ≡ t). subst (R u) (sym (eq-eqb u t e)) (subst (λ v. R v true) (sym e) here))
      (λ (n : u ≢ t). subst (R u) (sym (ne_eqb u t n)) (off u n)) (cases_eq u t)

  at_it : ((u : ℕ) → R u (eqb u t)) → R t true
  at_it all = subst (R t) (eq-eqb t t refl) (all t)

  elsewhere : ((u : ℕ) → R u (eqb u t)) → (u : ℕ) → u ≢ t → R u false
  elsewhere all u n = subst (R u) (ne_eqb u t n) (all u)

-- ── Forward: one to four functions are changed at t ──
module _ (t : ℕ) where
  pub on₁ : {A : Type 0} (Q : ℕ → A → Type 0) (f : ℕ → A) {a : A}
      → ((u : ℕ) → u ≢ t → Q u (f u)) → Q t a → (u : ℕ) → Q u (upd f t a u)
  on₁ Q f {a} off here = everywhere t (λ u k. Q u (cond k a (f u))) here off

  pub on₂ : {A B : Type 0} (Q : ℕ → A → B → Type 0) (f : ℕ → A) (g : ℕ → B) {a : A} {b : B}
      → ((u : ℕ) → u ≢ t → Q u (f u) (g u)) → Q t a b → (u : ℕ) → Q u (upd f t a u) (upd g t b u)
  on₂ Q f g {a} {b} off here = everywhere t (λ u k. Q u (cond k a (f u)) (cond k b (g u))) here off

  pub on₃ : {A B C : Type 0} (Q : ℕ → A → B → C → Type 0) (f : ℕ → A) (g : ℕ → B) (h : ℕ → C) {a : A} {b : B} {c : C}
      → ((u : ℕ) → u ≢ t → Q u (f u) (g u) (h u)) → Q t a b c → (u : ℕ) → Q u (upd f t a u) (upd g t b u) (upd h t c u)
  on₃ Q f g h {a} {b} {c} off here = everywhere t (λ u k. Q u (cond k a (f u)) (cond k b (g u)) (cond k c (h u))) here off

  pub on₄ : {A B C D : Type 0} (Q : ℕ → A → B → C → D → Type 0) (f : ℕ → A) (g : ℕ → B) (h : ℕ → C)
      (i : ℕ → D) {a : A} {b : B} {c : C} {d : D}
      → ((u : ℕ) → u ≢ t → Q u (f u) (g u) (h u) (i u)) → Q t a b c d
      → (u : ℕ) → Q u (upd f t a u) (upd g t b u) (upd h t c u) (upd i t d u)
  on₄ Q f g h i {a} {b} {c} {d} off here =
      everywhere t (λ u k. Q u (cond k a (f u)) (cond k b (g u)) (cond k c (h u)) (cond k d (i u))) here off

-- ── Back: what holds after a change at t, from what holds before it, where other functions are changed instead ──
-- `back₂₁` undoes the change of two functions and changes one other.
module _ (t : ℕ) where
  pub back₁₀ : {A : Type 0} (Q : ℕ → A → Type 0) (f : ℕ → A) {a : A}
      → ((u : ℕ) → Q u (upd f t a u)) → (Q t a → Q t (f t)) → (u : ℕ) → Q u (f u)
  back₁₀ Q f {a} all step =
      let R : ℕ → Bool → Type 0 = λ u k. Q u (cond k a (f u)) in
      everywhere t (λ u k. Q u (f u)) (step (at_it t R all)) (elsewhere t R all)

  pub back₂₀ : {A B : Type 0} (Q : ℕ → A → B → Type 0) (f : ℕ → A) (g : ℕ → B) {a : A} {b : B}
      → ((u : ℕ) → Q u (upd f t a u) (upd g t b u)) → (Q t a b → Q t (f t) (g t)) → (u : ℕ) → Q u (f u) (g u)
  back₂₀ Q f g {a} {b} all step =
      let R : ℕ → Bool → Type 0 = λ u k. Q u (cond k a (f u)) (cond k b (g u)) in
      everywhere t (λ u k. Q u (f u) (g u)) (step (at_it t R all)) (elsewhere t R all)

  pub back₁₁ : {A B : Type 0} (Q : ℕ → A → B → Type 0) (f : ℕ → A) (h : ℕ → B) {a : A} {b : B}
      → ((u : ℕ) → Q u (upd f t a u) (h u)) → (Q t a (h t) → Q t (f t) b) → (u : ℕ) → Q u (f u) (upd h t b u)
  back₁₁ Q f h {a} {b} all step =
      let R : ℕ → Bool → Type 0 = λ u k. Q u (cond k a (f u)) (h u) in
      everywhere t (λ u k. Q u (f u) (cond k b (h u))) (step (at_it t R all)) (elsewhere t R all)

  pub back₁₂ : {A B C : Type 0} (Q : ℕ → A → B → C → Type 0) (f : ℕ → A) (h : ℕ → B) (i : ℕ → C) {a : A} {b : B} {c : C}
      → ((u : ℕ) → Q u (upd f t a u) (h u) (i u)) → (Q t a (h t) (i t) → Q t (f t) b c)
      → (u : ℕ) → Q u (f u) (upd h t b u) (upd i t c u)
  back₁₂ Q f h i {a} {b} {c} all step =
      let R : ℕ → Bool → Type 0 = λ u k. Q u (cond k a (f u)) (h u) (i u) in
      everywhere t (λ u k. Q u (f u) (cond k b (h u)) (cond k c (i u))) (step (at_it t R all)) (elsewhere t R all)

  pub back₂₁ : {A B C : Type 0} (Q : ℕ → A → B → C → Type 0) (f : ℕ → A) (g : ℕ → B) (h : ℕ → C) {a : A} {b : B} {c : C}
      → ((u : ℕ) → Q u (upd f t a u) (upd g t b u) (h u)) → (Q t a b (h t) → Q t (f t) (g t) c)
      → (u : ℕ) → Q u (f u) (g u) (upd h t c u)
  back₂₁ Q f g h {a} {b} {c} all step =
      let R : ℕ → Bool → Type 0 = λ u k. Q u (cond k a (f u)) (cond k b (g u)) (h u) in
      everywhere t (λ u k. Q u (f u) (g u) (cond k c (h u))) (step (at_it t R all)) (elsewhere t R all)

  pub back₂₂ : {A B C D : Type 0} (Q : ℕ → A → B → C → D → Type 0) (f : ℕ → A) (g : ℕ → B) (h : ℕ → C) (i : ℕ → D)
      {a : A} {b : B} {c : C} {d : D}
      → ((u : ℕ) → Q u (upd f t a u) (upd g t b u) (h u) (i u)) → (Q t a b (h t) (i t) → Q t (f t) (g t) c d)
      → (u : ℕ) → Q u (f u) (g u) (upd h t c u) (upd i t d u)
  back₂₂ Q f g h i {a} {b} {c} {d} all step =
      let R : ℕ → Bool → Type 0 = λ u k. Q u (cond k a (f u)) (cond k b (g u)) (h u) (i u) in
      everywhere t (λ u k. Q u (f u) (g u) (cond k c (h u)) (cond k d (i u))) (step (at_it t R all)) (elsewhere t R all)

-- ── Lists that are empty from n on ──
abbrev pub From {ℓ} : {A : Type ℓ} → ℕ → (ℕ → List A) → Type ℓ
From n f = (u : ℕ) → n ≤ u → f u ≡ []

pub cons≢nil : {A : Type 0} (a : A) (l : List A) → (a ∷ l) ≢ []
cons≢nil a l e = let z : ◌≡◌ {A = ℕ} 0 1 = cc in omega arith

module _ {A : Type 0} (n : ℕ) (f : ℕ → List A) (t : ℕ) where
  pub below : {a : A} {l : List A} → From n f → f t ≡ a ∷ l → t < n
  below {a} {l} all e =
      ⊎_elim (λ (h : t < n). h) (λ (k : n ≤ t). absurd (cons≢nil a l (sym e ∙ all t k))) (cases_lt t n)

  pub from_upd : (l : List A) → From n f → t < n → From n (upd f t l)
  from_upd l all h u k = upd_off f t l u (omega arith) ∙ all u k
