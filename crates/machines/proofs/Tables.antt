-- A table as the function that it stands for: to write one entry is to change the function at one argument.
use Rattle.std.proofs.Common.{◌≡◌, ℕ, ◌<◌, List, length, get_or, set, sym, refl, ap, ◌∙◌, ⊎_elim}
use mathlib.Core.Path.{fun_ext}
use Rattle.std.proofs.lemmas.List.{get_or-set_same, get_or-set_other, get_or_default, get_or_past}
use Rattle.std.proofs.lemmas.Bool.{cases_eq, cases_lt, cond-true, cond-false, eq-eqb, ne_eqb}
use Rattle.records.specs.Names.{default}
use Rattle.machines.specs.Memory.{upd, held}

-- ── A function changed at one number ──
module _ {Y : Type 0} (f : ℕ → Y) (t : ℕ) where
  pub upd_at : (v : Y) → upd f t v t ≡ v
  upd_at v = cond-true _ _ _ (eq-eqb t t refl)

  pub upd_off : (v : Y) (u : ℕ) → (u ≡ t → ⊥) → upd f t v u ≡ f u
  upd_off v u ne = cond-false _ _ _ (ne_eqb u t ne)

  -- to what it is there: nothing changes
  pub upd_still : (v : Y) → v ≡ f t → upd f t v ≡ f
  upd_still v e = fun_ext (λ u. ⊎_elim (λ q. ap (upd f t v) q ∙ upd_at v ∙ e ∙ sym (ap f q)) (upd_off v u) (cases_eq u t))

-- ── Tables ──
-- g u makes of the entry at u what it stands for, and d u stands where the table ends
pub table-set : {X Y : Type 0} (g : ℕ → X → Y) (d : ℕ → X) (l : List X) (i : ℕ) (v : X) → i < length l
    → (λ u. g u (get_or (set l i v) u (d u))) ≡ upd (λ u. g u (get_or l u (d u))) i (g i v)
table-set {X} {Y} g d l i v h =
    let f : ℕ → Y = λ u. g u (get_or l u (d u)) in
    fun_ext (λ u.
    ⊎_elim (λ e. (λ k. g (e k) (get_or (set l i v) (e k) (d (e k)))) ∙ ap (g i) (get_or-set_same l i v (d i) h) ∙ sym (ap (upd f i (g i v)) e ∙ upd_at f i (g i v)))
    (λ ne. ap (g u) (get_or-set_other l i u v (d u) ne) ∙ sym (upd_off f i (g i v) u ne)) (cases_eq u i))

-- a table that holds the default of every location it has is fresh memory
pub memory-fresh : (table : List ℕ) → ((k : ℕ) → k < length table → get_or table k 0 ≡ default k) → held table ≡ default
memory-fresh table h =
    fun_ext (λ x. ⊎_elim (λ l. get_or_default table x (default x) 0 l ∙ h x l) (λ l. get_or_past table x (default x) l) (cases_lt x (length table)))
