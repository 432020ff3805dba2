-- How a loop keeps a table: what stands at each key, when one entry is written and when none is.
use Rattle.std.proofs.Common.{◌≡◌, ℕ, ◌+◌, ◌<◌, cond, eqb, List, length, get_or, take, set, replicate, sym, refl, ap, ◌∙◌, ⊎_elim, arith}
use Rattle.std.proofs.lemmas.List.Filters.{length-filter_more}
use Rattle.std.proofs.lemmas.List.{length-set, length-replicate, get_or-replicate, get_or-set_same, get_or-set_other}
use Rattle.std.proofs.lemmas.Bool.{cases_eq, eq-eqb, ne_eqb, cond-true, cond-false}
use Rattle.records.specs.declared.Record.{Record}
use Rattle.records.specs.Names.{blank, at, of_thread}

-- n entries, each what g says of its key
abbrev pub Table : {X : Type 0} → (ℕ → X) → X → ℕ → List X → Type 0
Table g d n ts = (length ts ≡ n) × ((x : ℕ) → x < n → get_or ts x d ≡ g x)

pub fresh : {X : Type 0} (g : ℕ → X) (d v : X) (n : ℕ) → ((x : ℕ) → v ≡ g x) → Table g d n (replicate n v)
fresh g d v n e = (length-replicate n v, λ x l. get_or-replicate n x v d l ∙ e x)

module _ {X : Type 0} (g h : ℕ → X) (d : X) (n : ℕ) (ts : List X) (t : Table g d n ts) where
  pub stays : ((x : ℕ) → h x ≡ g x) → Table h d n ts
  stays same = (t.0, λ x l. t.1 x l ∙ sym (same x))

  -- only the entry at i changes
  pub put : (i : ℕ) (v : X) → i < n → h i ≡ v → ((x : ℕ) → (x ≡ i → ⊥) → h x ≡ g x) → Table h d n (set ts i v)
  put i v l here else = (length-set ts i v ∙ t.0, at_key)
    where
      at_key : (x : ℕ) → x < n → get_or (set ts i v) x d ≡ h x
      at_key x m =
          ⊎_elim (λ e. ap (λ k. get_or (set ts i v) k d) e ∙ get_or-set_same ts i v d (omega (arith, t.0)) ∙ sym here ∙ ap h (sym e))
          (λ ne. get_or-set_other ts i x v d ne ∙ t.1 x m ∙ sym (else x ne)) (cases_eq x i)

-- ── Counts ──
-- how many of the first k records each of the eight threads has
abbrev pub Counts : List Record → ℕ → List ℕ → Type 0
Counts xs k ts = Table (λ u. length (of_thread u (take k xs))) 0 8 ts

pub counts-more : (xs : List Record) (k : ℕ) (ts : List ℕ) → k < length xs → (at xs k).thread < 8 → Counts xs k ts → Counts xs (k + 1) (set ts (at xs k).thread (get_or ts (at xs k).thread 0 + 1))
counts-more xs k ts l m t =
    put (λ u. length (of_thread u (take k xs))) (λ u. length (of_thread u (take (k + 1) xs))) 0 8 ts t (at xs k).thread _ m
    (more (at xs k).thread 1 (cond-true _ _ _ (eq-eqb (at xs k).thread _ refl)) ∙ ap (λ n. n + 1) (sym (t.1 _ m)))
    (λ u ne. let e = more u 0 (cond-false _ _ _ (ne_eqb _ u (λ e. ne (sym e)))) in omega arith)
  where
    more : (u d : ℕ) → cond (eqb (at xs k).thread u) 1 0 ≡ d → length (of_thread u (take (k + 1) xs)) ≡ length (of_thread u (take k xs)) + d
    more u d e = length-filter_more (λ r. eqb r.thread u) xs k blank l ∙ ap (λ n. length (of_thread u (take k xs)) + n) e
