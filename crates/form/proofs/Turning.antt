-- The table of turns, and a walk along it: the record of the turn that comes, and what the walk answers of it.
use Rattle.std.proofs.Common.{◌≡◌, ℕ, suc, ◌+◌, ◌<◌, ◌≤◌, Bool, true, false, cond, List, length, get_or, set, take, Some, None, sym, refl, ap, ◌∙◌, subst, ⊎_elim, arith}
use Rattle.std.proofs.lemmas.Bool.{cases_eq, and_from, eq-eqb, both_ways}
use Rattle.std.proofs.lemmas.List.{length-set, get_or-set_same, get_or-set_other, get_or-take, length-take}
use Rattle.records.specs.declared.Record.{Record}
use Rattle.records.specs.First.{Clear}
use Rattle.records.specs.Letters.{is_capital}
use Rattle.records.specs.Names.{at}
use Rattle.records.proofs.Firsts.{first-none, first_some, first-only}
use Rattle.form.specs.Form.{along_turns}
use Rattle.form.specs.Rules.{malformed, capitals, mistimed}
use Rattle.form.specs.Turns.{has_turn, place_of, record_at, turn, placed}
use Rattle.form.specs.Laws.{Takes}
use Rattle.form.proofs.Found as found
use Rattle.form.proofs.Taken.{takes, turn_once, turn_taken}

-- ── The table ──
-- who takes each turn, as far as the first k records tell
abbrev pub Takers : List Record → ℕ → List ℕ → Type 0
Takers xs k ts = (length ts ≡ 256) × ((n j : ℕ) → j < k → Takes xs (suc n) j → get_or ts n 0 ≡ j)

module _ (xs : List Record) (k : ℕ) (ts : List ℕ) (t : Takers xs k ts) where
  pub takers-pass : is_capital (at xs k).letter ≡ false → Takers xs (k + 1) ts
  takers-pass e = (t.0, λ n j l a. ⊎_elim (λ q. absurd (both_ways true (sym a.1 ∙ ap (λ i. is_capital (at xs i).letter) q ∙ e) refl)) (λ ne. t.1 n j (omega arith) a) (cases_eq j k))

  pub takers_more : Clear (malformed xs) (length xs) → Clear (mistimed xs) (length xs) → (n : ℕ) → n < 256 → Takes xs (suc n) k → Takers xs (k + 1) (set ts n k)
  takers_more formed timed n l a = (length-set ts n k ∙ t.0, at_turn)
    where
      at_turn : (m j : ℕ) → j < k + 1 → Takes xs (suc m) j → get_or (set ts n k) m 0 ≡ j
      at_turn m j b c =
          ⊎_elim (λ (e : m ≡ n).
          ap (λ i. get_or (set ts n k) i 0) e ∙ get_or-set_same ts n k 0 (omega (arith, t.0))
          ∙ turn_once xs formed timed (suc n) k j a (subst (λ i. Takes xs (suc i) j) e c))
          (λ (ne : m ≡ n → ⊥).
          let other : j ≡ k → ⊥ = λ q. let s : suc m ≡ suc n = sym c.2 ∙ ap (λ i. (at xs i).turn) q ∙ a.2 in ne (omega arith) in
          get_or-set_other ts n m k 0 ne ∙ t.1 m j (omega arith) c) (cases_eq m n)

-- each turn up to the number of capitals is taken by the record that the whole table names
pub all_taken : (xs : List Record) (k : ℕ) (ts : List ℕ) → Takers xs k ts → length xs ≤ k → Clear (malformed xs) (length xs) → Clear (mistimed xs) (length xs)
    → (n : ℕ) → n < capitals xs → place_of xs n ≡ Some (get_or ts n 0)
all_taken xs k ts t le formed timed n l =
    let a = turn_taken xs formed timed (suc n) (omega arith) (omega arith) in
    let h : has_turn xs (suc n) a.0 ≡ true = and_from _ _ a.1.1 (eq-eqb _ _ a.1.2) in
    first-only (has_turn xs (suc n)) (length xs) a.0 a.1.0 h (λ j m g. turn_once xs formed timed (suc n) j a.0 (takes xs formed timed (suc n) j m g) a.1)
    ∙ ap (λ (i : ℕ). Some i) (sym (t.1 n a.0 (omega arith) a.1))

-- ── The turn that comes ──
pub record Comes (xs : List Record) (n k : ℕ) : Type 0 where
  pub is_place : place_of xs n ≡ Some k
  pub is_turn : turn xs n ≡ at xs k
  pub within : k < length xs

pub comes : (xs : List Record) (ts : List ℕ) (count n k : ℕ) → ((m : ℕ) → m < count → place_of xs m ≡ Some (get_or ts m 0)) → n < length (take count ts) → k ≡ get_or (take count ts) n 0 → Comes xs n k
comes xs ts count n k h l e =
    let m : n < count = omega (arith, length-take count ts) in
    let p : place_of xs n ≡ Some k = h n m ∙ ap (λ (i : ℕ). Some i) (sym (e ∙ get_or-take count ts n 0 m)) in
    record { is_place = p; is_turn = ap (record_at xs) p; within = found.within (has_turn xs (suc n)) (length xs) k p }

-- ── What the loop answers ──
module _ (rule : List Record → ℕ → Bool) (xs : List Record) (n all : ℕ) (is : all ≡ capitals xs) (h : Clear (rule xs) n) where
  pub stops : (k : ℕ) → Comes xs n k → n < all → true ≡ rule xs n → Some k ≡ along_turns rule xs
  stops k c l t = sym c.is_place ∙ ap (placed xs) (first_some (rule xs) (capitals xs) n (omega arith) t h)

  pub goes_through : all ≤ n → None ≡ along_turns rule xs
  goes_through l = ap (placed xs) (first-none (rule xs) (capitals xs) n (omega arith) h)

-- ── An answer that is there only if a test is true ──
pub asked : {X : Type 0} (b : Bool) (x y : X) → Some y ≡ cond b (Some x) None → (b ≡ true) × (y ≡ x)
asked true x y e = (refl, cc)
asked false x y e = absurd (let z : ◌≡◌ {A = ℕ} 0 1 = cc in omega arith)

pub not_asked : {X : Type 0} (b : Bool) (x : X) → None ≡ cond b (Some x) None → b ≡ false
not_asked true x e = absurd (let z : ◌≡◌ {A = ℕ} 0 1 = cc in omega arith)
not_asked false x e = refl
