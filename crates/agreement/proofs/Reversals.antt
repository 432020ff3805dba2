-- Each move reverses one pair of a plain write and a later plain read, and a list has few such pairs.
use Rattle.std.proofs.Common.{◌≡◌, ℕ, suc, ◌+◌, ◌-◌, ◌*◌, ◌<◌, ◌≤◌, cond, ltb, List, [], ◌∷◌, length, sym, refl, ap, ◌∙◌, subst, ⊎_elim, mul-le-mul_right, arith}
use Rattle.std.proofs.lemmas.Bool.{lt-ltb, le-ltb, cases_lt, cond-true, cond-false, cond_both}
use Rattle.records.specs.declared.action.Action.{Action}
use Rattle.records.specs.declared.action.Action.TheVariants.{Read, Write, Sync}
use Rattle.records.specs.Actions.{name_of}
use Rattle.agreement.specs.Convert.{writes_below, reversed}
use Rattle.agreement.proofs.Moving.{Carry, stop, skip, OneMove, at, on}
use Rattle.agreement.proofs.ToRun.{NamedFrom}

-- ── Lists in which the reads behind each write are later than it in program order ──
-- every read of the list is later than m
abbrev Above : ℕ → List Action → Type 0
Above m [] = Unit {0}
Above m (Read n x s ∷ K) = (m < n) × Above m K
Above m (Write w y ∷ K) = Above m K
Above m (Sync n k o ∷ K) = Above m K

abbrev pub Forward : List Action → Type 0
Forward [] = Unit {0}
Forward (Read n x s ∷ K) = Forward K
Forward (Write w y ∷ K) = Above w K × Forward K
Forward (Sync n k o ∷ K) = Forward K

named-above : (m i : ℕ) (K : List Action) → m < i → NamedFrom i K → Above m K
named-above m i [] l h = tt
named-above m i (Read n x s ∷ K) l h = let e = h.0 in (omega arith, named-above m (suc i) K (omega arith) h.1)
named-above m i (Write w y ∷ K) l h = named-above m (suc i) K (omega arith) h.1
named-above m i (Sync n k o ∷ K) l h = named-above m (suc i) K (omega arith) h.1

pub named_forward : (i : ℕ) (K : List Action) → NamedFrom i K → Forward K
named_forward i [] h = tt
named_forward i (Read n x s ∷ K) h = named_forward (suc i) K h.1
named_forward i (Write w y ∷ K) h = let e = h.0 in (named-above w (suc i) K (omega arith) h.1, named_forward (suc i) K h.1)
named_forward i (Sync n k o ∷ K) h = named_forward (suc i) K h.1

-- program order has no reversed pair
named-below : (n i : ℕ) (K : List Action) → n ≤ i → NamedFrom i K → writes_below n K ≡ 0
named-below n i [] l h = refl
named-below n i (Read m x s ∷ K) l h = named-below n (suc i) K (omega arith) h.1
named-below n i (Write w y ∷ K) l h =
    let e = h.0 in
    cond-false (ltb w n) (suc (writes_below n K)) (writes_below n K) (le-ltb w n (omega arith))
    ∙ named-below n (suc i) K (omega arith) h.1
named-below n i (Sync m k o ∷ K) l h = named-below n (suc i) K (omega arith) h.1

pub named_none : (i : ℕ) (K : List Action) → NamedFrom i K → reversed K ≡ 0
named_none i [] h = refl
named_none i (Read n x s ∷ K) h =
    let e = h.0 in
    let a = named-below n (suc i) K (omega arith) h.1 in
    let b = named_none (suc i) K h.1 in
    omega arith
named_none i (Write w y ∷ K) h = named_none (suc i) K h.1
named_none i (Sync n k o ∷ K) h = named_none (suc i) K h.1

-- ── What carrying a read out of a list leaves ──
module _ {w y : ℕ} where
  -- what is taken out is a read
  carried : (P : Action → Type 0) {c : ℕ} {K : List Action} {b : Action} {K' : List Action}
      → Carry w y c K b K' → ((n z s : ℕ) → P (Read n z s)) → P b
  carried P (stop {n} {z} {s} h) p = p n z s
  carried P (skip e f d) p = carried P d p

  carry-writes : {c : ℕ} {K : List Action} {b : Action} {K' : List Action} (n : ℕ) → Carry w y c K b K'
      → writes_below n K' ≡ writes_below n K
  carry-writes n (stop h) = refl
  carry-writes n (skip e f d) = carry-writes n d

  carry-reversed : {c : ℕ} {K : List Action} {b : Action} {K' : List Action} → Carry w y c K b K'
      → reversed K ≡ writes_below (name_of b) K' + reversed K'
  carry-reversed (stop h) = refl
  carry-reversed (skip {n} e f d) = let a = carry-writes n d in let b = carry-reversed d in omega arith

  carry-above : {c : ℕ} {K : List Action} {b : Action} {K' : List Action} (m : ℕ) → Carry w y c K b K' → Above m K
      → (m < name_of b) × Above m K'
  carry-above m (stop h) a = a
  carry-above m (skip e f d) a = let g = carry-above m d a.1 in (g.0, (a.0, g.1))

  carry_forward : {c : ℕ} {K : List Action} {b : Action} {K' : List Action} → Carry w y c K b K' → Forward K → Forward K'
  carry_forward (stop h) r = r
  carry_forward (skip e f d) r = carry_forward d r

  carry-length : {c : ℕ} {K : List Action} {b : Action} {K' : List Action} → Carry w y c K b K' → length K ≡ suc (length K')
  carry-length (stop h) = refl
  carry-length (skip e f d) = ap suc (carry-length d)

-- ── One move ──
move-writes : {p c : ℕ} {K L : List Action} (n : ℕ) → OneMove p c K L → writes_below n L ≡ writes_below n K
move-writes n (at {w} {y} {K' = K'} d) =
    carried (λ b. writes_below n (b ∷ Write w y ∷ K') ≡ writes_below n (Write w y ∷ K')) d (λ m z s. refl)
    ∙ ap (λ z. cond (ltb w n) (suc z) z) (carry-writes n d)
move-writes n (on {a = Read m x s} d) = move-writes n d
move-writes n (on {a = Write w y} d) = ap (λ z. cond (ltb w n) (suc z) z) (move-writes n d)
move-writes n (on {a = Sync m k o} d) = move-writes n d

move-above : {p c : ℕ} {K L : List Action} (m : ℕ) → OneMove p c K L → Above m K → Above m L
move-above m (at {w} {y} {K' = K'} d) a =
    let g = carry-above m d a in
    carried (λ b. m < name_of b → Above m (b ∷ Write w y ∷ K')) d (λ n z s l. (l, g.1)) g.0
move-above m (on {a = Read n x s} d) a = (a.0, move-above m d a.1)
move-above m (on {a = Write w y} d) a = move-above m d a
move-above m (on {a = Sync n k o} d) a = move-above m d a

pub move_forward : {p c : ℕ} {K L : List Action} → OneMove p c K L → Forward K → Forward L
move_forward (at {w} {y} {K' = K'} d) r =
    carried (λ b. Forward (b ∷ Write w y ∷ K')) d (λ n z s. ((carry-above w d r.0).1, carry_forward d r.1))
move_forward (on {a = Read n x s} d) r = move_forward d r
move_forward (on {a = Write w y} d) r = (move-above w d r.0, move_forward d r.1)
move_forward (on {a = Sync n k o} d) r = move_forward d r

pub move-reverses : {p c : ℕ} {K L : List Action} → OneMove p c K L → Forward K → reversed L ≡ suc (reversed K)
move-reverses (at {w} {y} {b = b} {K = K} {K' = K'} d) r =
    let l = (carry-above w d r.0).0 in
    let L : List Action = Write w y ∷ K' in
    let f = carried (λ a. reversed (a ∷ L) ≡ writes_below (name_of a) L + reversed L) d (λ n z s. refl) in
    let g = cond-true (ltb w (name_of b)) (suc (writes_below (name_of b) K')) (writes_below (name_of b) K') (lt-ltb w (name_of b) l) in
    let h = carry-reversed d in
    omega arith
move-reverses (on {a = Read n x s} d) r = let a = move-writes n d in let b = move-reverses d r in omega arith
move-reverses (on {a = Write w y} d) r = move-reverses d r.1
move-reverses (on {a = Sync n k o} d) r = move-reverses d r

pub move-length : {p c : ℕ} {K L : List Action} → OneMove p c K L → length L ≡ length K
move-length (at d) = ap suc (sym (carry-length d))
move-length (on d) = ap suc (move-length d)

-- ── Few pairs ──
read_count : List Action → ℕ
read_count [] = 0
read_count (Read n x s ∷ K) = suc (read_count K)
read_count (Write w y ∷ K) = read_count K
read_count (Sync n k o ∷ K) = read_count K

write_count : List Action → ℕ
write_count [] = 0
write_count (Read n x s ∷ K) = write_count K
write_count (Write w y ∷ K) = suc (write_count K)
write_count (Sync n k o ∷ K) = write_count K

writes-few : (n : ℕ) (K : List Action) → writes_below n K ≤ write_count K
unfolding write_count
writes-few n [] = omega arith
writes-few n (Read m x s ∷ K) = writes-few n K
writes-few n (Write w y ∷ K) =
    let h = writes-few n K in
    cond_both (ltb w n) (suc (writes_below n K)) (writes_below n K) (λ z. z ≤ suc (write_count K)) (λ e. omega arith)
    (λ e. omega arith)
writes-few n (Sync m k o ∷ K) = writes-few n K

pairs-few : (K : List Action) → reversed K ≤ read_count K * write_count K
unfolding read_count write_count
pairs-few [] = omega arith
pairs-few (Read n x s ∷ K) = let a = writes-few n K in let b = pairs-few K in omega arith
pairs-few (Write w y ∷ K) = let b = pairs-few K in omega arith
pairs-few (Sync n k o ∷ K) = pairs-few K

parts : (K : List Action) → read_count K + write_count K ≤ length K
unfolding read_count write_count
parts [] = omega arith
parts (Read n x s ∷ K) = let h = parts K in omega arith
parts (Write w y ∷ K) = let h = parts K in omega arith
parts (Sync n k o ∷ K) = let h = parts K in omega arith

-- a product is at most 16 times the sum, where that is at most 64
twice : (a d : ℕ) → 4 * (a * (a + d)) ≤ (a + (a + d)) * (a + (a + d))
twice a d = omega arith

product_few : (a b : ℕ) → a + b ≤ 64 → a * b ≤ 16 * (a + b)
product_few a b h =
    ⊎_elim (λ (l : a < b). ordered a (b - a) b (omega arith) h)
    (λ (l : b ≤ a). let g = ordered b (a - b) a (omega arith) (omega arith) in omega arith) (cases_lt a b)
  where
    ordered : (u d v : ℕ) → v ≡ u + d → u + v ≤ 64 → u * v ≤ 16 * (u + v)
    ordered u d v e l =
        let q = subst (λ z. 4 * (u * z) ≤ (u + z) * (u + z)) (sym e) (twice u d) in
        let m : (u + v) * (u + v) ≤ 64 * (u + v) = mul-le-mul_right (u + v) l in
        omega arith

pub reversed-few : (K : List Action) → length K ≤ 64 → reversed K ≤ 16 * length K
reversed-few K h =
    let a = pairs-few K in
    let b = parts K in
    let c = product_few (read_count K) (write_count K) (omega arith) in
    omega arith
