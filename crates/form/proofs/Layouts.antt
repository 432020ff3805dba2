-- What rule 11 gives: few records in few threads that do not fall, so that a name leads to its record by where the threads start.
use Rattle.std.proofs.Common.{◌≡◌, ℕ, suc, ◌+◌, ◌/◌, ◌%◌, ◌<◌, ◌≤◌, Bool, true, false, ◌&&◌, ◌||◌, ltb, leb, List, length, get_or, take, Some, sym, ap, ◌∙◌, subst, ⊎_elim, arith}
use Rattle.std.proofs.lemmas.List.FromFn.{get_or-map-range_with_len}
use Rattle.std.proofs.lemmas.List.Sums.{length-filter, count_by-le-length}
use Rattle.std.proofs.lemmas.Bool.{both_ways, cases_lt, cases_Bool, or_parts, and_parts, and_from, leb-false, ltb-true, ltb-false, lt-ltb, eqb-true, eq-eqb, ne_eqb, cond-true, cond-false}
use Rattle.records.specs.declared.Record.{Record}
use Rattle.records.specs.First.{Clear}
use Rattle.records.specs.Names.{at, of_thread, below, place, name, record_named}
use Rattle.records.proofs.Firsts.{first-none, first-only}
use Rattle.records.proofs.Threads.{Rising, rising, below_more, at_place, thread_at, place_at, stands}
use Rattle.form.specs.Rules.{before, stray, misplaced}
use Rattle.form.specs.Layouts.{starts_of, slot_named}

-- a thread number that is no stray
pub record Straight (k t last : ℕ) : Type 0 where
  pub early : k < 256
  pub small : t < 8
  pub up : last ≤ t

pub straight : (k t last : ℕ) → stray k t last ≡ false → Straight k t last
straight k t last h =
    let a = or_parts (leb 256 k) (ltb 7 t || ltb t last) h in
    let b = or_parts (ltb 7 t) (ltb t last) a.1 in
    record { early = leb-false 256 k a.0; small = omega (arith, ltb-false 7 t b.0); up = ltb-false t last b.1 }

-- what holds of a record that keeps the rule
module _ (xs : List Record) (k : ℕ) (h : misplaced xs k ≡ false) where
  parts : (stray k (at xs k).thread (before xs k) ≡ false) × (leb 64 (place xs k) ≡ false)
  parts = or_parts (stray k (at xs k).thread (before xs k)) (leb 64 (place xs k)) h

  pub no_stray : Straight k (at xs k).thread (before xs k)
  no_stray = straight k (at xs k).thread (before xs k) parts.0

  pub place-small : place xs k < 64
  place-small = leb-false 64 (place xs k) parts.1

-- thread t ends within the list
pub below-within : (t : ℕ) (xs : List Record) → below t xs + length (of_thread t xs) ≤ length xs
below-within t xs = omega (arith, below_more t xs, length-filter (λ r. ltb r.thread (suc t)) xs, count_by-le-length (λ r. ltb r.thread (suc t)) xs)

module _ (xs : List Record) (h : Clear (misplaced xs) (length xs)) where
  pub few-records : length xs ≤ 256
  few-records = ⊎_elim (λ l. let p = (no_stray xs 256 (h 256 l)).early in omega arith) (λ l. l) (cases_lt 256 (length xs))

  pub thread_small : (k : ℕ) → k < length xs → (at xs k).thread < 8
  thread_small k l = (no_stray xs k (h k l)).small

  pub grouped : Rising 0 xs
  grouped = rising xs 0 (λ l. omega arith) (λ k l. (no_stray xs (suc k) (h (suc k) l)).up)

  -- the record at place p of thread t
  pub record At (t p : ℕ) : Type 0 where
    pub within : below t xs + p < length xs
    pub thread : (at xs (below t xs + p)).thread ≡ t
    pub place_is : place xs (below t xs + p) ≡ p

  pub at_slot : (t p : ℕ) → p < length (of_thread t xs) → At t p
  at_slot t p l =
      let w = below-within t xs in
      let e : (at xs (below t xs + p)).thread ≡ t = ap (λ r. r.thread) (sym (at_place 0 t p xs grouped l)) ∙ thread_at t p xs l in
      record {
        within = omega arith;
        thread = e;
        place_is = ap (λ u. length (of_thread u (take (below t xs + p) xs))) e ∙ place_at 0 t p xs grouped (omega arith);
      }

  pub thread_few : (t : ℕ) → length (of_thread t xs) ≤ 64
  thread_few t = ⊎_elim (λ l. absurd (over (at_slot t 64 l))) (λ l. l) (cases_lt 64 (length (of_thread t xs)))
    where
      over : At t 64 → ⊥
      over a = let p = place-small xs (below t xs + 64) (h _ a.within) in omega (arith, a.place_is)

  -- ── Names ──
  pub starts_at : (t : ℕ) → t < 9 → get_or (starts_of xs) t 0 ≡ below t xs
  starts_at t l = get_or-map-range_with_len (λ u. below u xs) 0 9 t t 0 l (omega arith)

  -- the record at j has the name n
  record Named (n j : ℕ) : Type 0 where
    small : n / 64 < 8
    within : n % 64 < length (of_thread (n / 64) xs)
    is : j ≡ below (n / 64) xs + n % 64

  named : (n j : ℕ) → j < length xs → name xs j ≡ n → Named n j
  named n j l e =
      let s = stands 0 xs j grouped l in
      let p = place-small xs j (h j l) in
      let t : (at xs j).thread ≡ n / 64 = omega arith in
      let q : place xs j ≡ n % 64 = omega arith in
      record {
        small = subst (λ u. u < 8) t (thread_small j l);
        within = subst (λ m. m < length (of_thread (n / 64) xs)) q (subst (λ u. place xs j < length (of_thread u xs)) t s.within);
        is = s.is ∙ (λ i. below (t i) xs + q i);
      }

  -- there is such a place
  abbrev Inside : ℕ → Bool
  Inside n = ltb (n / 64) 8 && ltb (get_or (starts_of xs) (n / 64) 0 + n % 64) (get_or (starts_of xs) (suc (n / 64)) 0)

  inside : (n j : ℕ) → Named n j → Inside n ≡ true
  inside n j m =
      let a = starts_at (n / 64) (omega (arith, m.small)) in
      let b = starts_at (suc (n / 64)) (omega (arith, m.small)) in
      and_from _ _ (lt-ltb _ _ m.small) (lt-ltb _ _ (omega (arith, m.within, below_more (n / 64) xs)))

  slot-there : (n : ℕ) → Inside n ≡ true → slot_named (starts_of xs) n ≡ record_named xs n
  slot-there n e =
      let i = and_parts (ltb (n / 64) 8) _ e in
      let l = ltb-true (n / 64) 8 i.0 in
      let s = starts_at (n / 64) (omega arith) in
      let f = starts_at (suc (n / 64)) (omega arith) in
      let p : n % 64 < length (of_thread (n / 64) xs) = omega (arith, ltb-true _ _ i.1, below_more (n / 64) xs) in
      let a = at_slot (n / 64) (n % 64) p in
      cond-true _ _ _ e ∙ ap (λ (b : ℕ). Some (b + n % 64)) s
      ∙ sym (first-only _ (length xs) (below (n / 64) xs + n % 64) a.within (eq-eqb _ _ (omega (arith, a.thread, a.place_is))) (λ j m t. (named n j m (eqb-true _ _ t)).is))

  slot-missing : (n : ℕ) → Inside n ≡ false → slot_named (starts_of xs) n ≡ record_named xs n
  slot-missing n e =
      cond-false _ _ _ e
      ∙ first-none _ (length xs) (length xs) (omega arith) (λ j m. ne_eqb _ _ (λ t. both_ways (Inside n) e (inside n j (named n j m t))))

  -- where the threads start tells which record a name names
  pub slot-named : (n : ℕ) → slot_named (starts_of xs) n ≡ record_named xs n
  slot-named n = ⊎_elim (slot-there n) (slot-missing n) (cases_Bool (Inside n))
