-- A case in form is lawful: each law from the rule that is broken nowhere.
use Rattle.std.proofs.Common.{◌≡◌, ℕ, zero, suc, ◌<◌, ◌≤◌, Bool, true, false, cond, not, ◌&&◌, eqb, ◌⊎◌, ◌↔◌, List, length, take, sym, ap, ◌∙◌, subst, inl, inr, ⊎_elim, arith}
use Rattle.std.proofs.lemmas.List.{get_or-take, length-take-le}
use Rattle.std.proofs.lemmas.Bool.{both_ways, cond-true, cond-false, cases_eq, cases_order, not-false, and_parts, and_from, or_cases, or_parts, eqb-true, eqb-false, eq-eqb}
use Rattle.std.proofs.lemmas.Bool.Decides.{nat_tests}
use Rattle.records.specs.declared.Record.{Record}
use Rattle.records.specs.First.{some}
use Rattle.records.specs.Letters.{letter, is_plain, is_volatile, is_read}
use Rattle.records.specs.Names.{blank, at, place, below, name, default, record_named}
use Rattle.records.proofs.Firsts.{Found, nowhere, here, found, some_true, some-clear, true_some}
use Rattle.records.proofs.Threads.{stands}
use Rattle.form.specs.Form.{in_form}
use Rattle.form.specs.Rules.{accesses, writes, of_same_thread, end_of}
use Rattle.form.specs.Laws.{WriteNamed, Lawful}
use Rattle.form.proofs.Clears.{Clears, clears}
use Rattle.form.proofs.Layouts.{no_stray, place-small, few-records, thread_small, thread_few, grouped as rises}
use Rattle.form.proofs.Kept.{kept-none, kept-some}
use Rattle.form.proofs.Taken.{turn_low, turn_taken, turn_once, turn_rises}
use Rattle.form.proofs.Unbroken.{and_rest, not_so, acts}

-- ── The words of the rules, at one record ──
-- an earlier record is of the same thread
abbrev follows : List Record → ℕ → Bool
follows xs k = some (of_same_thread xs (at xs k).thread) k

-- it is B
abbrev begins : List Record → ℕ → Bool
begins xs k = eqb (at xs k).letter (letter "B")

-- it accesses as one sort a location that an earlier record accesses as the other
abbrev meets : (ℕ → Bool) → (ℕ → Bool) → List Record → ℕ → Bool
meets sort other xs k = sort (at xs k).letter && some (accesses other xs (at xs k).target) k

meet : (sort other : ℕ → Bool) (xs : List Record) (j k : ℕ) → j < k
    → sort (at xs k).letter ≡ true → other (at xs j).letter ≡ true → (at xs j).target ≡ (at xs k).target → meets sort other xs k ≡ true
meet sort other xs j k l s o e = and_from _ _ s (true_some _ k j l (and_from _ _ o (eq-eqb _ _ e)))

one-letter : (c : ℕ) → is_plain c ≡ true → is_volatile c ≡ true → ⊥
one-letter c p v = grind (arith, nat_tests)

-- ── The first record of a thread ──
abbrev same : ℕ → Record → Bool
same t r = eqb r.thread t

first-place : (xs : List Record) (k : ℕ) → k < length xs → (place xs k ≡ 0) ↔ (follows xs k ≡ false)
first-place xs k l =
    let t = (at xs k).thread in
    let long = length-take-le k xs (omega arith) in (
      λ z. not_so _ (λ f. later z (some_true (of_same_thread xs t) k f)),
      λ f. kept-none (same t) blank (take k xs)
          (λ j m. let n : j < k = omega arith in ap (same t) (get_or-take k xs j blank n) ∙ some-clear (of_same_thread xs t) k f j n),
    )
  where
    later : place xs k ≡ 0 → (j : ℕ) × (j < k) × (of_same_thread xs (at xs k).thread j ≡ true) → ⊥
    later z (j, m, e) =
        let t = (at xs k).thread in
        let long = length-take-le k xs (omega arith) in
        let h = kept-some (same t) blank (take k xs) j (omega arith) (ap (same t) (get_or-take k xs j blank m) ∙ e) in
        omega arith

module _ (xs : List Record) (clear : Clears xs) where
  grouped : (j k : ℕ) → j < k → k < length xs → (at xs j).thread ≤ (at xs k).thread
  grouped j zero l m = absurd (omega arith)
  grouped j (suc k) l m =
      let u = (no_stray xs (suc k) (clear.misplaced (suc k) m)).up in
      ⊎_elim (λ (e : j ≡ k). subst (λ i. (at xs i).thread ≤ (at xs (suc k)).thread) (sym e) u)
      (λ (n : j ≡ k → ⊥). let h = grouped j k (omega arith) (omega arith) in omega arith) (cases_eq j k)

  name_once : (j k : ℕ) → j < length xs → k < length xs → name xs j ≡ name xs k → j ≡ k
  name_once j k l m e =
      let p = place-small xs j (clear.misplaced j l) in
      let q = place-small xs k (clear.misplaced k m) in
      let t : (at xs j).thread ≡ (at xs k).thread = omega arith in
      let a = stands 0 xs j (rises xs clear.misplaced) l in
      let b = stands 0 xs k (rises xs clear.misplaced) m in
      let s = ap (λ u. below u xs) t in
      omega arith

  seen_write : (k : ℕ) → k < length xs → is_read (at xs k).letter ≡ true
      → ((at xs k).seen ≡ default (at xs k).target) ⊎ ((j : ℕ) × WriteNamed xs (at xs k).target (at xs k).seen j)
  seen_write k l r =
      let x = (at xs k).target in
      let n = (at xs k).seen in
      ⊎_elim (λ e. inl (eqb-true _ _ e)) (λ e. inr (by x n (found (λ j. eqb (name xs j) n) (length xs)) e))
      (or_cases (eqb n (default x)) (writes xs x (record_named xs n)) (not-false _ (and_rest _ _ (clear.saw_no_write k l) r)))
    where
      by : (x n : ℕ) → Found (λ j. eqb (name xs j) n) (length xs)
          → writes xs x (record_named xs n) ≡ true → (j : ℕ) × WriteNamed xs x n j
      by x n (nowhere _ f) e = absurd (both_ways _ (ap (writes xs x) f) e)
      by x n (here j m t _ f) e =
          let w = and_parts _ _ (sym (ap (writes xs x) f) ∙ e) in
          (j, (m, w.0, eqb-true _ _ w.1, eqb-true _ _ t))

  one_sort : (j k : ℕ) → j < length xs → k < length xs
      → is_plain (at xs j).letter ≡ true → is_volatile (at xs k).letter ≡ true → (at xs j).target ≡ (at xs k).target → ⊥
  one_sort j k l m p v e = by (cases_order j k)
    where
      unmixed : (i : ℕ) → i < length xs → (meets is_plain is_volatile xs i ≡ false) × (meets is_volatile is_plain xs i ≡ false)
      unmixed i n = or_parts _ _ (clear.mixed i n)

      by : (j ≡ k) ⊎ ((j < k) ⊎ (k < j)) → ⊥
      by (inl q) = one-letter (at xs k).letter (subst (λ i. is_plain (at xs i).letter ≡ true) q p) v
      by (inr (inl q)) = both_ways _ (unmixed k m).1 (meet is_volatile is_plain xs j k q v p e)
      by (inr (inr q)) = both_ways _ (unmixed j l).0 (meet is_plain is_volatile xs k j q p v (sym e))

  framed : (k : ℕ) → k < length xs
      → (cond (follows xs k) (begins xs k) (not (begins xs k)) ≡ false) × (some (end_of xs (at xs k).thread) k ≡ false)
  framed k l = or_parts _ _ (clear.misframed k l)

  begin_first : (k : ℕ) → k < length xs → (place xs k ≡ 0) ↔ ((at xs k).letter ≡ letter "B")
  begin_first k l =
      let first = first-place xs k l in
      let frame = (framed k l).0 in (
        λ z. eqb-true _ _ (not-false _ (sym (cond-false _ _ _ (first.0 z)) ∙ frame)),
        λ e. first.1 (not_so _ (λ f. eqb-false _ _ (sym (cond-true _ _ _ f) ∙ frame) e)),
      )

  end_last : (j k : ℕ) → j < k → k < length xs → (at xs j).thread ≡ (at xs k).thread → (at xs j).letter ≡ letter "E" → ⊥
  end_last j k l m t e = both_ways _ (framed k m).1 (true_some _ k j l (and_from _ _ (eq-eqb _ _ t) (eq-eqb _ _ e)))

  lawful-from : Lawful xs
  lawful-from = record {
    few = few-records xs clear.misplaced;
    is_action = λ k n l. acts n (at xs k) (not-false _ (clear.malformed k l));
    thread_small = thread_small xs clear.misplaced;
    grouped = grouped;
    thread_few = thread_few xs clear.misplaced;
    name_once = name_once;
    turn_low = turn_low xs clear.malformed clear.mistimed;
    turn_taken = turn_taken xs clear.malformed clear.mistimed;
    turn_once = turn_once xs clear.malformed clear.mistimed;
    turn_rises = turn_rises xs clear.malformed clear.mistimed;
    seen_write = seen_write;
    one_sort = one_sort;
    begin_first = begin_first;
    end_last = end_last;
  }

pub lawful : (xs : List Record) → in_form xs ≡ true → Lawful xs
lawful xs e = lawful-from xs (clears xs e)
