-- Where the records of a case in form stand: each thread's part of the list, the action at each place, names and indices.
use Rattle.std.proofs.Common.{◌≡◌, ℕ, zero, suc, ◌+◌, ◌-◌, ◌*◌, ◌<◌, ◌≤◌, true, eqb, List, [], ◌∷◌, length, get_or, take, drop, is_some, IfSome, Some, None, Option, unwrap_or, sym, refl, ap, ◌∙◌, subst, ⊎_elim, arith}
use Rattle.std.specs.List.{slice_get}
use Rattle.std.proofs.lemmas.List.FromFn.{get_or-map-range_with_len, length-map-range_with_len}
use Rattle.std.proofs.lemmas.List.{get_or_past, nil_from_length}
use Rattle.std.proofs.lemmas.Bool.{cases_lt, cond-true, cond-false, lt-ltb, le-ltb, both_ways, false≢true, eqb-true}
use Rattle.records.specs.declared.Record.{Record}
use Rattle.records.specs.declared.action.Action.{Action}
use Rattle.records.specs.declared.action.Action.TheVariants.{Sync}
use Rattle.records.specs.declared.action.SyncOp.TheVariants.{End}
use Rattle.records.specs.Actions.{action_of, Located}
use Rattle.records.specs.Names.{blank, at, of_thread, below, named, name, record_named, actions_from, actions, thread, threads_of}
use Rattle.records.proofs.Firsts.{Found, nowhere, here, found}
use Rattle.records.proofs.Threads.{below_more, together, at_place, stands}
use Rattle.form.specs.Form.{in_form}
use Rattle.form.specs.Layouts.{starts_of, from, upto, slot_named}
use Rattle.form.proofs.Clears.{clears}
use Rattle.form.proofs.Laws.{lawful}
use Rattle.form.proofs.Fields.{located}
use Rattle.form.proofs.Layouts.{grouped, starts_at, below-within, thread_small, slot-named, at_slot}
use Rattle.case.specs.Cases.{name_at}

-- ── Lists of actions ──
nth_actions : (n p : ℕ) (rs : List Record) → p < length rs → slice_get (actions_from n rs) p ≡ Some (unwrap_or (action_of (n + p) (get_or rs p blank)) (Sync (n + p) 0 End))
nth_actions n p [] l = absurd (omega arith)
nth_actions n zero (r ∷ rs) l = let z : n ≡ n + 0 = omega arith in ap (λ m. Some (unwrap_or (action_of m r) (Sync m 0 End))) z
nth_actions n (suc p) (r ∷ rs) l =
    let z : suc n + p ≡ n + suc p = omega arith in
    nth_actions (suc n) p rs (omega arith) ∙ ap (λ m. Some (unwrap_or (action_of m (get_or rs p blank)) (Sync m 0 End))) z

nth_none : (n p : ℕ) (rs : List Record) → length rs ≤ p → slice_get (actions_from n rs) p ≡ None
nth_none n p [] l = refl
nth_none n zero (r ∷ rs) l = absurd (omega arith)
nth_none n (suc p) (r ∷ rs) l = nth_none (suc n) p rs (omega arith)

length-actions : (n : ℕ) (rs : List Record) → length (actions_from n rs) ≡ length rs
length-actions n [] = refl
length-actions n (r ∷ rs) = ap suc (length-actions (suc n) rs)

-- the thread of a case that is given by its records
pub thread_is : (xs : List Record) (t : ℕ) → t < 8 → thread (threads_of xs) t ≡ actions xs t
thread_is xs t l = get_or-map-range_with_len (actions xs) 0 8 t t [] l (omega arith)

pub thread-none : (xs : List Record) (t : ℕ) → 8 ≤ t → thread (threads_of xs) t ≡ []
thread-none xs t l = get_or_past (threads_of xs) t [] (omega (arith, length-map-range_with_len (actions xs) 0 8))

some_value : (o : Option Action) (d : Action) → is_some o ≡ true → Some (unwrap_or o d) ≡ o
some_value None d e = absurd (false≢true e)
some_value (Some a) d e = refl

-- ── A case in form ──
module _ (xs : List Record) (formed : in_form xs ≡ true) where
  start : (t : ℕ) → t < 9 → get_or (starts_of xs) t 0 ≡ below t xs
  start = starts_at xs (clears xs formed).misplaced

  -- a thread's records are the part of the list between its start and the next one
  pub thread-part : (t : ℕ) → of_thread t xs ≡ take (below (suc t) xs - below t xs) (drop (below t xs) xs)
  thread-part t =
      let m = below_more t xs in
      let n : length (of_thread t xs) ≡ below (suc t) xs - below t xs = omega arith in
      together 0 t xs (grouped xs (clears xs formed).misplaced) ∙ ap (λ k. take k (drop (below t xs) xs)) n

  -- no thread but the eight
  pub thread-over : (t : ℕ) → 8 ≤ t → [] ≡ of_thread t xs
  thread-over t h =
      ⊎_elim (λ (l : 0 < length (of_thread t xs)).
      let a = at_slot xs (clears xs formed).misplaced t 0 l in
      absurd (let m = thread_small xs (clears xs formed).misplaced _ a.within in omega (arith, a.thread)))
      (λ l. sym (nil_from_length (of_thread t xs) (omega arith))) (cases_lt 0 (length (of_thread t xs)))

  -- ── Actions ──
  pub action-none : (t p : ℕ) → length (of_thread t xs) ≤ p → slice_get (thread (threads_of xs) t) p ≡ None
  action-none t p l = ⊎_elim (λ s. ap (λ k. slice_get k p) (thread_is xs t s) ∙ nth_none (named t 0) p (of_thread t xs) l) (λ s. ap (λ k. slice_get k p) (thread-none xs t s)) (cases_lt t 8)

  -- r stands at place p of thread t
  module _ (t p : ℕ) (r : Record) (inside : p < length (of_thread t xs)) (is : r ≡ get_or (of_thread t xs) p blank) where
    abbrev k : ℕ
    k = below t xs + p

    k_small : k < length xs
    k_small = (at_slot xs (clears xs formed).misplaced t p inside).within

    r_is : r ≡ at xs k
    r_is = is ∙ at_place 0 t p xs (grouped xs (clears xs formed).misplaced) inside

    t_small : t < 8
    t_small = ⊎_elim (λ s. s) (λ s. absurd (let e = ap length (thread-over t s) in omega arith)) (cases_lt t 8)

    pub action-some : slice_get (thread (threads_of xs) t) p ≡ action_of (64 * t + p) r
    action-some =
        let z : named t 0 + p ≡ 64 * t + p = omega arith in
        ap (λ a. slice_get a p) (thread_is xs t t_small) ∙ nth_actions (named t 0) p (of_thread t xs) inside
        ∙ (λ i. Some (unwrap_or (action_of (z i) (sym is i)) (Sync (z i) 0 End)))
        ∙ some_value _ _ (ap (λ q. is_some (action_of (64 * t + p) q)) r_is ∙ (lawful xs formed).is_action k (64 * t + p) k_small)

    pub action-located : (n : ℕ) → IfSome (action_of n r) Located
    action-located n = subst (λ q. IfSome (action_of n q) Located) (sym r_is) (located (at xs k) ((clears xs formed).malformed k k_small) n)

  -- as many actions as records
  pub thread-long : (t : ℕ) → length (of_thread t xs) ≡ length (thread (threads_of xs) t)
  thread-long t =
      ⊎_elim (λ s. sym (ap length (thread_is xs t s) ∙ length-actions (named t 0) (of_thread t xs)))
      (λ s. sym (ap length (thread-over t s)) ∙ sym (ap length (thread-none xs t s))) (cases_lt t 8)

  -- ── Names ──
  pub record NameOf (k : ℕ) : Type 0 where
    pub starts : get_or (starts_of xs) (at xs k).thread 0 ≤ k
    pub small : (at xs k).thread < 8
    pub is : (at xs k).thread * 64 + (k - get_or (starts_of xs) (at xs k).thread 0) ≡ name xs k
    pub found : record_named xs (name xs k) ≡ Some k

  pub name_of : (k : ℕ) → k < length xs → NameOf k
  name_of k l =
      let m = thread_small xs (clears xs formed).misplaced k l in
      let s = start (at xs k).thread (omega arith) in
      let w = stands 0 xs k (grouped xs (clears xs formed).misplaced) l in
      let i = w.is in
      record { starts = omega arith; small = m; is = omega arith; found = again (found (λ j. eqb (name xs j) (name xs k)) (length xs)) }
    where
      again : Found (λ j. eqb (name xs j) (name xs k)) (length xs) → record_named xs (name xs k) ≡ Some k
      again (nowhere h _) = absurd (both_ways _ (h k l) (let r : eqb (name xs k) (name xs k) ≡ true = grind arith in r))
      again (here j m e _ f) = f ∙ ap (λ (n : ℕ). Some n) ((lawful xs formed).name_once j k m l (eqb-true _ _ e))

  pub found_name : (n k : ℕ) → record_named xs n ≡ Some k → name_at xs k ≡ Some n
  found_name n k e = by (found (λ j. eqb (name xs j) n) (length xs))
    where
      by : Found (λ j. eqb (name xs j) n) (length xs) → name_at xs k ≡ Some n
      by (nowhere _ f) = absurd (false≢true (ap is_some (sym f ∙ e)))
      by (here j m t _ f) =
          let q : j ≡ k = (let g : ◌≡◌ {A = Option ℕ} (Some j) (Some k) = sym f ∙ e in cc) in
          subst (λ i. name_at xs i ≡ Some n) q (cond-true _ _ _ (lt-ltb _ _ m) ∙ ap (λ (i : ℕ). Some i) (eqb-true _ _ t))

  pub found-cases : (n : ℕ) (r : Option ℕ) → r ≡ record_named xs n → IfSome r (λ k. name_at xs k ≡ Some n)
  found-cases n None e = tt
  found-cases n (Some k) e = found_name n k (sym e)

  pub found-named : (n : ℕ) → slot_named (starts_of xs) n ≡ record_named xs n
  found-named = slot-named xs (clears xs formed).misplaced

-- what lies between the starts of a thread and of the next one, in any list of where the threads start
module _ (xs : List Record) (formed : in_form xs ≡ true) (starts : List ℕ) (laid : starts ≡ starts_of xs) where
  -- the records of thread t, from a and up to b
  pub record Part (t a b : ℕ) : Type 0 where
    pub up : a ≤ b
    pub within : b ≤ length xs
    pub is : take (b - a) (drop a xs) ≡ of_thread t xs

  pub part : (t a b : ℕ) → a ≡ from starts t → b ≡ upto starts t → Part t a b
  part t a b e f = ⊎_elim one_of_eight over (cases_lt t 8)
    where
      one_of_eight : t < 8 → Part t a b
      one_of_eight s =
          let g : a ≡ below t xs = e ∙ cond-true _ _ _ (lt-ltb t 8 s) ∙ ap (λ l. get_or l t 0) laid ∙ start xs formed t (omega arith) in
          let h : b ≡ below (suc t) xs = f ∙ cond-true _ _ _ (lt-ltb t 8 s) ∙ ap (λ l. get_or l (suc t) 0) laid ∙ start xs formed (suc t) (omega arith) in
          let m = below_more t xs in
          let w = below-within t xs in
          record { up = omega arith; within = omega arith; is = (λ i. take (h i - g i) (drop (g i) xs)) ∙ sym (thread-part xs formed t) }

      over : 8 ≤ t → Part t a b
      over s =
          let g : a ≡ 0 = e ∙ cond-false _ _ _ (le-ltb t 8 s) in
          let h : b ≡ 0 = f ∙ cond-false _ _ _ (le-ltb t 8 s) in
          record { up = omega arith; within = omega arith; is = (λ i. take (h i - g i) (drop (g i) xs)) ∙ thread-over xs formed t s }

  -- the name of the record at k, of thread t, by where the thread starts
  module _ (k t a : ℕ) (inside : k < length xs) (which : t ≡ (at xs k).thread) (e : a ≡ from starts t) where
    begin_is : a ≡ get_or (starts_of xs) (at xs k).thread 0
    begin_is = e ∙ ap (from starts) which ∙ cond-true _ _ _ (lt-ltb _ 8 (name_of xs formed k inside).small) ∙ ap (λ s. get_or s (at xs k).thread 0) laid

    pub starts-before : a ≤ k
    starts-before = omega (arith, begin_is, (name_of xs formed k inside).starts)

    pub name_by_start : named t (k - a) ≡ name xs k
    name_by_start =
        let here : t * 64 + (k - a) ≡ name xs k = (λ i. which i * 64 + (k - begin_is i)) ∙ (name_of xs formed k inside).is in
        omega arith
