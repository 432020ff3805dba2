-- What is left of each thread's moved list, as the checker's table tells it, and what a move makes of it.
use Rattle.std.proofs.Common.{◌≡◌, ℕ, zero, suc, ◌+◌, ◌-◌, ◌<◌, ◌≤◌, Bool, List, [], ◌∷◌, map, length, get_or, take, drop, set, replicate, is_some, Some, Ok, Result, unwrap_or, sym, refl, ap, ◌∙◌, ⊎_elim, arith}
use mathlib.Core.Path.{fun_ext}
use Rattle.std.specs.List.{slice_get}
use Rattle.std.proofs.lemmas.List.{length-take, length-drop, length-map, nil_from_length, ext_get_or, get_or-set_same, get_or-set_other, get_or-map, get_or-take, get_or-replicate, drop_more, drop-take, drop-drop, take-take, take-map, drop-map, map-set}
use Rattle.std.proofs.lemmas.Bool.{cases_eq, cases_lt, lt-ltb, false≢true}
use Rattle.records.specs.declared.action.Action.{Action}
use Rattle.records.specs.declared.action.Action.TheVariants.{Sync}
use Rattle.records.specs.declared.action.SyncOp.TheVariants.{End}
use Rattle.records.specs.Names.{Case, thread}
use Rattle.machines.specs.declared.lists.MovedList.{MovedList}
use Rattle.machines.specs.declared.memory.Memory.{Memory}
use Rattle.machines.specs.Certificate.{move_at, move_in}
use Rattle.machines.specs.Lists.{action_at, come_of, places_of, left_of, head_of, order_state}
use Rattle.machines.specs.Machine.{answer}
use Rattle.machines.specs.Memory.{upd, held}
use Rattle.machines.specs.Moves.{shift}
use Rattle.machines.proofs.Moves.{move-part, move_ok}
use Rattle.machines.proofs.Shifts.{take-shift, drop-shift, map-shift}
use Rattle.machines.proofs.Steps.{need-holds}
use Rattle.machines.proofs.Tables.{upd_at, upd_off}

pub action-there : (l : List Action) (p : ℕ) → unwrap_or (slice_get l p) (Sync 0 0 End) ≡ action_at l p
action-there [] p = refl
action-there (a ∷ l) zero = refl
action-there (a ∷ l) (suc p) = action-there l p

-- ── One list ──
head-some : (a : Action) (rs : List Action) → Some a ≡ head_of rs → rs ≡ a ∷ drop 1 rs
head-some a [] e = absurd (false≢true (ap is_some (sym e)))
head-some a (b ∷ rs) e = let q : b ≡ a = cc in ap (λ x. x ∷ rs) q

module _ (l : List Action) (n : ℕ) (places : List ℕ) where
  length_most : length (left_of l n places) ≤ length l - n
  length_most = simp (length-drop, length-map, length-take) (omega arith)

  pub left-none : length l ≤ n → left_of l n places ≡ []
  left-none h = nil_from_length _ (omega (arith, length_most))

  -- a comes next
  pub left-next : (a : Action) → Some a ≡ head_of (left_of l n places) → left_of l n places ≡ a ∷ left_of l (n + 1) places
  left-next a e =
      let all = map (action_at l) (take (length l) places) in
      head-some a (drop n all) e ∙ ap (λ rs. a ∷ rs) (drop-drop 1 n all)

  module _ (fits : length l ≤ length places) where
    length-all : length (map (action_at l) (take (length l) places)) ≡ length l
    length-all = simp (length-map, length-take) (omega arith)

    at_place : (k : ℕ) → k < length l → get_or (map (action_at l) (take (length l) places)) k (Sync 0 0 End) ≡ action_at l (get_or places k 0)
    at_place k h = get_or-map (action_at l) (take (length l) places) k 0 (Sync 0 0 End) (simp length-take (omega arith)) ∙ ap (action_at l) (get_or-take (length l) places k 0 h)

    pub left-more : n < length l → left_of l n places ≡ action_at l (get_or places n 0) ∷ left_of l (n + 1) places
    left-more h = drop_more _ n (Sync 0 0 End) (omega (arith, length-all)) ∙ ap (λ a. a ∷ left_of l (n + 1) places) (at_place n h)

    -- in program order
    left-all : n ≡ 0 → ((k : ℕ) → k < length l → get_or places k 0 ≡ k) → left_of l n places ≡ l
    left-all z at =
        ap (λ k. drop k (map (action_at l) (take (length l) places))) z
        ∙ ext_get_or (Sync 0 0 End) _ l length-all (λ k h. let m : k < length l = omega (arith, length-all) in at_place k m ∙ ap (action_at l) (at k m))

    module _ (p c : ℕ) (h : n + p + c + 1 < length l) where
      -- the part that a move looks at
      left-part : take (suc (suc c)) (drop p (left_of l n places)) ≡ map (action_at l) (take (suc (suc c)) (drop (n + p) places))
      left-part =
          let r : n + p + (length l - (n + p)) ≡ length l = omega arith in
          ap (take (suc (suc c))) (drop-drop p n _ ∙ drop-map (action_at l) (n + p) _) ∙ take-map (action_at l) (suc (suc c)) _
          ∙ ap (λ ps. map (action_at l) (take (suc (suc c)) ps)) (ap (λ k. drop (n + p) (take k places)) (sym r) ∙ drop-take (n + p) (length l - (n + p)) places)
          ∙ ap (map (action_at l)) (take-take (suc (suc c)) (length l - (n + p)) (drop (n + p) places) (omega arith))

      left-shift : left_of l n (shift (n + p) c places) ≡ shift p c (left_of l n places)
      left-shift =
          ap (λ ps. drop n (map (action_at l) ps)) (take-shift (length l) (n + p) c places h fits) ∙ ap (drop n) (map-shift (action_at l) (n + p) c _)
          ∙ drop-shift n p c _ (omega (arith, length-all))

      left_within : move_in p c (left_of l n places) ≡ move_at p c (left_of l n places)
      left_within = need-holds _ 32 _ (lt-ltb _ _ (simp length-drop (omega (arith, length-all))))

      -- the move asks what its part asks, with the bounds of the part as a slice has them
      left-asks : answer (move_at 0 (length (take (n + p + c + 1 + 1 - (n + p)) (drop (n + p) places)) - 2) (map (action_at l) (take (n + p + c + 1 + 1 - (n + p)) (drop (n + p) places))))
          ≡ answer (move_in p c (left_of l n places))
      left-asks =
          let k : n + p + c + 1 + 1 - (n + p) ≡ suc (suc c) = omega arith in
          let m : length (take (n + p + c + 1 + 1 - (n + p)) (drop (n + p) places)) - 2 ≡ c = simp (length-take, length-drop) (omega arith) in
          (λ i. answer (move_at 0 (m i) (map (action_at l) (take (k i) (drop (n + p) places)))))
          ∙ sym (ap answer left_within ∙ move-part p c (left_of l n places) ∙ ap (λ K. answer (move_at 0 c K)) left-part)

      -- the move is a shift of the places
      left-taken : Ok tt ≡ answer (move_in p c (left_of l n places)) → move_in p c (left_of l n places) ≡ Ok (left_of l n (shift (n + p) c places))
      left-taken e = left_within ∙ move_ok p c _ (sym (e ∙ ap answer left_within)) ∙ ap (λ K. Ok K) (sym left-shift)

-- ── All lists ──
abbrev pub lefts : Case → List MovedList → ℕ → List Action
lefts c lists t = left_of (thread c t) (come_of lists t) (places_of lists t)

module _ (c : Case) (lists : List MovedList) (t : ℕ) where
  -- no such thread
  pub lefts-over : thread c t ≡ [] → lefts c lists t ≡ []
  lefts-over e = left-none (thread c t) (come_of lists t) (places_of lists t) (omega (arith, ap length e))

  pub lefts-set : (m : MovedList) → t < length lists → lefts c (set lists t m) ≡ upd (lefts c lists) t (left_of (thread c t) m.next m.places)
  lefts-set m h =
      fun_ext (λ u.
      ⊎_elim (λ e. ap (lefts c (set lists t m)) e ∙ (λ i. left_of (thread c t) (next-same i) (places_same i)) ∙ sym (ap (upd (lefts c lists) t _) e ∙ upd_at (lefts c lists) t _))
      (λ ne. (λ i. left_of (thread c u) (next-other u ne i) (places-other u ne i)) ∙ sym (upd_off (lefts c lists) t _ u ne)) (cases_eq u t))
    where
      next-same : come_of (set lists t m) t ≡ m.next
      next-same = ap (λ k. get_or k t 0) (map-set (λ l. l.next) lists t m) ∙ get_or-set_same _ t m.next 0 (simp length-map h)

      places_same : places_of (set lists t m) t ≡ m.places
      places_same = ap (λ k. get_or k t []) (map-set (λ l. l.places) lists t m) ∙ get_or-set_same _ t m.places [] (simp length-map h)

      next-other : (u : ℕ) → (u ≡ t → ⊥) → come_of (set lists t m) u ≡ come_of lists u
      next-other u ne = ap (λ k. get_or k u 0) (map-set (λ l. l.next) lists t m) ∙ get_or-set_other _ t u m.next 0 ne

      places-other : (u : ℕ) → (u ≡ t → ⊥) → places_of (set lists t m) u ≡ places_of lists u
      places-other u ne = ap (λ k. get_or k u []) (map-set (λ l. l.places) lists t m) ∙ get_or-set_other _ t u m.places [] ne

-- by the entry of one thread, read at a default d of the caller's own
module _ (c : Case) (lists : List MovedList) (t : ℕ) (d : MovedList) (in' : t < length lists) where
  pub lefts_at : lefts c lists t ≡ left_of (thread c t) (get_or lists t d).next (get_or lists t d).places
  lefts_at i = left_of (thread c t) (get_or-map (λ l. l.next) lists t d 0 in' i) (get_or-map (λ l. l.places) lists t d [] in' i)

  -- all have come
  pub lefts-none : length (thread c t) ≤ (get_or lists t d).next → lefts c lists t ≡ []
  lefts-none h = lefts_at ∙ left-none (thread c t) (get_or lists t d).next (get_or lists t d).places h

  module _ (few : length (thread c t) ≤ 64) where
    fits : length (thread c t) ≤ length (get_or lists t d).places
    fits = omega (arith, (get_or lists t d).full)

    -- the next one
    pub lefts-more : (get_or lists t d).next < length (thread c t)
        → lefts c lists t ≡ action_at (thread c t) (get_or (get_or lists t d).places (get_or lists t d).next 0) ∷ left_of (thread c t) ((get_or lists t d).next + 1) (get_or lists t d).places
    lefts-more h = lefts_at ∙ left-more (thread c t) (get_or lists t d).next (get_or lists t d).places fits h

    module _ (p k : ℕ) (h : (get_or lists t d).next + p + k + 1 < length (thread c t)) where
      pub move_asks : (r : Result (Unit {0}) ℕ)
          → r ≡ answer (move_at 0 (length (take ((get_or lists t d).next + p + k + 1 + 1 - ((get_or lists t d).next + p)) (drop ((get_or lists t d).next + p) (get_or lists t d).places)) - 2)
          (map (action_at (thread c t)) (take ((get_or lists t d).next + p + k + 1 + 1 - ((get_or lists t d).next + p)) (drop ((get_or lists t d).next + p) (get_or lists t d).places))))
          → r ≡ answer (move_in p k (lefts c lists t))
      move_asks r e = e ∙ left-asks (thread c t) (get_or lists t d).next (get_or lists t d).places fits p k h ∙ sym (ap (λ K. answer (move_in p k K)) lefts_at)

      pub move_taken : Ok tt ≡ answer (move_in p k (lefts c lists t))
          → move_in p k (lefts c lists t) ≡ Ok (left_of (thread c t) (get_or lists t d).next (shift ((get_or lists t d).next + p) k (get_or lists t d).places))
      move_taken e =
          ap (move_in p k) lefts_at ∙ left-taken (thread c t) (get_or lists t d).next (get_or lists t d).places fits p k h (e ∙ ap (λ K. answer (move_in p k K)) lefts_at)

-- the state after a change of thread t's list
module _ (c : Case) (lists : List MovedList) (t : ℕ) (h : t < length lists) where
  pub relisted : (list : MovedList) (n : ℕ) (places : List ℕ) → list.next ≡ n → list.places ≡ places → (by : Memory) (memory : ℕ → ℕ) (k : ℕ) → held by.writes ≡ memory → by.turns ≡ k
      → (begun b : Bool) → begun ≡ b → order_state c (record { lists = set lists t list; memory = by; begun = begun })
      ≡ record { begun = b; left = upd (lefts c lists) t (left_of (thread c t) n places); memory = memory; turns = k }
  relisted list n places e f by memory k g q begun b r =
      let left = lefts-set c lists t list h ∙ (λ i. upd (lefts c lists) t (left_of (thread c t) (e i) (f i))) in
      (λ i. record { begun = r i; left = left i; memory = g i; turns = q i })

-- one list for all threads, in program order
pub lefts-fresh : (c : Case) (m : MovedList) → m.next ≡ 0 → ((k : ℕ) → k < 64 → get_or m.places k 0 ≡ k) → ((t : ℕ) → length (thread c t) ≤ 64) → ((t : ℕ) → 8 ≤ t → thread c t ≡ [])
    → lefts c (replicate 8 m) ≡ thread c
lefts-fresh c m z at few none =
    fun_ext (λ t.
    ⊎_elim (λ (l : t < 8).
    lefts_at c (replicate 8 m) t m l ∙ ap (λ x. left_of (thread c t) x.next x.places) (get_or-replicate 8 t m m l)
    ∙ left-all (thread c t) m.next m.places (omega (arith, m.full, few t)) z (λ k h. at k (omega (arith, few t))))
    (λ l. lefts-over c (replicate 8 m) t (none t l) ∙ sym (none t l)) (cases_lt t 8))
