-- A move of the certificate: what it asks of the part of the list that it looks at, and what it makes of the list.
use Rattle.std.proofs.Common.{◌≡◌, ℕ, zero, suc, ◌+◌, ◌-◌, ◌<◌, ◌≤◌, Bool, true, false, eqb, List, [], ◌∷◌, ◌++◌, map, length, get_or, take, drop, IfOk, Ok, Err, Result, sym, refl, ap, ◌∙◌, subst, arith}
use Rattle.std.proofs.lemmas.List.{length-take, length-drop, get_or-take, get_or-drop, drop_more}
use Rattle.records.specs.declared.action.Action.{Action}
use Rattle.records.specs.declared.action.Action.TheVariants.{Read, Write, Sync}
use Rattle.machines.specs.Certificate.{Taken, taken, behind, carries, passed, behind_action, move_at}
use Rattle.machines.specs.Machine.{need, answer}
use Rattle.machines.specs.Moves.{saw, reads_other, shift}
use Rattle.machines.proofs.Steps.{need_fails, need-holds, need_and, answer-need}

-- ── Single actions ──
carries-last : (w y : ℕ) (a : Action) (K : List Action) → carries w y 0 (a ∷ K) ≡ need (reads_other y a) 35 (Ok (taken a K))
carries-last w y (Read n x s) K = refl
carries-last w y (Write n x) K = refl
carries-last w y (Sync n k o) K = refl

carries-more : (w y c : ℕ) (a : Action) (K : List Action) → carries w y (suc c) (a ∷ K) ≡ need (saw w y a) 34 (behind a (carries w y c K))
carries-more w y c (Read n x s) K = need_and (eqb s w) (eqb x y) 34 _
carries-more w y c (Write n x) K = refl
carries-more w y c (Sync n k o) K = refl

-- ── What is asked ──
answer-behind : (a : Action) (o : Result Taken ℕ) → answer (behind a o) ≡ answer o
answer-behind a (Ok (taken b K)) = refl
answer-behind a (Err n) = refl

answer-passed : (w y : ℕ) (o : Result Taken ℕ) → answer (passed w y o) ≡ answer o
answer-passed w y (Ok (taken b K)) = refl
answer-passed w y (Err n) = refl

answer-behind-action : (a : Action) (o : Result (List Action) ℕ) → answer (behind_action a o) ≡ answer o
answer-behind-action a (Ok K) = refl
answer-behind-action a (Err n) = refl

-- only the first suc c are looked at
carries-part : (w y c : ℕ) (K : List Action) → answer (carries w y c K) ≡ answer (carries w y c (take (suc c) K))
carries-part w y c [] = refl
carries-part w y zero (a ∷ K) = ap answer (carries-last w y a K) ∙ answer-need (reads_other y a) 35 _ _ refl ∙ sym (ap answer (carries-last w y a []))
carries-part w y (suc c) (a ∷ K) =
    ap answer (carries-more w y c a K)
    ∙ answer-need (saw w y a) 34 _ _ (answer-behind a _ ∙ carries-part w y c K ∙ sym (answer-behind a _))
    ∙ sym (ap answer (carries-more w y c a (take (suc c) K)))

-- only the part behind the first p is looked at
pub move-part : (p c : ℕ) (K : List Action) → answer (move_at p c K) ≡ answer (move_at 0 c (take (suc (suc c)) (drop p K)))
move-part zero c [] = refl
move-part (suc p) c [] = refl
move-part zero c (Write w y ∷ K) = answer-passed w y _ ∙ carries-part w y c K ∙ sym (answer-passed w y _)
move-part zero c (Read n x s ∷ K) = refl
move-part zero c (Sync n k o ∷ K) = refl
move-part (suc p) c (a ∷ K) = answer-behind-action a _ ∙ move-part p c K

-- ── The places of a part, one after another ──
-- what is asked once the first k behind the write are carried
abbrev pub asked : (ℕ → Action) → List ℕ → ℕ → ℕ → ℕ → Result (Unit {0}) ℕ
asked f places w y k = answer (carries w y (length places - 1 - (k + 1)) (map f (drop (k + 1) places)))

module _ (f : ℕ → Action) (places : List ℕ) (long : 2 ≤ length places) where
  module _ (w y : ℕ) where
    -- the action a at k of the part behind the write and before the last
    module _ (k : ℕ) (a : Action) (in' : k < length (take (length places - 1 - 1) (drop 1 places))) (is : a ≡ f (get_or (take (length places - 1 - 1) (drop 1 places)) k 0)) where
      asked-next : asked f places w y k ≡ answer (need (saw w y a) 34 (behind a (carries w y (length places - 1 - (k + 1 + 1)) (map f (drop (k + 1 + 1) places)))))
      asked-next =
          let l = simp (length-take, length-drop) at in' in
          let n : length places - 1 - (k + 1) ≡ suc (length places - 1 - (k + 1 + 1)) = omega arith in
          let z : 1 + k ≡ k + 1 = omega arith in
          let e : f (get_or places (k + 1) 0) ≡ a = sym (is ∙ ap f (get_or-take (length places - 1 - 1) (drop 1 places) k 0 (omega arith) ∙ get_or-drop 1 places k 0 ∙ ap (λ i. get_or places i 0) z)) in
          (λ i. answer (carries w y (n i) (map f (drop_more places (k + 1) 0 (omega arith) i)))) ∙ ap (λ b. answer (carries w y (suc (length places - 1 - (k + 1 + 1))) (b ∷ map f (drop (k + 1 + 1) places)))) e
          ∙ ap answer (carries-more w y (length places - 1 - (k + 1 + 1)) a (map f (drop (k + 1 + 1) places)))

      pub asked-carried : true ≡ saw w y a → asked f places w y (k + 1) ≡ asked f places w y k
      asked-carried e = sym (asked-next ∙ ap answer (need-holds (saw w y a) 34 _ (sym e)) ∙ answer-behind a _)

      pub asked_not_carried : false ≡ saw w y a → Err 34 ≡ asked f places w y k
      asked_not_carried e = sym (asked-next ∙ ap answer (need_fails (saw w y a) 34 _ (sym e)))

-- ── What is made ──
-- the read at c is taken out of the list
abbrev Out : ℕ → List Action → Taken → Type 0
Out c K (taken b R) = (drop c (take (suc c) K) ≡ b ∷ []) × (R ≡ take c (take (suc c) K) ++ drop (suc c) K)

abbrev Makes : {S : Type 0} → (S → Type 0) → Result S ℕ → Type 0
Makes P o = IfOk o P

makes_need : {S : Type 0} (P : S → Type 0) (b : Bool) (n : ℕ) (o : Result S ℕ) → Makes P o → Makes P (need b n o)
makes_need P true n o h = h
makes_need P false n o h = tt

carries_makes : (w y c : ℕ) (K : List Action) → Makes (Out c K) (carries w y c K)
carries_makes w y c [] = tt
carries_makes w y zero (a ∷ K) = subst (Makes (Out 0 (a ∷ K))) (sym (carries-last w y a K)) (makes_need (Out 0 (a ∷ K)) (reads_other y a) 35 (Ok (taken a K)) (refl, refl))
carries_makes w y (suc c) (a ∷ K) =
    subst (Makes (Out (suc c) (a ∷ K))) (sym (carries-more w y c a K))
    (makes_need (Out (suc c) (a ∷ K)) (saw w y a) 34 (behind a (carries w y c K)) (one_more (carries w y c K) (carries_makes w y c K)))
  where
    one_more : (o : Result Taken ℕ) → Makes (Out c K) o → Makes (Out (suc c) (a ∷ K)) (behind a o)
    one_more (Ok (taken b R)) h = (h.0, ap (λ r. a ∷ r) h.1)
    one_more (Err n) h = tt

move_makes : (p c : ℕ) (K : List Action) → Makes (λ R. R ≡ shift p c K) (move_at p c K)
move_makes zero c [] = tt
move_makes (suc p) c [] = tt
move_makes zero c (Write w y ∷ K) = before (carries w y c K) (carries_makes w y c K)
  where
    before : (o : Result Taken ℕ) → Makes (Out c K) o → Makes (λ R. R ≡ shift 0 c (Write w y ∷ K)) (passed w y o)
    before (Ok (taken b R)) h = ap (λ r. b ∷ Write w y ∷ r) h.1 ∙ sym (ap (λ r. r ++ (Write w y ∷ take c (take (suc c) K)) ++ drop (suc c) K) h.0)
    before (Err n) h = tt
move_makes zero c (Read n x s ∷ K) = tt
move_makes zero c (Sync n k o ∷ K) = tt
move_makes (suc p) c (a ∷ K) = one_more (move_at p c K) (move_makes p c K)
  where
    one_more : (o : Result (List Action) ℕ) → Makes (λ R. R ≡ shift p c K) o → Makes (λ R. R ≡ shift (suc p) c (a ∷ K)) (behind_action a o)
    one_more (Ok R) h = ap (λ r. a ∷ r) h
    one_more (Err n) h = tt

pub move_ok : (p c : ℕ) (K : List Action) → answer (move_at p c K) ≡ Ok tt → move_at p c K ≡ Ok (shift p c K)
move_ok p c K e = by (move_at p c K) e (move_makes p c K)
  where
    by : (o : Result (List Action) ℕ) → answer o ≡ Ok tt → Makes (λ R. R ≡ shift p c K) o → o ≡ Ok (shift p c K)
    by (Ok R) e h = ap (λ r. Ok r) h
    by (Err n) e h = cc
