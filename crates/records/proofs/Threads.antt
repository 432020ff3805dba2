-- Lists of records that are grouped by thread, with thread numbers rising: each thread's records stand together.
use Rattle.std.proofs.Common.{◌≡◌, ℕ, zero, suc, ◌+◌, ◌<◌, ◌≤◌, true, eqb, ltb, ◌⊎◌, List, [], ◌∷◌, length, get_or, take, drop, filter, sym, refl, ap, ◌∙◌, subst, inl, inr, arith}
use Rattle.std.proofs.ByRecursion.{kept_by_passes, All-get_or}
use Rattle.std.proofs.lemmas.List.{get_or-take, get_or-drop}
use Rattle.std.proofs.lemmas.Bool.{cond-true, cond-false, cases_order, eq-eqb, ne_eqb, lt-ltb, le-ltb, eqb-true}
use Rattle.records.specs.declared.Record.{Record}
use Rattle.records.specs.Names.{blank, at, of_thread, place, below}

-- thread numbers do not fall, and none is below t
abbrev pub Rising : ℕ → List Record → Type 0
Rising t [] = Unit {0}
Rising t (r ∷ rs) = (t ≤ r.thread) × Rising r.thread rs

pub rising : (xs : List Record) (t : ℕ) → (0 < length xs → t ≤ (at xs 0).thread) → ((k : ℕ) → suc k < length xs → (at xs k).thread ≤ (at xs (suc k)).thread) → Rising t xs
rising [] t low up = tt
rising (r ∷ rs) t low up = (low (omega arith), rising rs r.thread (λ l. up 0 (omega arith)) (λ k l. up (suc k) (omega arith)))

-- ── One record in front ──
module _ (r : Record) (rs : List Record) (u : ℕ) where
  of_same : r.thread ≡ u → of_thread u (r ∷ rs) ≡ r ∷ of_thread u rs
  of_same e = cond-true _ _ _ (eq-eqb _ _ e)

  of_other : (r.thread ≡ u → ⊥) → of_thread u (r ∷ rs) ≡ of_thread u rs
  of_other ne = cond-false _ _ _ (ne_eqb _ _ ne)

  below_less : r.thread < u → below u (r ∷ rs) ≡ suc (below u rs)
  below_less l = ap length (cond-true _ (r ∷ filter (λ x. ltb x.thread u) rs) _ (lt-ltb _ _ l))

  below_rest : u ≤ r.thread → below u (r ∷ rs) ≡ below u rs
  below_rest l = ap length (cond-false _ (r ∷ filter (λ x. ltb x.thread u) rs) _ (le-ltb _ _ l))

-- ── Nothing below the least ──
pub below_none : (t u : ℕ) (xs : List Record) → u ≤ t → Rising t xs → below u xs ≡ 0
below_none t u [] le h = refl
below_none t u (r ∷ rs) le h = below_rest r rs u (omega arith) ∙ below_none r.thread u rs (omega arith) h.1

of_none : (t u : ℕ) (xs : List Record) → u < t → Rising t xs → of_thread u xs ≡ []
of_none t u [] le h = refl
of_none t u (r ∷ rs) le h = of_other r rs u (λ e. omega arith) ∙ of_none r.thread u rs (omega arith) h.1

-- where a thread ends the next one starts
pub below_more : (u : ℕ) (xs : List Record) → below (suc u) xs ≡ below u xs + length (of_thread u xs)
below_more u [] = omega arith
below_more u (r ∷ rs) = by (below_more u rs) (cases_order r.thread u)
  where
    by : below (suc u) rs ≡ below u rs + length (of_thread u rs) → (r.thread ≡ u) ⊎ ((r.thread < u) ⊎ (u < r.thread)) → below (suc u) (r ∷ rs) ≡ below u (r ∷ rs) + length (of_thread u (r ∷ rs))
    by ih (inl e) = let a = below_less r rs (suc u) (omega arith) in let b = below_rest r rs u (omega arith) in let c = ap length (of_same r rs u e) in omega arith
    by ih (inr (inl l)) = let a = below_less r rs (suc u) (omega arith) in let b = below_less r rs u l in let c = ap length (of_other r rs u (λ e. omega arith)) in omega arith
    by ih (inr (inr l)) = let a = below_rest r rs (suc u) (omega arith) in let b = below_rest r rs u (omega arith) in let c = ap length (of_other r rs u (λ e. omega arith)) in omega arith

-- ── A thread's records stand together ──
-- l is the part of xs from b on
abbrev Part : List Record → List Record → ℕ → Type 0
Part xs l b = l ≡ take (length l) (drop b xs)

pub together : (t u : ℕ) (xs : List Record) → Rising t xs → of_thread u xs ≡ take (length (of_thread u xs)) (drop (below u xs) xs)
together t u [] h = refl
together t u (r ∷ rs) h = by (together r.thread u rs h.1) (cases_order r.thread u)
  where
    by : of_thread u rs ≡ take (length (of_thread u rs)) (drop (below u rs) rs) → (r.thread ≡ u) ⊎ ((r.thread < u) ⊎ (u < r.thread)) → Part (r ∷ rs) (of_thread u (r ∷ rs)) (below u (r ∷ rs))
    by ih (inl e) =
        let none = below_none r.thread u rs (omega arith) h.1 in
        let s : Part (r ∷ rs) (r ∷ of_thread u rs) 0 = ap (λ l. r ∷ l) (ih ∙ ap (λ b. take (length (of_thread u rs)) (drop b rs)) none) in
        subst (λ l. Part (r ∷ rs) l (below u (r ∷ rs))) (sym (of_same r rs u e)) (subst (Part (r ∷ rs) (r ∷ of_thread u rs)) (sym (below_rest r rs u (omega arith) ∙ none)) s)
    by ih (inr (inl l)) =
        let s : Part (r ∷ rs) (of_thread u rs) (suc (below u rs)) = ih in
        subst (λ k. Part (r ∷ rs) k (below u (r ∷ rs))) (sym (of_other r rs u (λ e. omega arith))) (subst (Part (r ∷ rs) (of_thread u rs)) (sym (below_less r rs u l)) s)
    by ih (inr (inr l)) =
        let none = of_none r.thread u (r ∷ rs) l (omega arith, h.1) in
        subst (λ k. Part (r ∷ rs) k (below u (r ∷ rs))) (sym none) refl

-- the record at each place of a thread
pub at_place : (t u p : ℕ) (xs : List Record) → Rising t xs → p < length (of_thread u xs) → get_or (of_thread u xs) p blank ≡ at xs (below u xs + p)
at_place t u p xs h l =
    ap (λ k. get_or k p blank) (together t u xs h) ∙ get_or-take (length (of_thread u xs)) (drop (below u xs) xs) p blank l ∙ get_or-drop (below u xs) xs p blank

pub thread_at : (u p : ℕ) (xs : List Record) → p < length (of_thread u xs) → (get_or (of_thread u xs) p blank).thread ≡ u
thread_at u p xs l = eqb-true _ _ (All-get_or (λ r. eqb r.thread u ≡ true) (of_thread u xs) p blank l (kept_by_passes (λ r. eqb r.thread u) xs))

-- of the first b + p records, p are of thread u
abbrev Holds : List Record → ℕ → ℕ → ℕ → Type 0
Holds xs u p b = length (of_thread u (take (b + p) xs)) ≡ p

-- of the records up to place p of a thread, p are of that thread
pub place_at : (t u p : ℕ) (xs : List Record) → Rising t xs → p ≤ length (of_thread u xs) → length (of_thread u (take (below u xs + p) xs)) ≡ p
place_at t u p [] h l = go (below u [] + p)
  where
    go : (k : ℕ) → length (of_thread u (take k [])) ≡ p
    go zero = omega arith
    go (suc k) = omega arith
place_at t u p (r ∷ rs) h l = by p l (λ q m. place_at r.thread u q rs h.1 m) (cases_order r.thread u)
  where
    by : (p : ℕ) → p ≤ length (of_thread u (r ∷ rs)) → ((q : ℕ) → q ≤ length (of_thread u rs) → length (of_thread u (take (below u rs + q) rs)) ≡ q)
        → (r.thread ≡ u) ⊎ ((r.thread < u) ⊎ (u < r.thread)) → Holds (r ∷ rs) u p (below u (r ∷ rs))
    by zero m ih (inl e) = subst (Holds (r ∷ rs) u 0) (sym (below_rest r rs u (omega arith) ∙ below_none r.thread u rs (omega arith) h.1)) refl
    by (suc q) m ih (inl e) =
        let none = below_none r.thread u rs (omega arith) h.1 in
        let z : 0 + q ≡ q = omega arith in
        let c = ap length (of_same r rs u e) in
        let s : length (of_thread u (take q rs)) ≡ q = ap (λ k. length (of_thread u (take k rs))) (sym (ap (λ b. b + q) none ∙ z)) ∙ ih q (omega arith) in
        let n : 0 + suc q ≡ suc q = omega arith in
        subst (Holds (r ∷ rs) u (suc q)) (sym (below_rest r rs u (omega arith) ∙ none)) (ap (λ k. length (of_thread u (take k (r ∷ rs)))) n ∙ ap length (of_same r (take q rs) u e) ∙ ap suc s)
    by p m ih (inr (inl l')) =
        let c = ap length (of_other r rs u (λ e. omega arith)) in
        let n : suc (below u rs) + p ≡ suc (below u rs + p) = omega arith in
        subst (Holds (r ∷ rs) u p) (sym (below_less r rs u l')) (ap (λ k. length (of_thread u (take k (r ∷ rs)))) n ∙ ap length (of_other r (take (below u rs + p) rs) u (λ e. omega arith)) ∙ ih p (omega arith))
    by p m ih (inr (inr l')) =
        let none : 0 ≡ p = (let c = ap length (of_none r.thread u (r ∷ rs) l' (omega arith, h.1)) in omega arith) in
        subst (λ q. Holds (r ∷ rs) u q (below u (r ∷ rs))) none (subst (Holds (r ∷ rs) u 0) (sym (below_none r.thread u (r ∷ rs) (omega arith) (omega arith, h.1))) refl)

-- each record stands at its place of its thread
pub record Stands (xs : List Record) (k : ℕ) : Type 0 where
  pub is : k ≡ below (at xs k).thread xs + place xs k
  pub within : place xs k < length (of_thread (at xs k).thread xs)

pub stands : (t : ℕ) (xs : List Record) (k : ℕ) → Rising t xs → k < length xs → Stands xs k
stands t [] k h l = absurd (omega arith)
stands t (r ∷ rs) zero h l =
    let u = r.thread in
    let b = below_rest r rs u (omega arith) ∙ below_none u u rs (omega arith) h.1 in
    let c = ap length (of_same r rs u refl) in
    record { is = omega arith; within = omega arith }
stands t (r ∷ rs) (suc j) h l = by (stands r.thread rs j h.1 (omega arith)) (cases_order r.thread (at rs j).thread) (least r.thread rs j h.1 (omega arith))
  where
    least : (t : ℕ) (xs : List Record) (k : ℕ) → Rising t xs → k < length xs → t ≤ (at xs k).thread
    least t [] k g m = absurd (omega arith)
    least t (x ∷ xs) zero g m = g.0
    least t (x ∷ xs) (suc k) g m = let a = least x.thread xs k g.1 (omega arith) in let b = g.0 in omega arith

    by : Stands rs j → (r.thread ≡ (at rs j).thread) ⊎ ((r.thread < (at rs j).thread) ⊎ ((at rs j).thread < r.thread)) → r.thread ≤ (at rs j).thread → Stands (r ∷ rs) (suc j)
    by ih (inl e) up =
        let a = below_rest r rs (at rs j).thread (omega arith) in
        let b = ap length (of_same r (take j rs) (at rs j).thread e) in
        let c = ap length (of_same r rs (at rs j).thread e) in
        let d = ih.is in
        let f = ih.within in
        record { is = omega arith; within = omega arith }
    by ih (inr (inl m)) up =
        let a = below_less r rs (at rs j).thread m in
        let b = ap length (of_other r (take j rs) (at rs j).thread (λ e. omega arith)) in
        let c = ap length (of_other r rs (at rs j).thread (λ e. omega arith)) in
        let d = ih.is in
        let f = ih.within in
        record { is = omega arith; within = omega arith }
    by ih (inr (inr m)) up = absurd (omega arith)
