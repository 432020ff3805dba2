-- The case of a list of records: eight threads, with names that rise one by one, and few actions.
use Rattle.std.proofs.Common.{◌≡◌, ℕ, zero, suc, ◌+◌, ◌<◌, ◌≤◌, ltb, List, [], ◌∷◌, length, filter, unwrap_or, sym, refl, ap, ◌∙◌, subst, ⊎_elim, arith}
use lib.ListN.{get_or-eq_default}
use Rattle.std.proofs.lemmas.Bool.Decides.{nat_tests}
use Rattle.std.proofs.lemmas.List.FromFn.{get_or-map-range_with_len}
use Rattle.std.proofs.lemmas.Bool.{lt-ltb, le-ltb, cases_lt, cond-true, cond-false}
use Rattle.records.specs.declared.Record.{Record}
use Rattle.records.specs.declared.action.Action.TheVariants.{Sync}
use Rattle.records.specs.declared.action.SyncOp.TheVariants.{End}
use Rattle.records.specs.Actions.{name_of, action_of}
use Rattle.records.specs.Names.{thread, named, threads_of, actions, actions_from, of_thread, at, below as records_below}
use Rattle.records.proofs.Threads.{below_more}
use Rattle.agreement.specs.Convert.{sum_over, size}
use Rattle.agreement.specs.Agreement.{Sized}
use Rattle.agreement.proofs.Updates.{From}
use Rattle.agreement.proofs.ToRun.{NamedFrom}

-- ── Eight threads ──
module _ (xs : List Record) where
  row : (t : ℕ) → t < 8 → thread (threads_of xs) t ≡ actions xs t
  row t l = get_or-map-range_with_len (actions xs) 0 8 t t [] l (omega arith)

  pub case-from : From 8 (thread (threads_of xs))
  case-from t l = get_or-eq_default (threads_of xs) [] l

-- ── Names ──
named-action : (n : ℕ) (r : Record) → name_of (unwrap_or (action_of n r) (Sync n 0 End)) ≡ n
named-action n r = grind (arith, nat_tests)

named-actions : (n : ℕ) (rs : List Record) → NamedFrom n (actions_from n rs)
named-actions n [] = tt
named-actions n (r ∷ rs) = (named-action n r, named-actions (suc n) rs)

pub case-named : (xs : List Record) (t : ℕ) → NamedFrom (named t 0) (thread (threads_of xs) t)
case-named xs t =
    ⊎_elim (λ (l : t < 8). subst (NamedFrom (named t 0)) (sym (row xs t l)) (named-actions (named t 0) (of_thread t xs)))
    (λ (l : 8 ≤ t). subst (NamedFrom (named t 0)) (sym (case-from xs t l)) tt) (cases_lt t 8)

-- ── How many ──
actions-length : (n : ℕ) (rs : List Record) → length (actions_from n rs) ≡ length rs
actions-length n [] = refl
actions-length n (r ∷ rs) = ap suc (actions-length (suc n) rs)

row-length : (xs : List Record) (t : ℕ) → t < 8 → length (thread (threads_of xs) t) ≡ length (of_thread t xs)
row-length xs t l = ap (λ k. length k) (row xs t l) ∙ actions-length (named t 0) (of_thread t xs)

pub case-short : (xs : List Record) → Sized xs → (t : ℕ) → length (thread (threads_of xs) t) ≤ 64
case-short xs h t =
    ⊎_elim (λ (l : t < 8). let a = row-length xs t l in let b = h.thread_few t in omega arith)
    (λ (l : 8 ≤ t). let a = ap (λ k. length k) (case-from xs t l) in omega arith) (cases_lt t 8)

-- the records of d threads from i on stand behind those of the threads below
counts : (xs : List Record) (g : ℕ → ℕ) (d i : ℕ) → ((t : ℕ) → t < i + d → g t ≡ length (of_thread t xs))
    → records_below i xs + sum_over d i g ≡ records_below (i + d) xs
counts xs g zero i h = let e : i ≡ i + 0 = omega arith in let b = ap (λ k. records_below k xs) e in omega arith
counts xs g (suc d) i h =
    let a = counts xs g d (suc i) (λ t l. h t (omega arith)) in
    let e : suc i + d ≡ i + suc d = omega arith in
    let b = ap (λ k. records_below k xs) e in
    let c = below_more i xs in
    let f = h i (omega arith) in
    omega arith

all-below : (xs : List Record) → ((k : ℕ) → k < length xs → (at xs k).thread < 8) → records_below 8 xs ≡ length xs
all-below [] h = refl
all-below (r ∷ rs) h =
    ap (λ l. length l) (cond-true (ltb r.thread 8) (r ∷ filter (λ x. ltb x.thread 8) rs) _
    (lt-ltb _ _ (h 0 (omega arith))))
    ∙ ap suc (all-below rs (λ k l. h (suc k) (omega arith)))

none_below : (xs : List Record) → records_below 0 xs ≡ 0
none_below [] = refl
none_below (r ∷ rs) =
    ap (λ l. length l) (cond-false (ltb r.thread 0) (r ∷ filter (λ x. ltb x.thread 0) rs) _ (le-ltb _ _ (omega arith)))
    ∙ none_below rs

-- one action for each record
pub case-size : (xs : List Record) → Sized xs → size (threads_of xs) ≡ length xs
case-size xs h =
    let a = counts xs (λ t. length (thread (threads_of xs) t)) 8 0 (λ t l. row-length xs t (omega arith)) in
    let b = all-below xs h.thread_small in
    let c = none_below xs in
    omega arith
