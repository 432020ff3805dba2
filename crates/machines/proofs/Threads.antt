-- What is left of a thread from a place on and the names of its actions.
use Rattle.std.proofs.Common.{◌≡◌, ℕ, zero, suc, ◌+◌, ◌<◌, ◌≤◌, true, false, eqb, List, [], ◌∷◌, length, get_or, drop, is_some, Some, None, Option, unwrap_or, sym, refl, ap, ◌∙◌, ⊎_elim, arith}
use Rattle.std.specs.List.{slice_get}
use Rattle.std.proofs.lemmas.List.{drop_more, drop_all}
use Rattle.std.proofs.lemmas.Option.{slice_get-get_or, slice_get_past}
use Rattle.std.proofs.lemmas.Bool.{cases_lt, cond_both, false≢true}
use Rattle.records.specs.declared.Record.{Record}
use Rattle.records.specs.declared.action.Action.{Action}
use Rattle.records.specs.declared.action.Action.TheVariants.{Sync}
use Rattle.records.specs.declared.action.SyncOp.TheVariants.{End}
use Rattle.records.specs.Actions.{action_of, name_of}
use Rattle.records.specs.Letters.{letter}
use Rattle.records.specs.Names.{named, of_thread, actions_from, thread, threads_of}
use Rattle.form.proofs.Laws.{lawful}
use Rattle.case.specs.Cases.{records_of, threads}
use Rattle.case.specs.declared.checked.CheckedCase.{CheckedCase}
use Rattle.case.proofs.Slots.{thread_is, thread-long}
use Rattle.machines.specs.Run.{isNil}

-- ── From a place on ──
module _ {X : Type 0} (l : List X) (n : ℕ) where
  pub nth_within : (a : X) → slice_get l n ≡ Some a → n < length l
  nth_within a e = ⊎_elim (λ h. h) (λ h. absurd (false≢true (ap is_some (sym (slice_get_past l n h) ∙ e)))) (cases_lt n (length l))

  pub drop-some : (a : X) → slice_get l n ≡ Some a → drop n l ≡ a ∷ drop (n + 1) l
  drop-some a e =
      let h = nth_within a e in
      let f : ◌≡◌ {A = Option X} (Some (get_or l n a)) (Some a) = sym (slice_get-get_or l n a h) ∙ e in
      let g : get_or l n a ≡ a = cc in
      drop_more l n a h ∙ ap (λ x. x ∷ drop (n + 1) l) g

pub drop-none : {X : Type 0} (l : List X) (n : ℕ) → slice_get l n ≡ None → drop n l ≡ []
drop-none [] n e = drop_all n [] (omega arith)
drop-none (x ∷ xs) zero e = absurd (false≢true (ap is_some (sym e)))
drop-none (x ∷ xs) (suc n) e = drop-none xs n e

pub drop-short : {X : Type 0} (l : List X) (n : ℕ) → n < length l → isNil (drop n l) ≡ false
drop-short [] n h = absurd (omega arith)
drop-short (x ∷ xs) zero h = refl
drop-short (x ∷ xs) (suc n) h = drop-short xs n (omega arith)

pub drop-long : {X : Type 0} (l : List X) (n : ℕ) → length l ≤ n → isNil (drop n l) ≡ true
drop-long l n h = ap isNil (drop_all n l h)

-- ── Names ──
name-action : (n : ℕ) (r : Record) → name_of (unwrap_or (action_of n r) (Sync n 0 End)) ≡ n
name-action n r =
    let P : Option Action → Type 0 = λ o. name_of (unwrap_or o (Sync n 0 End)) ≡ n in
    cond_both (eqb r.letter (letter "r")) _ _ P (λ _. refl) (λ _.
    cond_both (eqb r.letter (letter "w")) _ _ P (λ _. refl) (λ _.
    cond_both (eqb r.letter (letter "R")) _ _ P (λ _. refl) (λ _.
    cond_both (eqb r.letter (letter "W")) _ _ P (λ _. refl) (λ _.
    cond_both (eqb r.letter (letter "L")) _ _ P (λ _. refl) (λ _.
    cond_both (eqb r.letter (letter "U")) _ _ P (λ _. refl) (λ _.
    cond_both (eqb r.letter (letter "S")) _ _ P (λ _. refl) (λ _.
    cond_both (eqb r.letter (letter "J")) _ _ P (λ _. refl) (λ _.
    cond_both (eqb r.letter (letter "B")) _ _ P (λ _. refl) (λ _.
    cond_both (eqb r.letter (letter "E")) _ _ P (λ _. refl) (λ _. refl))))))))))

name-from : (n p : ℕ) (rs : List Record) (a : Action) → slice_get (actions_from n rs) p ≡ Some a → name_of a ≡ n + p
name-from n p [] a e = absurd (false≢true (ap is_some e))
name-from n zero (r ∷ rs) a e = let q : unwrap_or (action_of n r) (Sync n 0 End) ≡ a = cc in let z : n ≡ n + 0 = omega arith in sym (ap name_of q) ∙ name-action n r ∙ z
name-from n (suc p) (r ∷ rs) a e = let z : suc n + p ≡ n + suc p = omega arith in name-from (suc n) p rs a e ∙ z

-- the action at a place of a thread has the name of that place
pub name_at_lem : (xs : List Record) (t p : ℕ) (a : Action) → t < 8 → Some a ≡ slice_get (thread (threads_of xs) t) p → name_of a ≡ named t p
name_at_lem xs t p a h e =
    let z : named t 0 + p ≡ named t p = omega arith in
    name-from (named t 0) p (of_thread t xs) a (ap (λ l. slice_get l p) (sym (thread_is xs t h)) ∙ sym e) ∙ z

-- ── The eight threads of a case ──
pub thread_few : (c : CheckedCase) (t : ℕ) → length (thread (threads c) t) ≤ 64
thread_few c t = let xs = records_of c in let few = (lawful xs c.formed).thread_few t in omega (arith, thread-long xs c.formed t)

pub place-small : (c : CheckedCase) (t p : ℕ) (a : Action) → Some a ≡ slice_get (thread (threads c) t) p → p < 64
place-small c t p a e = omega (arith, nth_within (thread (threads c) t) p a (sym e), thread_few c t)
