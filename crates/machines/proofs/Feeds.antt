-- Any step that takes items or refuses them: what is told by a list of items that is taken to its end.
use Rattle.std.proofs.Common.{◌≡◌, ℕ, ◌<◌, ◌≤◌, Bool, true, false, List, [], ◌∷◌, ◌++◌, length, Ok, Err, Result, refl, ap, ◌∙◌, arith}
use Rattle.std.specs.List.{AllByRecursion}
use Rattle.std.proofs.lemmas.Bool.{false≢true}
use Rattle.records.specs.declared.Item.{Item}
use Rattle.machines.specs.Machine.{Machine, need, feed, reached, ended, completes}

-- ── Results ──
pub ok_inj : {S : Type 0} {a b : S} → ◌≡◌ {A = Result S ℕ} (Ok a) (Ok b) → a ≡ b
ok_inj e = cc

pub not_ok : {S : Type 0} {n : ℕ} {a : S} → Err n ≡ Ok a → ⊥
not_ok e = let z : ◌≡◌ {A = ℕ} 0 1 = cc in omega arith

pub needed : {S : Type 0} (b : Bool) (n : ℕ) (o : Result S ℕ) {a : S} → need b n o ≡ Ok a → (b ≡ true) × (o ≡ Ok a)
needed true n o e = (refl, e)
needed false n o e = absurd (not_ok e)

pub need_met : {S : Type 0} (b : Bool) (n : ℕ) (o : Result S ℕ) → b ≡ true → need b n o ≡ o
need_met b n o e = ap (λ z. need z n o) e

-- ── Items that are taken ──
module _ {S I : Type 0} (step : S → I → Result S ℕ) where
  pub refused : (n : ℕ) (is : List I) {s : S} → feed step (Err n) is ≡ Ok s → ⊥
  refused n [] e = not_ok e
  refused n (i ∷ is) e = not_ok e

  -- the state behind the first item
  pub record Stepped (i : I) (is : List I) (s s' : S) : Type 0 where
    pub next : S
    pub steps : step s i ≡ Ok next
    pub onward : feed step (Ok next) is ≡ Ok s'

  pub stepped : (i : I) (is : List I) (s s' : S) → feed step (Ok s) (i ∷ is) ≡ Ok s' → Stepped i is s s'
  stepped i is s s' e = go (step s i) refl e
    where
      go : (o : Result S ℕ) → step s i ≡ o → feed step o is ≡ Ok s' → Stepped i is s s'
      go (Ok m) q e' = record { next = m; steps = q; onward = e' }
      go (Err n) q e' = absurd (refused n is e')

  -- one item more
  pub feed-more : (o : Result S ℕ) (s : S) (is : List I) (i : I) → feed step o is ≡ Ok s → feed step o (is ++ (i ∷ [])) ≡ step s i
  feed-more (Ok r) s [] i e = ap (λ u. step u i) (ok_inj e)
  feed-more (Ok r) s (j ∷ is) i e = feed-more (step r j) s is i e
  feed-more (Err n) s is i e = absurd (refused n is e)

-- ── Items that lead to a complete state ──
pub record Ends {S I : Type 0} (step : S → I → Result S ℕ) (done : S → Bool) (o : Result S ℕ) (is : List I) : Type 0 where
  pub last : S
  pub taken : feed step o is ≡ Ok last
  pub complete : done last ≡ true

pub ends-step : {S I : Type 0} {step : S → I → Result S ℕ} {done : S → Bool} {s k : S} {i : I} {is : List I}
    → step s i ≡ Ok k → Ends step done (Ok k) is → Ends step done (Ok s) (i ∷ is)
ends-step {step = step} {is = is} e h =
    record { last = h.last; taken = ap (λ o. feed step o is) e ∙ h.taken; complete = h.complete }

module _ {S : Type 0} (m : Machine S) (is : List Item) where
  pub ends : completes m is ≡ true → Ends m.step m.complete (Ok m.fresh) is
  ends e = go (reached m is) refl e
    where
      go : (o : Result S ℕ) → reached m is ≡ o → ended m o ≡ true → Ends m.step m.complete (Ok m.fresh) is
      go (Ok s) q e' = record { last = s; taken = q; complete = e' }
      go (Err n) q e' = absurd (false≢true e')

  pub from-ends : Ends m.step m.complete (Ok m.fresh) is → completes m is ≡ true
  from-ends h = ap (ended m) h.taken ∙ h.complete

-- ── What holds of every item that is taken ──
module _ {S I : Type 0} (step : S → I → Result S ℕ) (Keeps : S → Type 0) where
  -- where each item lowers a weight, there are few items
  pub bounded : (weight : S → ℕ) → ((s k : S) (i : I) → Keeps s → step s i ≡ Ok k → Keeps k × (weight k < weight s))
      → (is : List I) (s s' : S) → Keeps s → feed step (Ok s) is ≡ Ok s' → length is ≤ weight s
  bounded weight lowers [] s s' k e = omega arith
  bounded weight lowers (i ∷ is) s s' k e =
      let h = stepped step i is s s' e in
      let l = lowers s h.next i k h.steps in
      let a = bounded weight lowers is h.next s' l.0 h.onward in
      let b = l.1 in
      omega arith

  pub each-taken : (Q : I → Type 0) → ((s k : S) (i : I) → Keeps s → step s i ≡ Ok k → Keeps k × Q i)
      → (is : List I) (s s' : S) → Keeps s → feed step (Ok s) is ≡ Ok s' → AllByRecursion Q is
  each-taken Q tells [] s s' k e = tt
  each-taken Q tells (i ∷ is) s s' k e =
      let h = stepped step i is s s' e in
      let l = tells s h.next i k h.steps in
      (l.1, each-taken Q tells is h.next s' l.0 h.onward)
