-- Machines that take items: where one starts, what an item makes of a state or by which number it is refused, and which
-- states are complete. Every kind of evidence is one of these, for each case.
use Rattle.std.specs.Prelude.{ℕ, suc, Bool, true, false, List, [], ◌∷◌, Some, None, Ok, Err, Option, Result}
use Rattle.records.specs.declared.Item.{Item}
use Rattle.records.specs.Refusals.{Refusal}

pub record Machine (S : Type 0) : Type 0 where
  pub fresh : S
  pub step : S → Item → Result S ℕ
  pub complete : S → Bool

-- refused by this number unless the test holds
abbrev pub need : {S : Type 0} → Bool → ℕ → Result S ℕ → Result S ℕ
need true n next = next
need false n next = Err n

-- the state after all these items, or the number of the first refusal
abbrev pub feed : {S I : Type 0} → (S → I → Result S ℕ) → Result S ℕ → List I → Result S ℕ
feed step o [] = o
feed step (Err n) (i ∷ is) = Err n
feed step (Ok s) (i ∷ is) = feed step (step s i) is

-- where the items lead from the fresh state
abbrev pub reached : {S : Type 0} → Machine S → List Item → Result S ℕ
reached m is = feed m.step (Ok m.fresh) is

abbrev pub ended : {S : Type 0} → Machine S → Result S ℕ → Bool
ended m (Ok s) = m.complete s
ended m (Err n) = false

-- complete evidence: every item is taken, and the last state is complete
abbrev pub completes : {S : Type 0} → Machine S → List Item → Bool
completes m is = ended m (reached m is)

-- the first refusal among the items, with the number of items that were taken before it
abbrev pub or_refused : {S : Type 0} → ℕ → Result S ℕ → (S → Option Refusal) → Option Refusal
or_refused k (Ok s) next = next s
or_refused k (Err n) next = Some (record { number = n; place = k })

abbrev pub refused_from : {S : Type 0} → (S → Item → Result S ℕ) → S → ℕ → List Item → Option Refusal
refused_from step s k [] = None
refused_from step s k (i ∷ is) = or_refused k (step s i) (λ t. refused_from step t (suc k) is)

abbrev pub refusal_of : {S : Type 0} → Machine S → List Item → Option Refusal
refusal_of m is = refused_from m.step m.fresh 0 is

-- what a call of `put` answers, and the state that it leaves
abbrev pub answer : {S : Type 0} → Result S ℕ → Result (Unit {0}) ℕ
answer (Ok s) = Ok tt
answer (Err n) = Err n

abbrev pub moved : {S : Type 0} → S → Result S ℕ → S
moved old (Ok s) = s
moved old (Err n) = old
