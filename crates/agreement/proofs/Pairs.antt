-- The moves of the list by moments are as many as the pairs that it reverses.
use Rattle.std.proofs.Common.{◌≡◌, ℕ, zero, suc, ◌+◌, Bool, true, false, cond, List, [], ◌∷◌, length, refl, ap, ◌∙◌, ap₂, arith, length-append}
use Rattle.records.specs.declared.action.Action.{Action}
use Rattle.records.specs.declared.action.Action.TheVariants.{Read, Write, Sync}
use Rattle.records.specs.Names.{Case, thread}
use Rattle.machines.specs.declared.items.RunItem.{RunItem}
use Rattle.machines.specs.declared.items.CertificateItem.{CertificateItem}
use Rattle.agreement.specs.Convert.{Mark, mark, comings, move_items, all_moves, sum_over, move_count}
use Rattle.agreement.specs.Moments.{count, action_at, writes_before, threads_in, earlier, joined, over, moves_of, moves_from, moves}
use Rattle.agreement.specs.Moments.{Converted, passed_by, pairs_at, pairs_from, pairs}

module _ (c : Case) (is : List RunItem) where
  over-pairs : (t p : ℕ) (qs : List ℕ) → length (over c is t p qs) ≡ passed_by c is t p qs
  over-pairs t p [] = refl
  over-pairs t p (q ∷ qs) = go (earlier c is t p q) (over-pairs t p qs)
    where
      go : (b : Bool) → length (over c is t p qs) ≡ passed_by c is t p qs
          → length (cond b (mark (count (λ k. earlier c is t k q) p) (count (λ k. joined c is t q k) p) ∷ over c is t p qs)
          (over c is t p qs))
          ≡ cond b (suc (passed_by c is t p qs)) (passed_by c is t p qs)
      go true e = ap suc e
      go false e = e

  at_pairs : (t p : ℕ) (a : Action) → length (moves_of c is t p a) ≡ pairs_at c is t p a
  at_pairs t p (Read n x s) = over-pairs t p (writes_before c t p)
  at_pairs t p (Write n x) = refl
  at_pairs t p (Sync n k o) = refl

  from-pairs : (t n p : ℕ) → length (moves_from c is t n p) ≡ pairs_from c is t n p
  from-pairs t zero p = refl
  from-pairs t (suc n) p =
      length-append (moves_of c is t p (action_at c t p)) (moves_from c is t n (suc p))
      ∙ ap₂ ◌+◌ (at_pairs t p (action_at c t p)) (from-pairs t n (suc p))

  count-items : (t : ℕ) (ms : List Mark) (js : List CertificateItem) → move_count (move_items t ms js) ≡ length ms + move_count js
  count-items t [] js = omega arith
  count-items t (mark p c ∷ ms) js = let h = count-items t ms js in omega arith

  count-comings : (os : List ℕ) → move_count (comings os) ≡ 0
  count-comings [] = refl
  count-comings (t ∷ os) = count-comings os

  count-pairs : (d t : ℕ) (os : List ℕ)
      → move_count (all_moves d t (moves c is) (comings os)) ≡ sum_over d t (λ u. pairs_from c is u (length (thread c u)) 0)
  count-pairs zero t os = count-comings os
  count-pairs (suc d) t os =
      count-items t (moves c is t) (all_moves d (suc t) (moves c is) (comings os))
      ∙ ap₂ ◌+◌ (from-pairs t (length (thread c t)) 0) (count-pairs d (suc t) os)

  pub moves_pairs : (js : List CertificateItem) → Converted c is js → move_count js ≡ pairs c is
  moves_pairs js h = ap move_count h.listed ∙ count-pairs (length c) 0 (threads_in h.order)
