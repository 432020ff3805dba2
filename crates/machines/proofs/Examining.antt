-- A list of items put to a machine one by one: what is left of it gives the outcome.
use Rattle.std.proofs.Common.{◌≡◌, ℕ, suc, ◌+◌, ◌<◌, ◌≤◌, List, [], ◌∷◌, ◌++◌, length, get_or, take, drop, Some, None, Ok, Err, Result, sym, ap, ◌∙◌, add-zero, add-suc, suc-add, zero-add, add-one, take-append-drop, length-take-le}
use Rattle.std.proofs.lemmas.List.{drop_more, drop_all}
use Rattle.records.specs.declared.Item.{Item}
use Rattle.machines.specs.Machine.{Machine, feed, reached, ended, completes, or_refused, refused_from, refusal_of, answer, moved}
use Rattle.machines.specs.Outcomes.{refused, outcome_of, outcome}
use Rattle.machines.proofs.Feeds.{not_ok, stepped}
use Rattle.machines.proofs.Steps.{refused_by_lem}

-- in the state s, after i items
pub record Examining {S : Type 0} (m : Machine S) (items : List Item) (s : S) (i : ℕ) : Type 0 where
  pub refuses : refused_from m.step s i (drop i items) ≡ refusal_of m items
  pub leads : feed m.step (Ok s) (drop i items) ≡ reached m items

-- an item that is taken leads to the state that the checker then has
pub taken : {S : Type 0} (o : Result S ℕ) (old s : S) → Ok tt ≡ answer o → s ≡ moved old o → o ≡ Ok s
taken (Ok a) old s e q = ap (λ b. Ok b) (sym q)
taken (Err n) old s e q = absurd (not_ok (sym e))

-- ── Items that were taken ──
module _ {S : Type 0} (step : S → Item → Result S ℕ) where
  -- the refusal is looked for behind them, from where they lead
  refused-behind : (xs ys : List Item) (k : ℕ) (s s' : S) → feed step (Ok s) xs ≡ Ok s' → refused_from step s' (k + length xs) ys ≡ refused_from step s k (xs ++ ys)
  refused-behind [] ys k s s' e =
      let q : s ≡ s' = cc in rw (q, add-zero)
  refused-behind (x ∷ xs) ys k s s' e =
      let h = stepped step x xs s s' e in
      ap (λ j. refused_from step s' j ys) (add-suc k (length xs) ∙ sym (suc-add k (length xs))) ∙ refused-behind xs ys (suc k) h.next s' h.onward
      ∙ ap (λ o. or_refused k o (λ z. refused_from step z (suc k) (xs ++ ys))) (sym h.steps)

  leads-behind : (xs ys : List Item) (s s' : S) → feed step (Ok s) xs ≡ Ok s' → feed step (Ok s') ys ≡ feed step (Ok s) (xs ++ ys)
  leads-behind [] ys s s' e = let q : s ≡ s' = cc in rw q
  leads-behind (x ∷ xs) ys s s' e =
      let h = stepped step x xs s s' e in
      leads-behind xs ys h.next s' h.onward ∙ ap (λ o. feed step o (xs ++ ys)) (sym h.steps)

module _ {S : Type 0} (m : Machine S) (items : List Item) where
  pub examining_none : (s : S) → s ≡ m.fresh → Examining m items s 0
  examining_none s e = record { refuses = ap (λ z. refused_from m.step z 0 items) e; leads = ap (λ z. feed m.step (Ok z) items) e }

  -- where the first i items lead
  pub examining_taken : (s : S) (i : ℕ) → i ≤ length items → reached m (take i items) ≡ Ok s → Examining m items s i
  examining_taken s i l e =
      let long : 0 + length (take i items) ≡ i = zero-add (length (take i items)) ∙ length-take-le i items l in
      record {
        refuses =
            ap (λ k. refused_from m.step s k (drop i items)) (sym long)
            ∙ refused-behind m.step (take i items) (drop i items) 0 m.fresh s e ∙ ap (refused_from m.step m.fresh 0) (take-append-drop i items);
        leads = leads-behind m.step (take i items) (drop i items) m.fresh s e ∙ ap (feed m.step (Ok m.fresh)) (take-append-drop i items);
      }

  module _ (s : S) (i : ℕ) (h : Examining m items s i) where
    module _ (x : Item) (l : i < length items) where
      -- what the item at i gives
      first-refuses : or_refused i (m.step s (get_or items i x)) (λ z. refused_from m.step z (suc i) (drop (i + 1) items)) ≡ refusal_of m items
      first-refuses = ap (refused_from m.step s i) (sym (drop_more items i x l)) ∙ h.refuses

      first-leads : feed m.step (m.step s (get_or items i x)) (drop (i + 1) items) ≡ reached m items
      first-leads = ap (feed m.step (Ok s)) (sym (drop_more items i x l)) ∙ h.leads

      pub examining_more : (s' : S) → m.step s (get_or items i x) ≡ Ok s' → Examining m items s' (i + 1)
      examining_more s' e =
          record {
            refuses =
                ap (λ k. refused_from m.step s' k (drop (i + 1) items)) (add-one i)
                ∙ ap (λ o. or_refused i o (λ z. refused_from m.step z (suc i) (drop (i + 1) items))) (sym e) ∙ first-refuses;
            leads = ap (λ o. feed m.step o (drop (i + 1) items)) (sym e) ∙ first-leads;
          }

      -- the item at i is the first that is refused
      pub refused-here : (n : ℕ) → answer (m.step s (get_or items i x)) ≡ Err n → Some (record { number = n; place = i }) ≡ refusal_of m items
      refused-here n e = ap (λ o. or_refused i o (λ z. refused_from m.step z (suc i) (drop (i + 1) items))) (sym (refused_by_lem (m.step s (get_or items i x)) n e)) ∙ first-refuses

      pub outcome-refused : (n : ℕ) → answer (m.step s (get_or items i x)) ≡ Err n → refused (record { number = n; place = i }) ≡ outcome m items
      outcome-refused n e = ap (λ q. outcome_of q (completes m items) (length items)) (refused-here n e)

    module _ (l : length items ≤ i) where
      pub none-refused : None ≡ refusal_of m items
      none-refused = ap (refused_from m.step s i) (sym (drop_all i items l)) ∙ h.refuses

      pub examining_all : completes m items ≡ m.complete s
      examining_all = ap (ended m) (sym (ap (feed m.step (Ok s)) (sym (drop_all i items l)) ∙ h.leads))

      pub outcome-all : outcome_of None (completes m items) (length items) ≡ outcome m items
      outcome-all = ap (λ q. outcome_of q (completes m items) (length items)) none-refused
