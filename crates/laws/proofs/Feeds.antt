-- What the items that a machine takes keep and bring, and the machine before the last of them.
use Rattle.std.proofs.Common.{◌≡◌, ℕ, List, [], ◌∷◌, ◌++◌, Some, None, Ok, Err, Option, Result, sym, refl, ap, ◌∙◌, subst, subst₂, append_assoc, append-nil}
use Rattle.records.specs.declared.Item.{Item}
use Rattle.machines.specs.Machine.{feed}
use Rattle.machines.proofs.Feeds.{ok_inj, not_ok, refused}
use Rattle.machines.specs.Items.{one, said}
use Rattle.laws.specs.Brought.{brought_after, brought}

-- ── Items one after the other ──
module _ {S I : Type 0} (step : S → I → Result S ℕ) where
  pub feed-last : (is : List I) (i : I) (o : Result S ℕ) {s : S}
      → feed step o (is ++ (i ∷ [])) ≡ Ok s → (r : S) × (feed step o is ≡ Ok r) × (step r i ≡ Ok s)
  feed-last [] i (Ok r) e = (r, refl, e)
  feed-last [] i (Err n) e = absurd (not_ok e)
  feed-last (j ∷ is) i (Ok r) e = feed-last is i (step r j) e
  feed-last (j ∷ is) i (Err n) e = absurd (not_ok e)

-- a step by what an item says
abbrev step_by : {S I : Type 0} → (Item → Option I) → (S → Option I → Result S ℕ) → S → Item → Result S ℕ
step_by says step s j = step s (says j)

-- what holds at first, with nothing said, and is kept by each item that says something holds with all that the items said
module _ {S I : Type 0} (says : Item → Option I) (step : S → Option I → Result S ℕ) (silent : (s : S) → step s None ≡ Err 20)
    (Kept : List I → S → Type 0)
    (keeps : (is : List I) (i : I) (s s' : S) → Kept is s → step s (Some i) ≡ Ok s' → Kept (is ++ (i ∷ [])) s') where
  kept_on : (is : List I) (js : List Item) (s s' : S) → Kept is s → feed (step_by says step) (Ok s) js ≡ Ok s'
      → Kept (is ++ said says js) s'
  kept_on is [] s s' h e = subst₂ Kept (sym (append-nil is)) (ok_inj e) h
  kept_on is (j ∷ js) s s' h e = by (λ ks r g. kept_on ks js r s' g) (says j) (step s (says j)) refl e
    where
      by : ((ks : List I) (r : S) → Kept ks r → feed (step_by says step) (Ok r) js ≡ Ok s' → Kept (ks ++ said says js) s')
          → (o : Option I) (r : Result S ℕ) → step s o ≡ r → feed (step_by says step) r js ≡ Ok s'
          → Kept (is ++ (one o ++ said says js)) s'
      by rec o (Err n) q d = absurd (refused (step_by says step) n js d)
      by rec None (Ok r) q d = absurd (not_ok (sym (silent s) ∙ q))
      by rec (Some i) (Ok r) q d =
          subst (λ l. Kept l s') (append_assoc is (i ∷ []) (said says js)) (rec (is ++ (i ∷ [])) r (keeps is i s r h q) d)

  pub kept : (js : List Item) (s s' : S) → Kept [] s → feed (step_by says step) (Ok s) js ≡ Ok s' → Kept (said says js) s'
  kept js s s' h e = kept_on [] js s s' h e

-- ── What one item more brings ──
module _ {I A : Type 0} (brings : List I → I → List A) where
  brought-last : (is js : List I) (i : I)
      → brought_after brings is (js ++ (i ∷ [])) ≡ brought_after brings is js ++ brings (is ++ js) i
  brought-last is [] i = append-nil (brings is i) ∙ ap (λ l. brings l i) (sym (append-nil is))
  brought-last is (j ∷ js) i =
      let e = brought-last (is ++ (j ∷ [])) js i in
      ap (λ l. brings is j ++ l) (e ∙ ap (λ l. brought_after brings (is ++ (j ∷ [])) js ++ brings l i) (append_assoc is (j ∷ []) js))
      ∙ sym (append_assoc (brings is j) (brought_after brings (is ++ (j ∷ [])) js) (brings (is ++ (j ∷ js)) i))

  pub brought-more : (js : List I) (i : I) → brought brings (js ++ (i ∷ [])) ≡ brought brings js ++ brings js i
  brought-more js i = brought-last [] js i
