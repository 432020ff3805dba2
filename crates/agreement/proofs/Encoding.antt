-- Items and what they say: a machine fed with items goes as its step goes with what they say.
use Rattle.std.proofs.Common.{◌≡◌, ℕ, Bool, true, false, cond, eqb, List, [], ◌∷◌, ◌++◌, map, Some, None, Ok, Err, Option, Result, sym, refl, ap, ◌∙◌, ap₂, arith}
use mathlib.Core.Path.{subst₃}
use Rattle.std.proofs.lemmas.Bool.{eqb-true, and_parts}
use Rattle.records.specs.declared.Item.{Item}
use Rattle.records.specs.Letters.{letter}
use Rattle.machines.specs.declared.items.RunItem.{RunItem}
use Rattle.machines.specs.declared.items.RunItem.TheVariants.{Perform, Drain}
use Rattle.machines.specs.declared.items.CertificateItem.{CertificateItem}
use Rattle.machines.specs.declared.items.CertificateItem.TheVariants.{Move, Come}
use Rattle.machines.specs.Items.{run_item, certificate_item, only_thread, unless, one, said}
use Rattle.machines.specs.Machine.{feed}
use Rattle.machines.specs.Run.{RunState, runs, run_step_of, run_step, fresh_run}
use Rattle.machines.specs.Certificate.{OrderState, certifies, certificate_step_of, certificate_step, fresh_order}
use Rattle.machines.specs.Encoded.{run_encoded, certificate_encoded}
use Rattle.agreement.specs.Evidence.{run_items, certificate_items}
use Rattle.agreement.specs.Agreement.{Encoding}
use Rattle.machines.proofs.Feeds.{not_ok, stepped}

-- ── Any machine that reads its items ──
module _ {S I : Type 0} (of : Item → Option I) (step_of : S → Option I → Result S ℕ) (step : S → I → Result S ℕ)
    (none : (s : S) → step_of s None ≡ Err 20) (some : (s : S) (i : I) → step_of s (Some i) ≡ step s i) where
  abbrev reading : S → Item → Result S ℕ
  reading s i = step_of s (of i)

  read_one : (i : Item) (s k : S) → reading s i ≡ Ok k → (r : I) × (of i ≡ Some r) × (step s r ≡ Ok k)
  read_one i s k e = go (of i) refl e
    where
      go : (o : Option I) → of i ≡ o → step_of s o ≡ Ok k → (r : I) × (of i ≡ Some r) × (step s r ≡ Ok k)
      go None q e' = absurd (not_ok (sym (none s) ∙ e'))
      go (Some r) q e' = (r, q, sym (some s r) ∙ e')

  feed_decoded : (is : List Item) (s s' : S) → feed reading (Ok s) is ≡ Ok s' → feed step (Ok s) (said of is) ≡ Ok s'
  feed_decoded [] s s' e = e
  feed_decoded (i ∷ is) s s' e =
      let h = stepped reading i is s s' e in
      let r = read_one i s h.next h.steps in
      ap (λ o. feed step (Ok s) (one o ++ said of is)) r.1
      ∙ ap (λ o. feed step o (said of is)) r.2 ∙ feed_decoded is h.next s' h.onward

  module _ (encoded : I → Item) where
    decode_taken : ((i : Item) (r : I) → of i ≡ Some r → encoded r ≡ i)
        → (is : List Item) (s s' : S) → feed reading (Ok s) is ≡ Ok s' → map encoded (said of is) ≡ is
    decode_taken was [] s s' e = refl
    decode_taken was (i ∷ is) s s' e =
        let h = stepped reading i is s s' e in
        let r = read_one i s h.next h.steps in
        ap (λ o. map encoded (one o ++ said of is)) r.1
        ∙ ap₂ {C = List Item} (λ a l. a ∷ l) (was i r.0 r.1) (decode_taken was is h.next s' h.onward)

    feed-encoded : ((r : I) → of (encoded r) ≡ Some r) → (is : List I) (o : Result S ℕ)
        → feed reading o (map encoded is) ≡ feed step o is
    feed-encoded back [] o = refl
    feed-encoded back (i ∷ is) (Err n) = refl
    feed-encoded back (i ∷ is) (Ok s) =
        ap (λ o. feed reading o (map encoded is)) (ap (step_of s) (back i) ∙ some s i) ∙ feed-encoded back is (step s i)

decoded_encoded : {I : Type 0} (of : Item → Option I) (encoded : I → Item) → ((r : I) → of (encoded r) ≡ Some r)
    → (is : List I) → said of (map encoded is) ≡ is
decoded_encoded of encoded back [] = refl
decoded_encoded {I} of encoded back (i ∷ is) =
    ap (λ o. one o ++ said of (map encoded is)) (back i) ∙ ap {B = List I} (λ l. i ∷ l) (decoded_encoded of encoded back is)

-- ── What is read was written so ──
same_item : (i : Item) (l p c : ℕ) → i.letter ≡ l → i.place ≡ p → i.count ≡ c
    → record { letter = l; thread = i.thread; place = p; count = c } ≡ i
same_item i l p c el ep ec =
    subst₃ (λ l p c. record { letter = l; thread = i.thread; place = p; count = c } ≡ i) el ep ec refl

only-thread : (i : Item) → only_thread i ≡ true → (i.place ≡ 0) × (i.count ≡ 0)
only-thread i e = let p = and_parts (eqb i.place 0) (eqb i.count 0) e in (eqb-true _ _ p.0, eqb-true _ _ p.1)

some_inj : {A : Type 0} {a b : A} → ◌≡◌ {A = Option A} (Some a) (Some b) → a ≡ b
some_inj e = cc

none-some : {A : Type 0} {a : A} → None ≡ Some a → ⊥
none-some e = let z : ◌≡◌ {A = ℕ} 0 1 = cc in omega arith

pub run_read : (i : RunItem) → run_item (run_encoded i) ≡ Some i
run_read (Perform t) = refl
run_read (Drain t) = refl

pub certificate_read : (j : CertificateItem) → certificate_item (certificate_encoded j) ≡ Some j
certificate_read (Move t p c) = refl
certificate_read (Come t) = refl

run_was : (i : Item) (r : RunItem) → run_item i ≡ Some r → run_encoded r ≡ i
run_was i r e = go (eqb i.letter (letter "A")) (eqb i.letter (letter "D")) (only_thread i) refl refl refl e
  where
    go : (a d only : Bool) → eqb i.letter (letter "A") ≡ a → eqb i.letter (letter "D") ≡ d → only_thread i ≡ only
        → cond a (unless only (Perform i.thread)) (cond d (unless only (Drain i.thread)) None) ≡ Some r → run_encoded r ≡ i
    go true d true ea ed eo e' =
        let z = only-thread i eo in
        ap run_encoded (sym (some_inj e')) ∙ same_item i (letter "A") 0 0 (eqb-true _ _ ea) z.0 z.1
    go true d false ea ed eo e' = absurd (none-some e')
    go false true true ea ed eo e' =
        let z = only-thread i eo in
        ap run_encoded (sym (some_inj e')) ∙ same_item i (letter "D") 0 0 (eqb-true _ _ ed) z.0 z.1
    go false true false ea ed eo e' = absurd (none-some e')
    go false false only ea ed eo e' = absurd (none-some e')

certificate_was : (i : Item) (r : CertificateItem) → certificate_item i ≡ Some r → certificate_encoded r ≡ i
certificate_was i r e = go (eqb i.letter (letter "M")) (eqb i.letter (letter "O")) (only_thread i) refl refl refl e
  where
    go : (m o only : Bool) → eqb i.letter (letter "M") ≡ m → eqb i.letter (letter "O") ≡ o → only_thread i ≡ only
        → cond m (Some (Move i.thread i.place i.count)) (cond o (unless only (Come i.thread)) None) ≡ Some r
        → certificate_encoded r ≡ i
    go true o only em eo et e' =
        ap certificate_encoded (sym (some_inj e')) ∙ same_item i (letter "M") i.place i.count (eqb-true _ _ em) refl refl
    go false true true em eo et e' =
        let z = only-thread i et in
        ap certificate_encoded (sym (some_inj e')) ∙ same_item i (letter "O") 0 0 (eqb-true _ _ eo) z.0 z.1
    go false true false em eo et e' = absurd (none-some e')
    go false false only em eo et e' = absurd (none-some e')

-- ── Both machines ──
pub run_decoded : (is : List Item) (s s' : RunState) → feed run_step (Ok s) is ≡ Ok s' → feed runs (Ok s) (run_items is) ≡ Ok s'
run_decoded is s s' e = feed_decoded run_item run_step_of runs (λ s. refl) (λ s i. refl) is s s' e

pub run-encoded : (is : List RunItem) (o : Result RunState ℕ) → feed run_step o (map run_encoded is) ≡ feed runs o is
run-encoded is o = feed-encoded run_item run_step_of runs (λ s. refl) (λ s i. refl) run_encoded run_read is o

pub certificate_decoded : (js : List Item) (s s' : OrderState)
    → feed certificate_step (Ok s) js ≡ Ok s' → feed certifies (Ok s) (certificate_items js) ≡ Ok s'
certificate_decoded js s s' e = feed_decoded certificate_item certificate_step_of certifies (λ s. refl) (λ s i. refl) js s s' e

pub certificate-encoded : (js : List CertificateItem) (o : Result OrderState ℕ)
    → feed certificate_step o (map certificate_encoded js) ≡ feed certifies o js
certificate-encoded js o =
    feed-encoded certificate_item certificate_step_of certifies (λ s. refl) (λ s i. refl) certificate_encoded certificate_read js o

pub certificate-back : (js : List CertificateItem) → certificate_items (map certificate_encoded js) ≡ js
certificate-back js = decoded_encoded certificate_item certificate_encoded certificate_read js

pub encoding : Encoding
encoding =
    record {
      run_read = run_read;
      certificate_read = certificate_read;
      run_taken = λ c is s e. decode_taken run_item run_step_of runs (λ s. refl) (λ s i. refl) run_encoded run_was is
          (fresh_run c) s e;
      certificate_taken = λ c js s e.
          decode_taken certificate_item certificate_step_of certifies (λ s. refl) (λ s i. refl) certificate_encoded certificate_was js
          (fresh_order c) s e;
    }
