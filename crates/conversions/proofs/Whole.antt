-- What is written along a complete run is the list by moments.
use Rattle.std.proofs.Common.{◌≡◌, ℕ, zero, suc, ◌+◌, ◌≤◌, List, [], ◌∷◌, ◌++◌, map, length, sym, refl, ap, ◌∙◌, ap₂, arith}
use Rattle.std.proofs.lemmas.List.{append_assoc, length-append, length-map}
use Rattle.records.specs.declared.Item.{Item}
use Rattle.records.specs.declared.Record.{Record}
use Rattle.records.specs.Names.{Case, thread, threads_of}
use Rattle.case.specs.Cases.{records_of, threads}
use Rattle.case.specs.declared.checked.CheckedCase.{CheckedCase}
use Rattle.machines.specs.declared.items.CertificateItem.{CertificateItem}
use Rattle.agreement.specs.Convert.{Mark, mark, Plan, plan, comings, move_items, all_moves, move_count}
use Rattle.agreement.specs.Moments.{by_moments}
use Rattle.machines.specs.Encoded.{certificate_encoded}
use Rattle.agreement.specs.Evidence.{run_items, certificate_items, written}
use Rattle.agreement.specs.Agreement.{CompleteRun}
use Rattle.agreement.proofs.Encoding.{certificate-back}
use Rattle.agreement.proofs.Theorems.{by_moments_lem, to_certificate_lem}
use Rattle.kinds.specs.Duties.{sized}
use Rattle.conversions.specs.declared.sheet.Sheet.{Sheet}
use Rattle.conversions.specs.Along.{start, moves_along, moves_from, order_along}
use Rattle.conversions.specs.Sheets.{Room}
use Rattle.conversions.proofs.Hosted.{move_item, as_moves}
use Rattle.conversions.proofs.OwnMoves.{moves-along}
use Rattle.conversions.proofs.OneOrder.{as_comes, order-along}

-- ── The moves of a plan ──
items-moves : (t : ℕ) (ms : List Mark) (js : List CertificateItem) → map certificate_encoded (move_items t ms js) ≡ as_moves t ms ++ map certificate_encoded js
items-moves t [] js = refl
items-moves t (mark p n ∷ ms) js = ap {B = List Item} (λ l. move_item t (mark p n) ∷ l) (items-moves t ms js)

count-moves : (t : ℕ) (ms : List Mark) (js : List CertificateItem) → move_count (move_items t ms js) ≡ length ms + move_count js
count-moves t [] js = omega arith
count-moves t (mark p n ∷ ms) js = let h = count-moves t ms js in omega arith

count-comings : (os : List ℕ) → move_count (comings os) ≡ 0
count-comings [] = refl
count-comings (t ∷ os) = count-comings os

module _ (c : Case) (is : List Item) where
  abbrev planned : Plan
  planned = plan 8 (run_items is) (thread c) (λ t. [])

  own-moves : (t : ℕ) → as_moves t (planned.marks t) ≡ moves_along (thread c t) t is start
  own-moves t =
      moves-along 8 (thread c t) t is (thread c) (λ t. []) start 0 (record { alike = record { left = refl; hosts = refl }; wide = refl })

  one-order : as_comes planned.order ≡ order_along c is (λ _. start)
  one-order = order-along c is (thread c) (λ t. []) (λ _. start) (λ u. record { left = refl; hosts = refl })

  all-moves : (d t : ℕ) (js : List CertificateItem)
      → map certificate_encoded (all_moves d t planned.marks js) ≡ moves_from c is d t ++ map certificate_encoded js
  all-moves zero t js = refl
  all-moves (suc d) t js =
      items-moves t (planned.marks t) (all_moves d (suc t) planned.marks js)
      ∙ ap₂ {C = List Item} ◌++◌ (own-moves t) (all-moves d (suc t) js)
      ∙ sym (append_assoc (moves_along (thread c t) t is start) (moves_from c is d (suc t)) (map certificate_encoded js))

  all-counted : (d t : ℕ) (os : List ℕ) → move_count (all_moves d t planned.marks (comings os)) ≡ length (moves_from c is d t)
  all-counted zero t os = count-comings os
  all-counted (suc d) t os =
      let a = count-moves t (planned.marks t) (all_moves d (suc t) planned.marks (comings os)) in
      let b = sym (length-map (planned.marks t) (move_item t)) ∙ ap length (own-moves t) in
      let h = all-counted d (suc t) os in
      let e = length-append (moves_along (thread c t) t is start) (moves_from c is d (suc t)) in
      omega arith

-- ── A complete run ──
module _ (xs : List Record) (is : List Item) (complete : CompleteRun xs is) where
  abbrev c : Case
  c = threads_of xs

  pub written-along : written c is ≡ moves_from c is 8 0 ++ order_along c is (λ _. start)
  written-along =
      ap (map certificate_encoded) (sym (by_moments_lem.emits_it xs is complete)) ∙ all-moves c is 8 0 (comings (planned c is).order)
      ∙ ap (λ l. moves_from c is 8 0 ++ l) (one-order c is)

  pub written-moves : move_count (certificate_items (written c is)) ≡ length (moves_from c is 8 0)
  written-moves =
      ap move_count (certificate-back (by_moments c (run_items is)) ∙ sym (by_moments_lem.emits_it xs is complete))
      ∙ all-counted c is 8 0 (planned c is).order

-- ── There is room for every certificate ──
module _ (k : CheckedCase) (is : List Item) (complete : CompleteRun (records_of k) is) where
  abbrev pub moves : List Item
  moves = moves_from (threads k) is 8 0

  abbrev pub order : List Item
  order = order_along (threads k) is (λ _. start)

  pub written-few : length moves + length order ≤ 4352
  written-few =
      let l = ap length (written-along (records_of k) is complete) in
      let f = to_certificate_lem.items_few (records_of k) is (sized k) complete in
      omega (arith, length-append moves order)

  pub written-fits : (out : List Item) (s : Sheet) → 4352 ≤ length out → s.items.now ≡ out → s.at ≡ 0 → Room (moves ++ order) s
  written-fits out s l e z = let f = written-few in let n = ap length e in omega (arith, length-append moves order)
