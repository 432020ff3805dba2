-- A loop that writes the moves of one read, from the newest host on.
use Rattle.std.proofs.Common.{◌≡◌, ℕ, ◌+◌, ◌-◌, ◌≤◌, List, [], ◌∷◌, ◌++◌, sym, ap, ◌∙◌, arith}
use Rattle.records.specs.declared.Item.{Item}
use Rattle.conversions.specs.declared.hosts.Host.{Host}
use Rattle.conversions.specs.declared.sheet.Sheet.{Sheet}
use Rattle.conversions.specs.Hosts.{width}
use Rattle.conversions.specs.Along.{move_of, passes, moves_before}
use Rattle.conversions.specs.Sheets.{Adds, Room}
use Rattle.conversions.proofs.Sheets.{Leads, leads-same, leads-room, leads-more}
use Rattle.conversions.proofs.Staying.{passes_push, width_append}

module _ (t place : ℕ) (hs : List Host) (first : Sheet) where
  abbrev whole : List Item
  whole = moves_before t place hs

  abbrev b : ℕ
  b = place - width hs

  -- these older hosts are left, before whose end so many actions come
  pub record Left (older : List Host) (before : ℕ) (now : Sheet) : Type 0 where
    pub low : before ≤ place
    pub ahead : before ≡ b + width older
    pub leads : Leads first whole now (passes t b older)

  -- the newest of those that are left is passed
  module _ (room : Room whole first) (host : Host) (older rest : List Host) (before : ℕ) (now : Sheet)
      (e : older ≡ rest ++ host ∷ []) (h : Left older before now) where
    wider : before ≡ b + width rest + (host.joined + 1)
    wider =
        let w = ap width e ∙ width_append rest (host ∷ []) in
        let a = h.ahead in
        omega arith

    pub left-wide : host.joined + 1 ≤ before
    left-wide = let w = wider in omega arith

    module _ (item : Item) (is : item ≡ move_of t (before - (host.joined + 1)) host.joined) where
      leads : Leads first whole now (item ∷ passes t b rest)
      leads =
          let w = wider in
          let p : b + width rest ≡ before - (host.joined + 1) = omega arith in
          leads-same first whole now
          (ap (passes t b) e ∙ passes_push t b rest host ∙ ap {B = List Item} (λ k. move_of t k host.joined ∷ passes t b rest) p
          ∙ ap {B = List Item} (λ i. i ∷ passes t b rest) (sym is))
          h.leads

      pub left-room : Room (item ∷ []) now
      left-room = leads-room first whole now (item ∷ []) (passes t b rest) room leads

      pub left_less : (next : Sheet) → Adds (item ∷ []) now next → Left rest (before - (host.joined + 1)) next
      left_less next a =
          record {
            low = let l = h.low in omega arith;
            ahead = let w = wider in omega arith;
            leads = leads-more first whole now (item ∷ []) (passes t b rest) room leads next a;
          }
