-- A sheet that is written bit by bit, and a loop that does so.
use Rattle.std.proofs.Common.{◌≡◌, ◌+◌, List, [], ◌++◌, length, sym, refl, ap, ◌∙◌, subst, arith}
use Rattle.std.proofs.lemmas.List.{length-append}
use Rattle.records.specs.declared.Item.{Item}
use Rattle.conversions.specs.declared.sheet.Sheet.{Sheet}
use Rattle.conversions.specs.Fronts.{put}
use Rattle.conversions.specs.Sheets.{Adds, Room}
use Rattle.conversions.proofs.Fronts.{put-nil, length-put, put-put}

-- one list and then another
pub adds_both : (xs ys : List Item) (s t u : Sheet) → Room (xs ++ ys) s → Adds xs s t → Adds ys t u → Adds (xs ++ ys) s u
adds_both xs ys s t u room f g =
    record {
      same = g.same ∙ f.same;
      list =
          g.list ∙ (λ i. put (f.upto i) ys (f.list i))
          ∙ put-put s.at xs s.items.now (omega (arith, length-append xs ys)) ys;
      upto = let a = f.upto in let b = g.upto in omega (arith, length-append xs ys);
    }

-- in two parts, of which the first is written
pub room_front : (xs ys : List Item) (s : Sheet) → Room (xs ++ ys) s → Room xs s
room_front xs ys s room = omega (arith, length-append xs ys)

pub room_behind : (xs ys : List Item) (s t : Sheet) → Room (xs ++ ys) s → Adds xs s t → Room ys t
room_behind xs ys s t room a =
    let n = a.upto in
    let l = ap length a.list ∙ length-put s.at xs s.items.now (room_front xs ys s room) in
    omega (arith, length-append xs ys)

-- ── A loop that adds `whole` to a sheet: what it has yet to add leads there ──
module _ (first : Sheet) (whole : List Item) where
  pub record Leads (now : Sheet) (rest : List Item) : Type 0 where
    pub same : now.items.ghost_name ≡ first.items.ghost_name
    pub list : put now.at rest now.items.now ≡ put first.at whole first.items.now
    pub ends : now.at + length rest ≡ first.at + length whole
    pub long : length now.items.now ≡ length first.items.now

  pub leads-start : Leads first whole
  leads-start = record { same = refl; list = refl; ends = refl; long = refl }

  pub leads-same : (now : Sheet) {rest rest' : List Item} → rest ≡ rest' → Leads now rest → Leads now rest'
  leads-same now e h = subst (Leads now) e h

  module _ (now : Sheet) (xs rest : List Item) (room : Room whole first) (h : Leads now (xs ++ rest)) where
    pub leads-room : Room xs now
    leads-room = let e = h.ends in let l = h.long in omega (arith, length-append xs rest)

    pub leads-more : (next : Sheet) → Adds xs now next → Leads next rest
    leads-more next a =
        record {
          same = a.same ∙ h.same;
          list = (λ i. put (a.upto i) rest (a.list i)) ∙ put-put now.at xs now.items.now leads-room rest ∙ h.list;
          ends = let e = h.ends in let n = a.upto in omega (arith, length-append xs rest);
          long = ap length a.list ∙ length-put now.at xs now.items.now leads-room ∙ h.long;
        }

  pub leads-all : (now : Sheet) → Leads now [] → Adds whole first now
  leads-all now h =
      record {
        same = h.same;
        list = sym (put-nil now.at now.items.now) ∙ h.list;
        upto = let e = h.ends in omega arith;
      }
