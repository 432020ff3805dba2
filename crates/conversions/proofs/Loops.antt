-- Loops that write: over the items of a run, and over the eight threads.
use Rattle.std.proofs.Common.{◌≡◌, ℕ, suc, ◌+◌, ◌-◌, ◌<◌, List, ◌∷◌, ◌++◌, length, get_or, drop, sym, ap, ◌∙◌, add-one, arith}
use Rattle.std.proofs.lemmas.List.{drop_more}
use Rattle.records.specs.declared.Item.{Item}
use Rattle.conversions.specs.declared.sheet.Sheet.{Sheet}
use Rattle.conversions.specs.Sheets.{Adds, Room}
use Rattle.conversions.proofs.Sheets.{Leads, leads-same, leads-room, leads-more}

-- ── Each item writes what it adds in a state, and leads to the next state ──
module _ {S Y : Type 0} (along : List Y → S → List Item) (adds : Y → S → List Item) (next : Y → S → S)
    (cons : (y : Y) (ys : List Y) (s : S) → along (y ∷ ys) s ≡ adds y s ++ along ys (next y s))
    (run : List Y) (start : S) (first : Sheet) (room : Room (along run start) first)
    (i : ℕ) (s : S) (now : Sheet) (d : Y) (l : i < length run)
    (h : Leads first (along run start) now (along (drop i run) s)) where
  item : Leads first (along run start) now (adds (get_or run i d) s ++ along (drop (i + 1) run) (next (get_or run i d) s))
  item =
      leads-same first (along run start) now
      (ap (λ ys. along ys s) (drop_more run i d l) ∙ cons (get_or run i d) (drop (i + 1) run) s) h

  pub item-more : (s' : S) (now' : Sheet) → s' ≡ next (get_or run i d) s → Adds (adds (get_or run i d) s) now now'
      → Leads first (along run start) now' (along (drop (i + 1) run) s')
  item-more s' now' e a =
      leads-same first (along run start) now' (ap (along (drop (i + 1) run)) (sym e))
      (leads-more first (along run start) now _ _ room item now' a)

-- ── Each thread writes what it adds ──
module _ (threads : ℕ → ℕ → List Item) (adds : ℕ → List Item)
    (cons : (d t : ℕ) → threads (suc d) t ≡ adds t ++ threads d (suc t))
    (first : Sheet) (room : Room (threads 8 0) first)
    (t : ℕ) (now : Sheet) (l : t < 8) (h : Leads first (threads 8 0) now (threads (8 - t) t)) where
  thread : Leads first (threads 8 0) now (adds t ++ threads (8 - (t + 1)) (t + 1))
  thread =
      let e : 8 - t ≡ suc (8 - (t + 1)) = omega arith in
      leads-same first (threads 8 0) now
      (ap (λ n. threads n t) e ∙ cons (8 - (t + 1)) t ∙ ap (λ n. adds t ++ threads (8 - (t + 1)) n) (sym (add-one t))) h

  pub thread-room : Room (adds t) now
  thread-room = leads-room first (threads 8 0) now _ _ room thread

  pub thread-more : (now' : Sheet) → Adds (adds t) now now' → Leads first (threads 8 0) now' (threads (8 - (t + 1)) (t + 1))
  thread-more now' a = leads-more first (threads 8 0) now _ _ room thread now' a
