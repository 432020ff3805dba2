-- One item more is taken: a docket that stands for a plain one stands for it with the item joined to its list.
use Rattle.std.proofs.Common.{◌≡◌, ℕ, ◌+◌, ◌≤◌, min, true, List, [], ◌∷◌, ◌++◌, length, Ok, refl, ◌∙◌, arith, length-append}
use Rattle.records.specs.declared.Item.{Item}
use Rattle.case.specs.declared.checked.CheckedCase.{CheckedCase}
use Rattle.machines.specs.Machine.{reached}
use Rattle.machines.proofs.Feeds.{feed-more}
use Rattle.kinds.specs.declared.Evidence.{Ghosts}
use Rattle.docket.specs.declared.Docket.{Docket}
use Rattle.docket.specs.declared.ticket.TicketName.{TicketName}
use Rattle.docket.specs.Plain.{Plain, offers, Taken, fits}
use Rattle.docket.specs.Standing.{Stands, Heeds, admits, step_of}

-- the docket's checker took the item, and it counted it
pub one_more : {K F : Type 0} (kind : Ghosts K F) (d : Docket K F) (checker : K) (taken : ℕ) (t : TicketName) (i : Item) →
    ((k : CheckedCase) (l : List Item) (s : kind.State) → reached (kind.machine k) l ≡ Ok s → length l ≤ 8192) →
    admits d t ≡ true →
    step_of kind d i ≡ Ok (kind.state d.case checker) →
    taken ≡ min (d.taken + 1) 65535 →
    Heeds kind d (offers t i) Taken (record d { checker = checker; taken = taken })
one_more kind d checker taken t i short fit stepped counted =
    let m = kind.machine d.case in
    let old = kind.state d.case d.checker in
    let fit_p : (p : Plain) → Stands kind d p → fits d.number p t ≡ true = λ p h. rw (← h.counts.opened, ← h.counts.«open») fit in
    let leads : (p : Plain) → Stands kind d p → reached m p.items ≡ Ok old = λ p h. h.at (grind (arith, fit_p p h)) in
    record {
      case = refl;
      number = refl;
      answers = λ p h. rw (fit_p p h, leads p h, stepped) refl;
      stands = λ p h.
          let longer = p.items ++ (i ∷ []) in
          let on : reached m longer ≡ Ok (kind.state d.case checker) = feed-more m.step (Ok m.fresh) old p.items i (leads p h) ∙ stepped in
          let few : length longer ≤ 8192 = short d.case longer (kind.state d.case checker) on in
          let long : length longer ≡ length p.items + 1 = length-append p.items (i ∷ []) in
          rw (fit_p p h, leads p h, stepped) (record {
            counts = record { opened = h.counts.opened; allowed = h.counts.allowed; unfinished = h.counts.unfinished; withdrawn = h.counts.withdrawn; «open» = h.counts.«open» };
            taken = omega (arith, h.taken, counted);
            at = λ _. on;
          });
    }
