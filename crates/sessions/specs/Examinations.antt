-- One examination from its opening to its end: items offered one by one, and then settled, or withdrawn at the first that is
-- refused.
use Rattle.std.specs.Prelude.{◌≡◌, ℕ, ◌+◌, true, false, cond, List, take, Ok, Err, Result, ◌==◌}
use Rattle.records.specs.declared.Item.{Item}
use Rattle.machines.specs.Machine.{Machine}
use Rattle.machines.specs.Outcomes.{Outcome, allowed, unfinished, refused, outcome}
use Rattle.kinds.specs.declared.Evidence.{Ghosts}
use Rattle.docket.specs.declared.Docket.{Docket}
use Rattle.docket.specs.declared.Verdict.{Verdict}
use Rattle.docket.specs.declared.fault.DocketFault.{DocketFault}
use Rattle.docket.specs.Faults.{told}
use Rattle.docket.specs.Plain.{Plain, Reply, Allowed, Unfinished, Refused, own, now_settled, now_withdrawn}
use Rattle.docket.specs.Standing.{Stands, verdict_says}

-- what an examination answers; F is the kind's reason for refusing an item, which has a number
abbrev pub examine_says : {F : Type 0} → (F → ℕ) → Result Verdict (DocketFault F) → Reply
examine_says number (Ok v) = verdict_says v
examine_says number (Err f) = Refused (told number f)

abbrev pub said : Outcome → Reply
said (allowed n) = Allowed n
said (unfinished n) = Unfinished n
said (refused q) = Refused q

-- the plain docket in the examination that it opens next, with these items taken
abbrev pub holding : Plain → List Item → Plain
holding p is = record { items = is; opened = p.opened + 1; allowed = p.allowed; unfinished = p.unfinished; withdrawn = p.withdrawn; «open» = 1 }

-- and after it was settled, or withdrawn where an item was refused
abbrev pub closed : Plain → List Item → Outcome → Plain
closed p is (allowed n) = now_settled true (holding p is)
closed p is (unfinished n) = now_settled false (holding p is)
closed p is (refused q) = now_withdrawn (holding p (take q.place is))

module _ {S : Type 0} (m : Machine S) (is : List Item) where
  -- 41 and 43 as for opening; else what putting the items to the machine comes to
  abbrev pub examined_reply : Plain → Reply
  examined_reply p = cond (p.«open» == 1) (own 41) (cond (p.opened == 65535) (own 43) (said (outcome m is)))

  abbrev pub examined_plain : Plain → Plain
  examined_plain p = cond (p.«open» == 1) p (cond (p.opened == 65535) p (closed p is (outcome m is)))

-- d became d' and answered a: it keeps its case and number, and whichever plain docket it stood for, it answered what the
-- items come to, and now stands for that plain docket with one examination more
pub record Examines {K F : Type 0} (kind : Ghosts K F) (d : Docket K F) (is : List Item) (a : Reply) (d' : Docket K F) : Type 0 where
  pub case : d'.case ≡ d.case
  pub number : d'.number ≡ d.number
  pub answers : (p : Plain) → Stands kind d p → a ≡ examined_reply (kind.machine d.case) is p
  pub stands : (p : Plain) → Stands kind d p → Stands kind d' (examined_plain (kind.machine d.case) is p)
