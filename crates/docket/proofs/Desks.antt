-- A docket and its slots follow the desk: one call, and then a list of calls, one more at a time.
use Rattle.std.proofs.Common.{◌≡◌, ℕ, ◌+◌, ◌<◌, List, [], ◌∷◌, ◌++◌, length, get_or, take, drop, set, Some, None, Option, sym, refl, ap, ◌∙◌, subst, arith, length-append, length-take-le, drop-drop, drop-set-lt}
use Rattle.std.proofs.lemmas.List.{take_more, take_more_set, map_push}
use Rattle.machines.specs.Machine.{Machine}
use Rattle.kinds.specs.declared.Evidence.{Ghosts}
use Rattle.docket.specs.declared.Docket.{Docket}
use Rattle.docket.specs.declared.calls.Answer.{Answer}
use Rattle.docket.specs.declared.calls.Call.{Call}
use Rattle.docket.specs.Plain.{Plain, Asked, Reply}
use Rattle.docket.specs.Standing.{Stands}
use Rattle.docket.specs.Slots.{Held, Desk, desk, asked, left, reply_to, next_by, desk_reply, desk_next, replies, worked}
use Rattle.docket.specs.Working.{says_any, Acts, Acted}
use Rattle.docket.specs.Promise.{PlainAnswers, PlainSlots, StillStands}

-- ── The desk, at one call more ──
module _ {S : Type 0} (m : Machine S) (number : ℕ) where
  replies-more : (e : Desk) (cs : List Call) (c : Call) → replies m number e (cs ++ (c ∷ [])) ≡ replies m number e cs ++ (desk_reply m number (worked m number e cs) c ∷ [])
  replies-more e [] c = refl
  replies-more e (b ∷ cs) c = ap (λ l. desk_reply m number e b ∷ l) (replies-more (desk_next m number e b) cs c)

  worked-more : (e : Desk) (cs : List Call) (c : Call) → worked m number e (cs ++ (c ∷ [])) ≡ desk_next m number (worked m number e cs) c
  worked-more e [] c = refl
  worked-more e (b ∷ cs) c = worked-more (desk_next m number e b) cs c

module _ {K F : Type 0} (kind : Ghosts K F) (f : F → ℕ) where
  -- ── One call ──
  acts-keeps : (d d' : Docket K F) (h h' : Held) (c : Call) (x : Option Asked) (r : Option Reply) → Acts kind d h c x r d' h' → (d'.case ≡ d.case) × (d'.number ≡ d.number)
  acts-keeps d d' h h' c None None e = (ap (λ y. y.case) e.0, ap (λ y. y.number) e.0)
  acts-keeps d d' h h' c None (Some a) e = absurd e
  acts-keeps d d' h h' c (Some q) None e = absurd e
  acts-keeps d d' h h' c (Some q) (Some a) e = (e.0.case, e.0.number)

  acts-follow : (d d' : Docket K F) (h h' : Held) (c : Call) (x : Option Asked) (r : Option Reply) → Acts kind d h c x r d' h' → (p : Plain) → Stands kind d p →
      let m = kind.machine d.case in
      (r ≡ reply_to m d.number (desk p h) x) × Stands kind d' (next_by m d.number (desk p h) c x).plain × (h' ≡ (next_by m d.number (desk p h) c x).held)
  acts-follow d d' h h' c None None e p q = (refl, subst (λ y. Stands kind y p) (sym e.0) q, e.1)
  acts-follow d d' h h' c None (Some a) e p q = absurd e
  acts-follow d d' h h' c (Some b) None e p q = absurd e
  acts-follow d d' h h' c (Some b) (Some a) e p q = (ap Some (e.0.answers p q), e.0.stands p q, e.1 ∙ ap (left h c) (e.0.answers p q))

  -- ── A list of calls ──
  -- these calls are worked off, with their answers in front of a list that was `before`
  pub record WorkedOff (d : Docket K F) (h : Held) (calls : List Call) (before after : List (Option (Answer F))) (d' : Docket K F) (h' : Held) : Type 0 where
    pub case : d'.case ≡ d.case
    pub number : d'.number ≡ d.number
    pub rest : drop (length calls) after ≡ drop (length calls) before
    pub answers : PlainAnswers kind d h calls f after
    pub stands : StillStands kind d h calls d'
    pub slots : PlainSlots kind d h calls h'

  one-more_call : (d d' d'' : Docket K F) (h h' h'' : Held) (cs : List Call) (c : Call) (r : Option (Answer F)) (before after : List (Option (Answer F))) →
      length cs < length after →
      WorkedOff d h cs before after d' h' →
      Acted kind f d' h' c r d'' h'' →
      WorkedOff d h (cs ++ (c ∷ [])) before (set after (length cs) r) d'' h''
  one-more_call d d' d'' h h' h'' cs c r before after room so does =
      let m = kind.machine d.case in
      let n = d.number in
      let long : length (cs ++ (c ∷ [])) ≡ length cs + 1 = length-append cs (c ∷ []) in
      let keeps = acts-keeps d' d'' h' h'' c (asked h' c) (says_any f r) does in
      let follow : (p : Plain) → Stands kind d p →
      let e = worked m n (desk p h) cs in
      (says_any f r ≡ desk_reply m n e c) × Stands kind d'' (desk_next m n e c).plain × (h'' ≡ (desk_next m n e c).held)
      = λ p q. rw (so.case, so.number, so.slots p q) at (acts-follow d' d'' h' h'' c (asked h' c) (says_any f r) does (worked m n (desk p h) cs).plain (so.stands p q)) in
      record {
        case = keeps.0 ∙ so.case;
        number = keeps.1 ∙ so.number;
        rest = rw (long, drop-set-lt (length cs + 1) after (length cs) r (omega arith)) (sym (drop-drop 1 (length cs) after) ∙ ap (drop 1) so.rest ∙ drop-drop 1 (length cs) before);
        answers = λ p q.
            rw (long, take_more_set after (length cs) r room, map_push (says_any f) (take (length cs) after) r, so.answers p q, (follow p q).0, replies-more m n (desk p h) cs c) refl;
        stands = λ p q. rw (worked-more m n (desk p h) cs c) (follow p q).1;
        slots = λ p q. (follow p q).2 ∙ sym (ap (λ (e : Desk). e.held) (worked-more m n (desk p h) cs c));
      }

  -- the loop's step: one call more of a list
  pub next_call : (d d' d'' : Docket K F) (h h' h'' : Held) (calls : List Call) (i : ℕ) (x : Call) (r : Option (Answer F)) (before after : List (Option (Answer F))) →
      i < length calls →
      i < length after →
      WorkedOff d h (take i calls) before after d' h' →
      Acted kind f d' h' (get_or calls i x) r d'' h'' →
      WorkedOff d h (take (i + 1) calls) before (set after i r) d'' h''
  next_call d d' d'' h h' h'' calls i x r before after more room so does =
      let at : length (take i calls) ≡ i = length-take-le i calls (omega arith) in
      let done = one-more_call d d' d'' h h' h'' (take i calls) (get_or calls i x) r before after (omega arith) so does in
      let moved : WorkedOff d h (take i calls ++ (get_or calls i x ∷ [])) before (set after i r) d'' h'' = rw at at done in
      rw (take_more calls i x more) moved
