-- A loop that replays a certificate item by item: what is left of it leads to the whole run.
use Rattle.std.proofs.Common.{◌≡◌, ℕ, zero, suc, ◌+◌, ◌<◌, ◌≤◌, true, List, [], ◌∷◌, ◌++◌, map, length, get_or, drop, set, replicate, Some, None, Ok, Option, sym, refl, ap, ◌∙◌, subst, ⊎_elim, arith}
use mathlib.Core.Path.{fun_ext}
use Rattle.std.specs.Option.{ok_or}
use Rattle.std.proofs.lemmas.List.{append_assoc, get_or_default, drop_more, drop_all}
use Rattle.std.proofs.lemmas.Bool.{cases_lt}
use Rattle.records.specs.declared.Item.{Item}
use Rattle.records.specs.declared.action.Action.{Action}
use Rattle.records.specs.declared.action.Action.TheVariants.{Read, Write, Sync}
use Rattle.records.specs.Names.{Case, named}
use Rattle.case.specs.Cases.{records_of, threads}
use Rattle.case.specs.declared.checked.CheckedCase.{CheckedCase}
use Rattle.case.proofs.Slots.{thread-none}
use Rattle.machines.specs.declared.items.RunItem.{RunItem}
use Rattle.machines.specs.declared.items.RunItem.TheVariants.{Perform}
use Rattle.machines.specs.declared.items.CertificateItem.{CertificateItem}
use Rattle.machines.specs.declared.items.CertificateItem.TheVariants.{Move, Come}
use Rattle.machines.specs.declared.lists.Certificate.{Certificate}
use Rattle.machines.specs.Certificate.{OrderState, certificate_step_of, certificate_step, certificate_machine, fresh_order}
use Rattle.machines.specs.Items.{certificate_item, one}
use Rattle.machines.specs.Lists.{head_of, order_state}
use Rattle.machines.specs.Machine.{feed, completes, moved}
use Rattle.machines.specs.Memory.{upd}
use Rattle.machines.specs.Run.{spent}
use Rattle.machines.proofs.Feeds.{not_ok, Stepped, stepped, Ends, ends}
use Rattle.machines.proofs.Lefts.{lefts-over}
use Rattle.machines.proofs.Tables.{table-set}
use Rattle.agreement.specs.Convert.{again, drain_after, moved_or, coming, replay_from}
use Rattle.machines.specs.Encoded.{run_encoded}
use Rattle.agreement.specs.Evidence.{certificate_items, replayed}
use Rattle.agreement.proofs.CertificateSteps.{CertificateTaken, c_move, certificate_taken, Came, came}
use Rattle.agreement.proofs.Theorems.{to_run_lem}
use Rattle.kinds.specs.Duties.{sized}
use Rattle.conversions.specs.declared.sheet.Sheet.{Sheet}
use Rattle.conversions.specs.Replays.{nexts, missing, performed, coming_items, coming_next, item_replay, item_next}
use Rattle.conversions.specs.Sheets.{Adds, Room}
use Rattle.conversions.proofs.Sheets.{Leads, leads-start, leads-same, leads-room, leads-more, leads-all}

-- ── One action that comes ──
again-front : (n : ℕ) (i : RunItem) (is : List RunItem) → map run_encoded (again n i is) ≡ replicate n (run_encoded i) ++ map run_encoded is
again-front zero i is = refl
again-front (suc n) i is = ap (λ l. run_encoded i ∷ l) (again-front n i is)

drain-front : (t : ℕ) (b : Action) (is : List RunItem) → map run_encoded (drain_after t b is) ≡ map run_encoded (drain_after t b []) ++ map run_encoded is
drain-front t (Read n x s) is = refl
drain-front t (Write n x) is = refl
drain-front t (Sync n k o) is = refl

abbrev pub drains : ℕ → Action → List Item
drains t b = map run_encoded (drain_after t b [])

pub drains-none : (t : ℕ) (b : Action) → ((n x : ℕ) → b ≡ Write n x → ⊥) → drains t b ≡ []
drains-none t (Read n x s) h = refl
drains-none t (Write n x) h = absurd (h n x refl)
drains-none t (Sync n k o) h = refl

module _ (t : ℕ) (b : Action) (n : ℕ) where
  abbrev performs : List Item
  performs = replicate (missing b n) (run_encoded (Perform t))

  performed-more : (is : List RunItem) → map run_encoded (again (missing b n) (Perform t) (drain_after t b is)) ≡ performed t b n ++ map run_encoded is
  performed-more is =
      again-front (missing b n) (Perform t) (drain_after t b is) ∙ ap (λ l. performs ++ l) (drain-front t b is)
      ∙ sym (append_assoc performs (drains t b) (map run_encoded is))
      ∙ ap (λ l. l ++ map run_encoded is) (sym (again-front (missing b n) (Perform t) (drain_after t b [])))

  -- in two parts: the actions performed, and the drain
  pub performed-parts : (due : ℕ) (item : Item) (rest : List Item) → due ≡ missing b n → item ≡ run_encoded (Perform t) → rest ≡ drains t b
      → performed t b n ≡ replicate due item ++ rest
  performed-parts due item rest d i r =
      again-front (missing b n) (Perform t) (drain_after t b []) ∙ (λ k. replicate (sym d k) (sym i k) ++ sym r k)

-- ── One item ──
module _ (js : List CertificateItem) (next : ℕ → ℕ) where
  move-replayed : {t p c : ℕ} {s k : OrderState} → CertificateTaken s (Move t p c) k
      → map run_encoded (replay_from (Move t p c ∷ js) s.left next) ≡ map run_encoded (replay_from js k.left next)
  move-replayed {t} {s = s} (c_move b q m) = ap (λ r. map run_encoded (replay_from js (upd s.left t (moved_or (s.left t) r)) next)) q

  come-replayed : {t : ℕ} {s k : OrderState} → CertificateTaken s (Come t) k
      → map run_encoded (replay_from (Come t ∷ js) s.left next)
      ≡ item_replay s.left next (Some (Come t)) ++ map run_encoded (replay_from js k.left (item_next s.left next (Some (Come t))))
  come-replayed {t} {s} {k} d =
      let h : Came s t k = came d in
      ap (λ l. map run_encoded (coming (λ l n. replay_from js l n) t s.left next l)) h.next
      ∙ performed-more t h.action (next t) (replay_from js (upd s.left t h.others) (upd next t (next t + missing h.action (next t))))
      ∙ sym (λ i. coming_items t (next t) (head_of (h.next i)) ++ map run_encoded (replay_from js (h.leaves i) (coming_next t next (head_of (h.next i)))))

item-replayed : (x : Item) (js : List Item) (next : ℕ → ℕ) (s k : OrderState) → certificate_step s x ≡ Ok k
    → map run_encoded (replay_from (certificate_items (x ∷ js)) s.left next)
    ≡ item_replay s.left next (certificate_item x) ++ map run_encoded (replay_from (certificate_items js) k.left (item_next s.left next (certificate_item x)))
item-replayed x js next s k e = go (certificate_item x) e
  where
    go : (o : Option CertificateItem) → certificate_step_of s o ≡ Ok k
        → map run_encoded (replay_from (one o ++ certificate_items js) s.left next)
        ≡ item_replay s.left next o ++ map run_encoded (replay_from (certificate_items js) k.left (item_next s.left next o))
    go None e' = absurd (not_ok e')
    go (Some (Move t p c)) e' = move-replayed (certificate_items js) next (certificate_taken s (Move t p c) e')
    go (Some (Come t)) e' = come-replayed (certificate_items js) next (certificate_taken s (Come t) e')

-- an item that is read says what is read
pub said-is : {I E : Type 0} (o : Option I) (e : E) (i : I) → Ok i ≡ ok_or o e → Some i ≡ o
said-is None e i q = cc
said-is (Some j) e i q = let k : i ≡ j = cc in ap (λ (l : _). Some l) k

-- where the action b comes, by a table of the names
module _ (left : ℕ → List Action) (table : List ℕ) (x : Item) (t : ℕ) (b : Action)
    (e : Some (Come t) ≡ certificate_item x) (u : Some b ≡ head_of (left t)) (within : t < length table) where
  same_name : nexts table t ≡ get_or table t 0
  same_name = get_or_default table t (named t 0) 0 within

  pub come-items : item_replay left (nexts table) (certificate_item x) ≡ performed t b (get_or table t 0)
  come-items = ap (item_replay left (nexts table)) (sym e) ∙ ap (coming_items t (nexts table t)) (sym u) ∙ ap (performed t b) same_name

  pub come-next : nexts (set table t (get_or table t 0 + missing b (get_or table t 0))) ≡ item_next left (nexts table) (certificate_item x)
  come-next =
      table-set (λ _ n. n) (λ u. named u 0) table t (get_or table t 0 + missing b (get_or table t 0)) within
      ∙ ap (λ n. upd (nexts table) t (n + missing b n)) (sym same_name)
      ∙ ap (coming_next t (nexts table)) u ∙ ap (item_next left (nexts table)) e

-- an action comes in one of the eight threads
pub comes-within : (k : CheckedCase) (m : Certificate) (t : ℕ) (b : Action) → Some b ≡ head_of ((order_state (threads k) m).left t) → t < 8
comes-within k m t b e =
    ⊎_elim (λ (l : t < 8). l)
    (λ (l : 8 ≤ t).
    let q = e ∙ ap head_of (lefts-over (threads k) m.lists t (thread-none (records_of k) t l)) in
    let z : ◌≡◌ {A = ℕ} 0 1 = cc in omega arith)
    (cases_lt t 8)

-- ── The loop ──
pub nexts-first : nexts (0 ∷ 64 ∷ 128 ∷ 192 ∷ 256 ∷ 320 ∷ 384 ∷ 448 ∷ []) ≡ (λ t. named t 0)
nexts-first = fun_ext first_at
  where
    first_at : (t : ℕ) → nexts (0 ∷ 64 ∷ 128 ∷ 192 ∷ 256 ∷ 320 ∷ 384 ∷ 448 ∷ []) t ≡ named t 0
    first_at zero = refl
    first_at (suc zero) = refl
    first_at (suc (suc zero)) = refl
    first_at (suc (suc (suc zero))) = refl
    first_at (suc (suc (suc (suc zero)))) = refl
    first_at (suc (suc (suc (suc (suc zero))))) = refl
    first_at (suc (suc (suc (suc (suc (suc zero)))))) = refl
    first_at (suc (suc (suc (suc (suc (suc (suc zero))))))) = refl
    first_at (suc (suc (suc (suc (suc (suc (suc (suc t)))))))) = refl

-- with the checker in the state s after k items
pub record Replaying (c : Case) (js : List Item) (first : Sheet) (s : OrderState) (k : ℕ) (next : ℕ → ℕ) (now : Sheet) : Type 0 where
  pub leads : Leads first (replayed c js) now (map run_encoded (replay_from (certificate_items (drop k js)) s.left next))
  pub completed : Ends certificate_step (λ z. spent 8 z.left) (Ok s) (drop k js)

module _ (c : Case) (js : List Item) where
  pub replaying_none : (first : Sheet) (s : OrderState) (next : ℕ → ℕ) → completes (certificate_machine c) js ≡ true → s ≡ fresh_order c
      → next ≡ (λ t. named t 0) → Replaying c js first s 0 next first
  replaying_none first s next e q n =
      record {
        leads =
            leads-same first (replayed c js) first (λ i. map run_encoded (replay_from (certificate_items js) (sym q i).left (sym n i)))
            (leads-start first (replayed c js));
        completed = subst (λ z. Ends certificate_step (λ z. spent 8 z.left) (Ok z) js) (sym q) (ends (certificate_machine c) js e);
      }

  module _ (first : Sheet) (s : OrderState) (k : ℕ) (next : ℕ → ℕ) (now : Sheet) (h : Replaying c js first s k next now) where
    module _ (x : Item) (room : Room (replayed c js) first) (l : k < length js) where
      abbrev written : List Item
      written = item_replay s.left next (certificate_item (get_or js k x))

      onward : Stepped certificate_step (get_or js k x) (drop (k + 1) js) s h.completed.last
      onward =
          stepped certificate_step (get_or js k x) (drop (k + 1) js) s h.completed.last
          (ap (feed certificate_step (Ok s)) (sym (drop_more js k x l)) ∙ h.completed.taken)

      leads_on : Leads first (replayed c js) now
          (written ++ map run_encoded (replay_from (certificate_items (drop (k + 1) js)) onward.next.left (item_next s.left next (certificate_item (get_or js k x)))))
      leads_on =
          leads-same first (replayed c js) now
          (ap (λ is. map run_encoded (replay_from (certificate_items is) s.left next)) (drop_more js k x l)
          ∙ item-replayed (get_or js k x) (drop (k + 1) js) next s onward.next onward.steps)
          h.leads

      pub replaying_room : Room written now
      replaying_room = leads-room first (replayed c js) now written _ room leads_on

      pub replaying_more : (s' : OrderState) (next' : ℕ → ℕ) (now' : Sheet)
          → Adds written now now' → next' ≡ item_next s.left next (certificate_item (get_or js k x))
          → s' ≡ moved s (certificate_step s (get_or js k x)) → Replaying c js first s' (k + 1) next' now'
      replaying_more s' next' now' a en es =
          let after : s' ≡ onward.next = es ∙ ap (moved s) onward.steps in
          record {
            leads =
                leads-same first (replayed c js) now'
                (sym (λ i. map run_encoded (replay_from (certificate_items (drop (k + 1) js)) (after i).left (en i))))
                (leads-more first (replayed c js) now written _ room leads_on now' a);
            completed =
                subst (λ z. Ends certificate_step (λ z. spent 8 z.left) (Ok z) (drop (k + 1) js)) (sym after)
                (record { last = h.completed.last; taken = onward.onward; complete = h.completed.complete });
          }

    pub replaying_all : length js ≤ k → Adds (replayed c js) first now
    replaying_all l =
        leads-all first (replayed c js) now
        (leads-same first (replayed c js) now (ap (λ is. map run_encoded (replay_from (certificate_items is) s.left next)) (drop_all k js l)) h.leads)

-- there is room for every run
module _ (k : CheckedCase) (js : List Item) (complete : completes (certificate_machine (threads k)) js ≡ true) where
  pub replayed-few : length (replayed (threads k) js) ≤ 512
  replayed-few = to_run_lem.run_few (records_of k) js (sized k) complete

  pub replayed-fits : (out : List Item) (s : Sheet) → 512 ≤ length out → s.items.now ≡ out → s.at ≡ 0 → Room (replayed (threads k) js) s
  replayed-fits out s l e z = let f = replayed-few in let n = ap length e in omega arith
