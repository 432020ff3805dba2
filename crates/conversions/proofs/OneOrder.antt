-- The order of all threads, followed along the run, is that of the plan.
use Rattle.std.proofs.Common.{◌≡◌, ℕ, zero, suc, Bool, true, false, List, [], ◌∷◌, ◌++◌, map, length, replicate, Some, None, Option, sym, refl, ap, ◌∙◌, ap₂}
use Rattle.std.specs.List.{slice_get}
use Rattle.std.proofs.lemmas.List.{append_assoc, replicate-append-replicate}
use Rattle.records.specs.declared.Item.{Item}
use Rattle.records.specs.declared.action.Action.{Action}
use Rattle.records.specs.declared.action.Action.TheVariants.{Read, Write, Sync}
use Rattle.records.specs.Names.{Case, thread}
use Rattle.machines.specs.declared.items.RunItem.{RunItem}
use Rattle.machines.specs.declared.items.RunItem.TheVariants.{Perform, Drain}
use Rattle.machines.specs.Items.{run_item, one}
use Rattle.machines.specs.Memory.{upd}
use Rattle.agreement.specs.Convert.{Group, group, holds, joins, each, released, flushed, comings}
use Rattle.agreement.specs.Convert.{Planner, plan_read, plan_perform, plan_drain, plan}
use Rattle.machines.specs.Encoded.{certificate_encoded}
use Rattle.machines.specs.Windows.{younger}
use Rattle.agreement.specs.Evidence.{run_items}
use Rattle.agreement.proofs.Updates.{on₁, on₂, on₃}
use Rattle.conversions.specs.Hosts.{width, stay, leaving}
use Rattle.conversions.specs.Along.{Own, performed, drained, unhosted, comes, performed_next, comes_next}
use Rattle.conversions.specs.Along.{come_of, step_all, step_comes, flushed_from, order_along}
use Rattle.conversions.proofs.Staying.{unhosted-some}
use Rattle.conversions.proofs.Hosted.{hosts_of}
use Rattle.conversions.proofs.Followed.{next-some, Alike, alike_none, alike_next, alike_drained}
use Rattle.conversions.proofs.Followed.{read_hosted, read_comes, read_joins, read_stays, write-waits}

-- ── The items of an order ──
abbrev pub as_comes : List ℕ → List Item
as_comes os = map certificate_encoded (comings os)

each-comes : (t : ℕ) (ns os : List ℕ) → as_comes (each t ns os) ≡ replicate (length ns) (come_of t) ++ as_comes os
each-comes t [] os = refl
each-comes t (n ∷ ns) os = ap {B = List Item} (λ l. come_of t ∷ l) (each-comes t ns os)

released-comes : (t : ℕ) (gs : List Group) (os : List ℕ) → as_comes (released t gs os) ≡ replicate (width (hosts_of gs)) (come_of t) ++ as_comes os
released-comes t [] os = refl
released-comes t (group w y ns ∷ gs) os =
    let x = come_of t in
    let n = length ns in
    let m = width (hosts_of gs) in
    ap {B = List Item} (λ l. x ∷ l)
    (each-comes t ns (released t gs os) ∙ ap (λ l. replicate n x ++ l) (released-comes t gs os)
    ∙ sym (append_assoc (replicate n x) (replicate m x) (as_comes os))
    ∙ ap (λ l. l ++ as_comes os) (replicate-append-replicate n m x))

flushed-comes : (d i : ℕ) (gs : ℕ → List Group) (f : ℕ → Own) → ((u : ℕ) → hosts_of (gs u) ≡ (f u).hosts) → as_comes (flushed d i gs) ≡ flushed_from d i f
flushed-comes zero i gs f h = refl
flushed-comes (suc d) i gs f h =
    released-comes i (gs i) (flushed d (suc i) gs)
    ∙ ap₂ {C = List Item} (λ hs l. replicate (width hs) (come_of i) ++ l) (h i) (flushed-comes d (suc i) gs f h)

-- ── All threads of a case ──
module _ (c : Case) where
  abbrev Each : (ℕ → List Action) → (ℕ → List Group) → (ℕ → Own) → Type 0
  Each rest gs f = (u : ℕ) → Alike (thread c u) (rest u) (gs u) (f u)

  abbrev Tells : Planner → List Item → Type 0
  Tells next is =
      (rest : ℕ → List Action) (gs : ℕ → List Group) (f : ℕ → Own) → Each rest gs f → as_comes (next rest gs).order ≡ order_along c is f

  module _ (next : Planner) (is : List Item) (tells : Tells next is)
      (rest : ℕ → List Action) (gs : ℕ → List Group) (f : ℕ → Own) (h : Each rest gs f) (t : ℕ) where
    -- ── Thread t performs an action ──
    module _ (rs : List Action) where
      comes-now : (a : Action) → Alike (thread c t) (a ∷ rs) (gs t) (f t) → hosts_of (gs t) ≡ (performed a (f t)).hosts
          → as_comes (next (upd rest t rs) gs).order ≡ order_along c is (upd f t (performed a (f t)))
      comes-now a k e =
          tells (upd rest t rs) gs (upd f t (performed a (f t)))
          (on₂ t (λ u r s. Alike (thread c u) r (gs u) s) rest f (λ u _. h u) (alike_next (thread c t) (f t) a rs (gs t) (gs t) k e))

      waits : (a : Action) (G : List Group) → Alike (thread c t) (a ∷ rs) (gs t) (f t) → hosts_of G ≡ (performed a (f t)).hosts
          → as_comes (next (upd rest t rs) (upd gs t G)).order ≡ order_along c is (upd f t (performed a (f t)))
      waits a G k e =
          tells (upd rest t rs) (upd gs t G) (upd f t (performed a (f t)))
          (on₃ t (λ u r g s. Alike (thread c u) r g s) rest gs f (λ u _. h u) (alike_next (thread c t) (f t) a rs (gs t) G k e))

      own_read : (n x v : ℕ) → Alike (thread c t) (Read n x v ∷ rs) (gs t) (f t) → (b : Bool) → holds x (gs t) ≡ b
          → as_comes (plan_read next t rest gs n x rs b).order ≡ replicate (comes (Read n x v) (f t)) (come_of t) ++ order_along c is (upd f t (performed (Read n x v) (f t)))
      own_read n x v k true q =
          let hs = (f t).hosts in
          waits (Read n x v) (joins n x (gs t)) k (read_joins x (gs t) hs k.hosts n q)
          ∙ ap (λ m. replicate m (come_of t) ++ order_along c is (upd f t (performed (Read n x v) (f t))))
          (sym (unhosted-some (stay x hs) (read_hosted x (gs t) hs k.hosts q)))
      own_read n x v k false q =
          let hs = (f t).hosts in
          ap {B = List Item} (λ l. come_of t ∷ l) (comes-now (Read n x v) k (read_stays x (gs t) hs k.hosts q))
          ∙ ap (λ m. replicate (unhosted m) (come_of t) ++ order_along c is (upd f t (performed (Read n x v) (f t))))
          (sym (read_comes x (gs t) hs k.hosts q))

      own-action : (a : Action) → Alike (thread c t) (a ∷ rs) (gs t) (f t)
          → as_comes (plan_perform next t rest gs (a ∷ rs)).order ≡ replicate (comes a (f t)) (come_of t) ++ order_along c is (upd f t (performed a (f t)))
      own-action (Write n x) k = waits (Write n x) (gs t ++ (group n x [] ∷ [])) k (write-waits n x (gs t) (f t).hosts k.hosts)
      own-action (Read n x v) k = own_read n x v k (holds x (gs t)) refl
      own-action (Sync n j o) k = ap {B = List Item} (λ l. come_of t ∷ l) (comes-now (Sync n j o) k k.hosts)

    abbrev does : Option Action → List Item
    does o = replicate (comes_next o (f t)) (come_of t) ++ order_along c is (upd f t (performed_next o (f t)))

    item-perform : (rs : List Action) → Alike (thread c t) rs (gs t) (f t)
        → as_comes (plan_perform next t rest gs rs).order ≡ does (slice_get (thread c t) (f t).place)
    item-perform [] k =
        tells rest gs (upd f t (f t)) (on₁ t (λ u s. Alike (thread c u) (rest u) (gs u) s) f (λ u _. h u) (h t))
        ∙ ap does (sym (alike_none (thread c t) (f t) (gs t) k))
    item-perform (a ∷ rs) k =
        own-action rs a k ∙ ap does (sym (next-some (thread c t) (f t).place a rs (sym k.left)).0)

    -- ── Thread t drains ──
    item-drain : (G : List Group) → gs t ≡ G
        → as_comes (plan_drain next t rest gs G).order ≡ replicate (leaving (f t).hosts) (come_of t) ++ order_along c is (upd f t (drained (f t)))
    item-drain [] e =
        let none = sym (h t).hosts ∙ ap hosts_of e in
        tells rest gs (upd f t (drained (f t)))
        (on₁ t (λ u s. Alike (thread c u) (rest u) (gs u) s) f (λ u _. h u)
        (record { left = (h t).left; hosts = ap hosts_of e ∙ ap younger (sym none) }))
        ∙ ap (λ hs. replicate (leaving hs) (come_of t) ++ order_along c is (upd f t (drained (f t)))) (sym none)
    item-drain (group w y ns ∷ hs) e =
        let k : Alike (thread c t) (rest t) (group w y ns ∷ hs) (f t) = record { left = (h t).left; hosts = ap hosts_of (sym e) ∙ (h t).hosts } in
        ap {B = List Item} (λ l. come_of t ∷ l)
        (each-comes t ns (next rest (upd gs t hs)).order
        ∙ ap (λ l. replicate (length ns) (come_of t) ++ l)
        (tells rest (upd gs t hs) (upd f t (drained (f t)))
        (on₂ t (λ u g s. Alike (thread c u) (rest u) g s) gs f (λ u _. h u) (alike_drained (thread c t) (f t) (rest t) (group w y ns) hs k))))
        ∙ ap (λ gs. replicate (leaving gs) (come_of t) ++ order_along c is (upd f t (drained (f t)))) k.hosts

  -- ── Item by item ──
  pub order-along : (is : List Item) → Tells (plan 8 (run_items is)) is
  order-along [] rest gs f h = flushed-comes 8 0 gs f (λ u. (h u).hosts)
  order-along (i ∷ is) rest gs f h = go (run_item i) (λ r g s k. order-along is r g s k)
    where
      go : (o : Option RunItem) → Tells (plan 8 (run_items is)) is
          → as_comes (plan 8 (one o ++ run_items is) rest gs).order ≡ step_comes c o f ++ order_along c is (step_all c o f)
      go None tells = tells rest gs f h
      go (Some (Perform t)) tells = item-perform (plan 8 (run_items is)) is tells rest gs f h t (rest t) (h t)
      go (Some (Drain t)) tells = item-drain (plan 8 (run_items is)) is tells rest gs f h t (gs t) refl
