-- The moves of one thread, followed along the run, are those that the plan has for it.
use Rattle.std.proofs.Common.{◌≡◌, ℕ, suc, ◌+◌, Bool, true, false, cond, eqb, ◌≢◌, List, [], ◌∷◌, ◌++◌, length, drop, Some, None, Option, sym, refl, ap, ◌∙◌, subst, ap₂, ⊎_elim, arith}
use Rattle.std.specs.List.{slice_get}
use Rattle.std.proofs.lemmas.List.{map-append}
use Rattle.std.proofs.lemmas.Bool.{cases_eq, eq-eqb, ne_eqb}
use Rattle.records.specs.declared.Item.{Item}
use Rattle.records.specs.declared.action.Action.{Action}
use Rattle.records.specs.declared.action.Action.TheVariants.{Read, Write, Sync}
use Rattle.machines.specs.declared.items.RunItem.{RunItem}
use Rattle.machines.specs.declared.items.RunItem.TheVariants.{Perform, Drain}
use Rattle.machines.specs.Items.{run_item, one}
use Rattle.machines.specs.Memory.{upd}
use Rattle.machines.specs.Windows.{younger}
use Rattle.agreement.specs.Convert.{Group, group, holds, joins, Mark, shift, shifts, passing, settling}
use Rattle.agreement.specs.Convert.{Plan, Planner, plan_read, plan_perform, plan_drain, plan}
use Rattle.agreement.specs.Evidence.{run_items}
use Rattle.machines.proofs.Tables.{upd_at, upd_off}
use Rattle.agreement.proofs.Shifts.{shifts-nil, shifts-append, shifts-more}
use Rattle.conversions.specs.Hosts.{new_host, width, stay, joins_at}
use Rattle.conversions.specs.Along.{Own, performed, drained, moves_before, moves_of, performed_next, moves_next}
use Rattle.conversions.specs.Along.{step_own, step_moves, moves_along}
use Rattle.conversions.proofs.Staying.{stay-within, width_append, width-joins}
use Rattle.conversions.proofs.Hosted.{hosts_of, move_item, as_moves, read-moves}
use Rattle.conversions.proofs.Followed.{next-some, Alike, alike_none, alike_next, alike_drained, alike_empty}
use Rattle.conversions.proofs.Followed.{read_hosted, read_comes, read_joins, read_stays, write-waits}

-- thread t has the actions l
module _ (N : ℕ) (l : List Action) (t : ℕ) where
  -- b actions come before all that wait
  pub record Follows (rest : ℕ → List Action) (gs : ℕ → List Group) (s : Own) (b : ℕ) : Type 0 where
    pub alike : Alike l (rest t) (gs t) s
    pub wide : b + width s.hosts ≡ s.place

  abbrev Tells : Planner → List Item → Type 0
  Tells next is =
      (rest : ℕ → List Action) (gs : ℕ → List Group) (s : Own) (b : ℕ) → Follows rest gs s b
      → as_moves t (shifts b ((next rest gs).marks t)) ≡ moves_along l t is s

  module _ (next : Planner) (is : List Item) (tells : Tells next is) where
    -- the plan goes on from a state that is rs and G at thread t
    onward : (rest : ℕ → List Action) (gs : ℕ → List Group) (rs : List Action) (G : List Group) (s : Own) (b : ℕ)
        → rest t ≡ rs → gs t ≡ G → Alike l rs G s → b + width s.hosts ≡ s.place
        → as_moves t (shifts b ((next rest gs).marks t)) ≡ moves_along l t is s
    onward rest gs rs G s b e q h w =
        tells rest gs s b (record { alike = record { left = e ∙ h.left; hosts = ap hosts_of q ∙ h.hosts }; wide = w })

    module _ (rest : ℕ → List Action) (gs : ℕ → List Group) (s : Own) (b : ℕ) (f : Follows rest gs s b) where
      -- ── Another thread ──
      module _ (u : ℕ) (ne : t ≢ u) where
        aside : (rs : List Action) (G : List Group) → as_moves t (shifts b ((next (upd rest u rs) (upd gs u G)).marks t)) ≡ moves_along l t is s
        aside rs G = onward (upd rest u rs) (upd gs u G) (rest t) (gs t) s b (upd_off rest u rs t ne) (upd_off gs u G t ne) f.alike f.wide

        aside-rest : (rs : List Action) → as_moves t (shifts b ((next (upd rest u rs) gs).marks t)) ≡ moves_along l t is s
        aside-rest rs = onward (upd rest u rs) gs (rest t) (gs t) s b (upd_off rest u rs t ne) refl f.alike f.wide

        unmarked : (p : Plan) (m : List Mark) → as_moves t (shifts b (upd p.marks u m t)) ≡ as_moves t (shifts b (p.marks t))
        unmarked p m = ap (λ k. as_moves t (shifts b k)) (upd_off p.marks u m t ne)

        other-read : (n x : ℕ) (rs : List Action) (k : Bool) → as_moves t (shifts b ((plan_read next u rest gs n x rs k).marks t)) ≡ moves_along l t is s
        other-read n x rs true = unmarked (next (upd rest u rs) (upd gs u (joins n x (gs u)))) _ ∙ aside rs (joins n x (gs u))
        other-read n x rs false = unmarked (next (upd rest u rs) gs) _ ∙ aside-rest rs

        other-perform : (rs : List Action) → as_moves t (shifts b ((plan_perform next u rest gs rs).marks t)) ≡ moves_along l t is s
        other-perform [] = tells rest gs s b f
        other-perform (Write n x ∷ rs) = aside rs (gs u ++ (group n x [] ∷ []))
        other-perform (Read n x v ∷ rs) = other-read n x rs (holds x (gs u))
        other-perform (Sync n k o ∷ rs) = unmarked (next (upd rest u rs) gs) _ ∙ aside-rest rs

        other-drain : (G : List Group) → as_moves t (shifts b ((plan_drain next u rest gs G).marks t)) ≡ moves_along l t is s
        other-drain [] = tells rest gs s b f
        other-drain (group w y ns ∷ hs) =
            unmarked (next rest (upd gs u hs)) _ ∙ onward rest (upd gs u hs) (rest t) (gs t) s b refl (upd_off gs u hs t ne) f.alike f.wide

      -- ── Thread t performs an action ──
      marked : (p : Plan) (m : List Mark) → as_moves t (shifts b (upd p.marks t m t)) ≡ as_moves t (shifts b m)
      marked p m = ap (λ k. as_moves t (shifts b k)) (upd_at p.marks t m)

      both : (ms ns : List Mark) → as_moves t (shifts b (ms ++ ns)) ≡ as_moves t (shifts b ms) ++ as_moves t (shifts b ns)
      both ms ns = ap (as_moves t) (shifts-append b ms ns) ∙ map-append (move_item t) (shifts b ms) (shifts b ns)

      module _ (rs : List Action) where
        -- it comes now: one more action comes before all that wait
        comes-now : (a : Action) → Alike l (a ∷ rs) (gs t) s → hosts_of (gs t) ≡ (performed a s).hosts → (performed a s).hosts ≡ s.hosts
            → as_moves t (shifts (b + 1) ((next (upd rest t rs) gs).marks t)) ≡ moves_along l t is (performed a s)
        comes-now a h e q =
            onward (upd rest t rs) gs rs (gs t) (performed a s) (b + 1) (upd_at rest t rs) refl (alike_next l s a rs (gs t) (gs t) h e)
            (let w = f.wide in let k = ap width q in omega arith)

        waits : (a : Action) (G : List Group) → Alike l (a ∷ rs) (gs t) s → hosts_of G ≡ (performed a s).hosts
            → width (performed a s).hosts ≡ suc (width s.hosts)
            → as_moves t (shifts b ((next (upd rest t rs) (upd gs t G)).marks t)) ≡ moves_along l t is (performed a s)
        waits a G h e k =
            onward (upd rest t rs) (upd gs t G) rs G (performed a s) b (upd_at rest t rs) (upd_at gs t G) (alike_next l s a rs (gs t) G h e)
            (let w = f.wide in omega arith)

        own_read : (n x v : ℕ) (k : Bool) → holds x (gs t) ≡ k → Alike l (Read n x v ∷ rs) (gs t) s
            → as_moves t (shifts b ((plan_read next t rest gs n x rs k).marks t)) ≡ moves_of t (Read n x v) s ++ moves_along l t is (performed (Read n x v) s)
        own_read n x v k e h = go k e
          where
            passed : (k : Bool) → holds x (gs t) ≡ k → as_moves t (shifts b (cond k (settling x (gs t)) (passing (gs t)))) ≡ moves_of t (Read n x v) s
            passed k q =
                ap (λ z. as_moves t (shifts b (cond z (settling x (gs t)) (passing (gs t))))) (sym q)
                ∙ read-moves t b s.place x (gs t) (ap (λ z. b + width z) h.hosts ∙ f.wide)
                ∙ ap (λ z. moves_before t s.place (drop (stay x z) z)) h.hosts

            go : (k : Bool) → holds x (gs t) ≡ k
                → as_moves t (shifts b ((plan_read next t rest gs n x rs k).marks t)) ≡ moves_of t (Read n x v) s ++ moves_along l t is (performed (Read n x v) s)
            go true q =
                let p = next (upd rest t rs) (upd gs t (joins n x (gs t))) in
                marked p (settling x (gs t) ++ p.marks t) ∙ both (settling x (gs t)) (p.marks t)
                ∙ ap₂ {C = List Item} ◌++◌ (passed true q)
                (waits (Read n x v) (joins n x (gs t)) h (read_joins x (gs t) s.hosts h.hosts n q)
                (width-joins (stay x s.hosts) s.hosts (read_hosted x (gs t) s.hosts h.hosts q) (stay-within x s.hosts)))
            go false q =
                let p = next (upd rest t rs) gs in
                marked p (passing (gs t) ++ shift (p.marks t)) ∙ both (passing (gs t)) (shift (p.marks t))
                ∙ ap₂ {C = List Item} ◌++◌ (passed false q)
                (ap (as_moves t) (shifts-more b 1 (p.marks t))
                ∙ comes-now (Read n x v) h (read_stays x (gs t) s.hosts h.hosts q)
                (ap (λ z. joins_at z s.hosts) (read_comes x (gs t) s.hosts h.hosts q)))

        own-action : (a : Action) → Alike l (a ∷ rs) (gs t) s
            → as_moves t (shifts b ((plan_perform next t rest gs (a ∷ rs)).marks t)) ≡ moves_of t a s ++ moves_along l t is (performed a s)
        own-action (Write n x) h =
            waits (Write n x) (gs t ++ (group n x [] ∷ [])) h (write-waits n x (gs t) s.hosts h.hosts)
            (let w = width_append s.hosts (new_host x ∷ []) in omega arith)
        own-action (Read n x v) h = own_read n x v (holds x (gs t)) refl h
        own-action (Sync n k o) h =
            let p = next (upd rest t rs) gs in
            marked p (shift (p.marks t)) ∙ ap (as_moves t) (shifts-more b 1 (p.marks t)) ∙ comes-now (Sync n k o) h h.hosts refl

      own-perform : (rs : List Action) → Alike l rs (gs t) s
          → as_moves t (shifts b ((plan_perform next t rest gs rs).marks t))
          ≡ moves_next t (slice_get l s.place) s ++ moves_along l t is (performed_next (slice_get l s.place) s)
      own-perform [] h =
          tells rest gs s b f
          ∙ ap (λ o. moves_next t o s ++ moves_along l t is (performed_next o s)) (sym (alike_none l s (gs t) h))
      own-perform (a ∷ rs) h =
          own-action rs a h
          ∙ ap (λ o. moves_next t o s ++ moves_along l t is (performed_next o s)) (sym (next-some l s.place a rs (sym h.left)).0)

      -- ── Thread t drains ──
      own-drain : (G : List Group) → gs t ≡ G → Alike l (rest t) G s
          → as_moves t (shifts b ((plan_drain next t rest gs G).marks t)) ≡ moves_along l t is (drained s)
      own-drain [] e h =
          onward rest gs (rest t) [] (drained s) b refl e (alike_empty l s (rest t) h)
          (let w = f.wide in let k = ap width (sym h.hosts) in let z = ap (λ z. width (younger z)) (sym h.hosts) in omega arith)
      own-drain (group w y ns ∷ hs) e h =
          let p = next rest (upd gs t hs) in
          marked p (shifts (suc (length ns)) (p.marks t)) ∙ ap (as_moves t) (shifts-more b (suc (length ns)) (p.marks t))
          ∙ onward rest (upd gs t hs) (rest t) hs (drained s) (b + suc (length ns)) refl (upd_at gs t hs)
          (alike_drained l s (rest t) (group w y ns) hs h)
          (let v = f.wide in let k = ap width (sym h.hosts) in let z = ap (λ z. width (younger z)) (sym h.hosts) in omega arith)

      -- ── An item ──
      item-perform : (u : ℕ) → as_moves t (shifts b ((plan_perform next u rest gs (rest u)).marks t))
          ≡ step_moves l t (Some (Perform u)) s ++ moves_along l t is (step_own l t (Some (Perform u)) s)
      item-perform u = ⊎_elim same other (cases_eq u t)
        where
          does : Bool → List Item
          does k = cond k (moves_next t (slice_get l s.place) s) [] ++ moves_along l t is (cond k (performed_next (slice_get l s.place) s) s)

          same : u ≡ t → as_moves t (shifts b ((plan_perform next u rest gs (rest u)).marks t)) ≡ does (eqb u t)
          same e =
              subst (λ v. as_moves t (shifts b ((plan_perform next v rest gs (rest v)).marks t)) ≡ does (eqb v t)) (sym e)
              (own-perform (rest t) f.alike ∙ ap does (sym (eq-eqb t t refl)))

          other : u ≢ t → as_moves t (shifts b ((plan_perform next u rest gs (rest u)).marks t)) ≡ does (eqb u t)
          other ne = other-perform u (λ e. ne (sym e)) (rest u) ∙ ap does (sym (ne_eqb u t ne))

      item-drain : (u : ℕ) → as_moves t (shifts b ((plan_drain next u rest gs (gs u)).marks t)) ≡ moves_along l t is (step_own l t (Some (Drain u)) s)
      item-drain u = ⊎_elim same other (cases_eq u t)
        where
          does : Bool → List Item
          does k = moves_along l t is (cond k (drained s) s)

          same : u ≡ t → as_moves t (shifts b ((plan_drain next u rest gs (gs u)).marks t)) ≡ does (eqb u t)
          same e =
              subst (λ v. as_moves t (shifts b ((plan_drain next v rest gs (gs v)).marks t)) ≡ does (eqb v t)) (sym e)
              (own-drain (gs t) refl f.alike ∙ ap does (sym (eq-eqb t t refl)))

          other : u ≢ t → as_moves t (shifts b ((plan_drain next u rest gs (gs u)).marks t)) ≡ does (eqb u t)
          other ne = other-drain u (λ e. ne (sym e)) (gs u) ∙ ap does (sym (ne_eqb u t ne))

  -- ── Item by item ──
  pub moves-along : (is : List Item) → Tells (plan N (run_items is)) is
  moves-along [] rest gs s b f = ap (as_moves t) (shifts-nil b)
  moves-along (i ∷ is) rest gs s b f = go (run_item i) (λ r g o k h. moves-along is r g o k h)
    where
      go : (o : Option RunItem) → Tells (plan N (run_items is)) is
          → as_moves t (shifts b ((plan N (one o ++ run_items is) rest gs).marks t)) ≡ step_moves l t o s ++ moves_along l t is (step_own l t o s)
      go None tells = tells rest gs s b f
      go (Some (Perform u)) tells = item-perform (plan N (run_items is)) is tells rest gs s b f u
      go (Some (Drain u)) tells = item-drain (plan N (run_items is)) is tells rest gs s b f u
