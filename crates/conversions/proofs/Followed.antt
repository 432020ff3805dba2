-- One thread by the plan and along the run: what it has left, and what waits in it.
use Rattle.std.proofs.Common.{◌≡◌, ℕ, zero, suc, ◌<◌, true, false, List, [], ◌∷◌, ◌++◌, drop, Some, None, sym, refl, ap, ◌∙◌}
use Rattle.std.specs.List.{slice_get}
use Rattle.std.proofs.lemmas.List.{map_push}
use Rattle.records.specs.declared.action.Action.{Action}
use Rattle.agreement.specs.Convert.{Group, group, holds, joins}
use Rattle.agreement.proofs.Updates.{cons≢nil}
use Rattle.machines.specs.Windows.{younger}
use Rattle.conversions.specs.declared.hosts.Host.{Host}
use Rattle.conversions.specs.Hosts.{new_host, stay, joins_at}
use Rattle.conversions.specs.Along.{Own, performed, drained}
use Rattle.conversions.proofs.Hosted.{host_of, hosts_of, positive, positive-some, positive-none, holds-stay, joins-hosts}

-- ── The next action of what is left ──
next-none : (l : List Action) (p : ℕ) → drop p l ≡ [] → slice_get l p ≡ None
next-none [] p e = refl
next-none (a ∷ l) zero e = absurd (cons≢nil a l e)
next-none (a ∷ l) (suc p) e = next-none l p e

pub next-some : (l : List Action) (p : ℕ) (a : Action) (rs : List Action) → drop p l ≡ a ∷ rs → (slice_get l p ≡ Some a) × (drop (suc p) l ≡ rs)
next-some [] zero a rs e = absurd (cons≢nil a rs (sym e))
next-some [] (suc p) a rs e = absurd (cons≢nil a rs (sym e))
next-some (b ∷ l) zero a rs e = (let q : b ≡ a = cc in ap (λ (x : Action). Some x) q, let q : l ≡ rs = cc in q)
next-some (b ∷ l) (suc p) a rs e = next-some l p a rs e

-- ── What a thread has left and what waits in it, by the plan and along the run ──
pub record Alike (l rest : List Action) (gs : List Group) (s : Own) : Type 0 where
  pub left : rest ≡ drop s.place l
  pub hosts : hosts_of gs ≡ s.hosts

-- the state after the next action, or after a drain
module _ (l : List Action) (s : Own) where
  pub alike_none : (gs : List Group) → Alike l [] gs s → (slice_get l s.place ≡ None)
  alike_none gs h = next-none l s.place (sym h.left)

  pub alike_next : (a : Action) (rs : List Action) (gs gs' : List Group) → Alike l (a ∷ rs) gs s
      → hosts_of gs' ≡ (performed a s).hosts → Alike l rs gs' (performed a s)
  alike_next a rs gs gs' h e = record { left = sym (next-some l s.place a rs (sym h.left)).1; hosts = e }

  pub alike_drained : (rest : List Action) (g : Group) (gs : List Group) → Alike l rest (g ∷ gs) s → Alike l rest gs (drained s)
  alike_drained rest g gs h = record { left = h.left; hosts = ap younger h.hosts }

  pub alike_empty : (rest : List Action) → Alike l rest [] s → Alike l rest [] (drained s)
  alike_empty rest h = record { left = h.left; hosts = ap younger h.hosts }

-- where a read goes: it joins a group, or no group is to x
module _ (x : ℕ) (gs : List Group) (hs : List Host) (e : hosts_of gs ≡ hs) where
  pub read_hosted : holds x gs ≡ true → 0 < stay x hs
  read_hosted h = positive-some (stay x hs) (ap (λ l. positive (stay x l)) (sym e) ∙ sym (holds-stay x gs) ∙ h)

  pub read_comes : holds x gs ≡ false → stay x hs ≡ 0
  read_comes h = positive-none (stay x hs) (ap (λ l. positive (stay x l)) (sym e) ∙ sym (holds-stay x gs) ∙ h)

  pub read_joins : (n : ℕ) → holds x gs ≡ true → hosts_of (joins n x gs) ≡ joins_at (stay x hs) hs
  read_joins n h = joins-hosts n x gs h ∙ ap (λ l. joins_at (stay x l) l) e

  pub read_stays : holds x gs ≡ false → hosts_of gs ≡ joins_at (stay x hs) hs
  read_stays h = e ∙ ap (λ n. joins_at n hs) (sym (read_comes h))

pub write-waits : (n x : ℕ) (gs : List Group) (hs : List Host) → hosts_of gs ≡ hs → hosts_of (gs ++ (group n x [] ∷ [])) ≡ hs ++ (new_host x ∷ [])
write-waits n x gs hs e = map_push host_of gs (group n x []) ∙ ap (λ l. l ++ (new_host x ∷ [])) e
