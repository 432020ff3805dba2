-- The desk's replies keep the law of runs: the plain docket's list is what calls and replies say, and settlings rule on it.
use Rattle.std.proofs.Common.{◌≡◌, ℕ, List, [], ◌∷◌, sym, subst, arith}
use Rattle.machines.specs.Machine.{Machine}
use Rattle.docket.specs.declared.calls.Call.{Call}
use Rattle.docket.specs.declared.calls.Call.TheVariants.{Open, Offer, Settle, Withdraw}
use Rattle.docket.specs.Slots.{Desk, desk_reply, desk_next, replies}
use Rattle.docket.specs.Runs.{since, RuledAt, AllRuled}

module _ {S : Type 0} (m : Machine S) (number : ℕ) (e : Desk) where
  -- the plain docket's list is what calls and replies say
  kept : (c : Call) → since e.plain.items c (desk_reply m number e c) ≡ (desk_next m number e c).plain.items
  kept c = grind arith

  -- settlings rule on it
  ruled : (c : Call) → RuledAt m e.plain.items c (desk_reply m number e c)
  ruled (Open k) = tt
  ruled (Offer k i) = tt
  ruled (Settle k) = grind arith
  ruled (Withdraw k) = tt

pub all-ruled : {S : Type 0} (m : Machine S) (number : ℕ) (e : Desk) (cs : List Call) → AllRuled m e.plain.items cs (replies m number e cs)
all-ruled m number e [] = tt
all-ruled m number e (c ∷ cs) =
    (ruled m number e c, subst (λ l. AllRuled m l cs (replies m number (desk_next m number e c) cs)) (sym (kept m number e c)) (all-ruled m number (desk_next m number e c) cs))
