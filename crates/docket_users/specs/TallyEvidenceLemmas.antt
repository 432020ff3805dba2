use Rattle.std.specs.Prelude.{◌≡◌, ℕ, zero, suc, ◌+◌, ◌-◌, ◌<◌, ◌≤◌, length, replicate, Ok}
use Rattle.std.proofs.Common.{ap, ◌∙◌, arith, lt-ltb, length-take}
use Rattle.std.proofs.lemmas.Bool.{cond-true}
use Rattle.std.proofs.lemmas.Bool.Decides.{nat_tests}
use Rattle.records.specs.declared.Item.{Item}
use Rattle.case.specs.declared.checked.CheckedCase.{CheckedCase}
use Rattle.case.specs.Cases.{records_of}
use Rattle.machines.specs.Machine.{feed}
use Rattle.docket_users.specs.Tallies.{tally_step}

pub item_a : Item
item_a = record { letter = 65; thread = 0; place = 0; count = 0 }

pub all-taken : (n m s : ℕ) → s + m ≤ n → feed (tally_step n) (Ok s) (replicate m item_a) ≡ Ok (s + m)
unfolding item_a
all-taken n zero s h = ap Ok (omega arith)
all-taken n (suc m) s h =
    let stepped : tally_step n s item_a ≡ Ok (s + 1) = cond-true _ _ _ (lt-ltb s n (omega arith)) in
    ap (λ o. feed (tally_step n) o (replicate m item_a)) stepped ∙ all-taken n m (s + 1) (omega arith) ∙ ap Ok (omega arith)

pub falls : (n s u : ℕ) (i : Item) → tally_step n s i ≡ Ok u → n - u < n - s
falls n s u i e = grind (arith, nat_tests)

pub few : (k : CheckedCase) → length (records_of k) ≤ 256
few k = simp length-take (omega (arith, k.within))
