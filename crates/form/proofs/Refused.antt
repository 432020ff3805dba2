-- What the check of one rule answers, where a loop stops at the first place that breaks it or goes through.
use Rattle.std.proofs.Common.{◌≡◌, ℕ, ◌<◌, ◌≤◌, Bool, true, Some, None, ap}
use Rattle.records.specs.First.{first, Clear}
use Rattle.records.specs.Refusals.{refusal, refuse}
use Rattle.records.proofs.Firsts.{first-none, first_some}

pub refused_at : (n : ℕ) (breaks : ℕ → Bool) (l k : ℕ) → k < l → true ≡ breaks k → Clear breaks k → Some (refusal n k) ≡ refuse n (first breaks l) None
refused_at n breaks l k b t h = ap (λ o. refuse n o None) (first_some breaks l k b t h)

pub passed_all : (n : ℕ) (breaks : ℕ → Bool) (l i : ℕ) → l ≤ i → Clear breaks i → None ≡ refuse n (first breaks l) None
passed_all n breaks l i le h = ap (λ o. refuse n o None) (first-none breaks l i le h)
