-- A refusal as a reader of the answer sees it: its number, and the place that it names.
use Rattle.std.specs.Prelude.{ℕ, Some, None, Option}

pub record Refusal : Type 0 where
  pub number : ℕ
  pub place : ℕ

abbrev pub refusal : ℕ → ℕ → Refusal
refusal n k = record { number = n; place = k }

-- refused by this number at the place found, if one was found; else what comes next
abbrev pub refuse : ℕ → Option ℕ → Option Refusal → Option Refusal
refuse n None next = next
refuse n (Some p) next = Some (refusal n p)
