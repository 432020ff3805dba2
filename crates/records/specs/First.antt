-- The first place that a test marks, and whether there is one.
use Rattle.std.specs.Prelude.{◌≡◌, ℕ, zero, suc, ◌<◌, Bool, false, cond, is_some, Some, None, Option}

-- of the n places from i on
abbrev pub first_from : (ℕ → Bool) → ℕ → ℕ → Option ℕ
first_from f i zero = None
first_from f i (suc n) = cond (f i) (Some i) (first_from f (suc i) n)

-- of the places below n
abbrev pub first : (ℕ → Bool) → ℕ → Option ℕ
first f n = first_from f 0 n

abbrev pub some : (ℕ → Bool) → ℕ → Bool
some f n = is_some (first f n)

-- the test marks no place below n
abbrev pub Clear : (ℕ → Bool) → ℕ → Type 0
Clear f n = (k : ℕ) → k < n → f k ≡ false
