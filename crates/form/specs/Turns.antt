-- The capitals of a case in the order of their turns. Turn n + 1 is the one that comes when n turns have passed.
use Rattle.std.specs.Prelude.{◌≡◌, ℕ, suc, ◌+◌, Bool, true, not, ◌&&◌, List, length, Some, None, Option, ◌==◌}
use Rattle.records.specs.declared.Record.{Record}
use Rattle.records.specs.First.{first}
use Rattle.records.specs.Letters.{is_capital}
use Rattle.records.specs.Names.{blank, at}

-- whether the record at k is the capital of turn t
abbrev pub has_turn : List Record → ℕ → ℕ → Bool
has_turn xs t k = is_capital (at xs k).letter && (at xs k).turn == t

-- the record that comes when n turns have passed, by its index and itself; a turn that nobody has is blank
abbrev pub place_of : List Record → ℕ → Option ℕ
place_of xs n = first (has_turn xs (suc n)) (length xs)

abbrev pub record_at : List Record → Option ℕ → Record
record_at xs None = blank
record_at xs (Some k) = at xs k

abbrev pub turn : List Record → ℕ → Record
turn xs n = record_at xs (place_of xs n)

-- the index of the record whose turn was found to break a rule
abbrev pub placed : List Record → Option ℕ → Option ℕ
placed xs None = None
placed xs (Some n) = place_of xs n

-- whichever turn a record comes at: it fits if it does not break the rule, and then what is kept is kept of that turn too
abbrev pub Follows : {S : Type 0} → (List Record → ℕ → Bool) → (List Record → ℕ → S → Type 0) → Record → S → Bool → S → Type 0
Follows breaks Kept r before fits after =
    (xs : List Record) (n : ℕ) → turn xs n ≡ r → Kept xs n before
    → (fits ≡ not (breaks xs n)) × (fits ≡ true → Kept xs (n + 1) after)
