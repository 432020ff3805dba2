-- 18: who holds a monitor, along the turns.
use Rattle.std.specs.Prelude.{◌≡◌, ℕ, zero, suc, ◌<◌, Bool, false, cond, not, ◌&&◌, List, length, is_some, Some, None, Option, ◌==◌, slice_index_or}
use Rattle.records.specs.declared.Record.{Record}
use Rattle.records.specs.Letters.{letter}
use Rattle.form.specs.Turns.{turn}

-- who holds monitor m after this record, if h held it before
abbrev pub held_after : Record → ℕ → Option ℕ → Option ℕ
held_after r m h =
    cond (r.letter == (letter "L") && r.target == m) (Some r.thread)
    (cond (r.letter == (letter "U") && r.target == m) None h)

-- the holder of monitor m after n turns: the thread of its last L, unless a U came since
abbrev pub holder : List Record → ℕ → ℕ → Option ℕ
holder xs m zero = None
holder xs m (suc n) = held_after (turn xs n) m (holder xs m n)

-- who holds each of the sixteen monitors after n turns
abbrev pub Held : List Record → ℕ → List (Option ℕ) → Type 0
Held xs n holders = (length holders ≡ 16) × ((m : ℕ) → m < 16 → slice_index_or holders m None ≡ holder xs m n)

abbrev pub holds : ℕ → Option ℕ → Bool
holds t None = false
holds t (Some u) = u == t

-- L of a monitor that is held, U by a thread that does not hold it
abbrev pub locks_wrongly : Record → Option ℕ → Bool
locks_wrongly r h =
    cond (r.letter == (letter "L")) (is_some h) (cond (r.letter == (letter "U")) (not (holds r.thread h)) false)

abbrev pub mislocks : List Record → ℕ → Bool
mislocks xs n = locks_wrongly (turn xs n) (holder xs (turn xs n).target n)
