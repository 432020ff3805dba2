-- The rules that are looked for along the list of records: for each, whether the record at k breaks it.
use Rattle.std.specs.Prelude.{◌≡◌, ℕ, zero, suc, ◌<◌, Bool, true, false, cond, not, ◌&&◌, ◌||◌, List, length, Some, None, codes, filter, Option, ◌==◌, nat_le, nat_lt}
use Rattle.records.specs.declared.Record.{Record}
use Rattle.records.specs.First.{some}
use Rattle.records.specs.Letters.{letter, among, is_capital, is_plain, is_volatile, is_read, is_write}
use Rattle.records.specs.Names.{at, place, default, record_named}
use Rattle.form.specs.declared.rules.Sort.{Sort}
use Rattle.form.specs.declared.rules.Sort.TheVariants.{Plain, Volatile}
use Rattle.form.specs.declared.rules.Frame.{Frame}
use Rattle.form.specs.declared.rules.Frame.TheVariants.{Before, Within, After}

-- ── 11: grouped by thread ──
-- the thread of the record before, 0 ahead of the first
abbrev pub before : List Record → ℕ → ℕ
before xs zero = 0
before xs (suc k) = (at xs k).thread

-- the 257th record, or a thread t above 7 or falling
abbrev pub stray : ℕ → ℕ → ℕ → Bool
stray k t last = nat_le 256 k || (nat_lt 7 t || nat_lt t last)

-- a stray record, or the 65th of its thread
abbrev pub misplaced : List Record → ℕ → Bool
misplaced xs k = stray k (at xs k).thread (before xs k) || nat_le 64 (place xs k)

-- ── 12: fields as the letter says ──
-- the largest target of a letter
abbrev pub limit : ℕ → Option ℕ
limit c =
    cond (among c (codes "rwRW")) (Some 63)
    (cond (among c (codes "LU")) (Some 15)
    (cond (among c (codes "SJ")) (Some 7)
    (cond (among c (codes "BE")) (Some 0) None)))

abbrev pub within : ℕ → Option ℕ → Bool
within x None = false
within x (Some most) = nat_le x most

-- a field that the letter does not use is 0
abbrev pub used_or_zero : Bool → ℕ → Bool
used_or_zero used x = used || x == 0

-- a capital's turn is 1 to 256
abbrev pub turn_fits : Record → Bool
turn_fits r = cond (is_capital r.letter) (nat_le 1 r.turn && nat_le r.turn 256) (r.turn == 0)

abbrev pub well_formed : Record → Bool
well_formed r =
    within r.target (limit r.letter)
    && (used_or_zero (is_write r.letter) r.value && (used_or_zero (is_read r.letter) r.seen && turn_fits r))

abbrev pub malformed : List Record → ℕ → Bool
malformed xs k = not (well_formed (at xs k))

-- what 11 and 12 leave of a record alone: one of the eight threads, and fields as the letter says
abbrev pub InRange : Record → Type 0
InRange r = (r.thread < 8) × (well_formed r ≡ true)

-- ── 13: plain and volatile locations do not mix ──
-- the sort of location that a letter accesses
abbrev pub sort_of : ℕ → Option Sort
sort_of c = cond (is_plain c) (Some Plain) (cond (is_volatile c) (Some Volatile) None)

-- an access of this sort to location x
abbrev pub accesses : (ℕ → Bool) → List Record → ℕ → ℕ → Bool
accesses sort xs x j = sort (at xs j).letter && (at xs j).target == x

-- an earlier record accesses the location as one of the other sort
abbrev pub mixed : List Record → ℕ → Bool
mixed xs k =
    (is_plain (at xs k).letter && some (accesses is_volatile xs (at xs k).target) k)
    || (is_volatile (at xs k).letter && some (accesses is_plain xs (at xs k).target) k)

-- ── 14: seen is a write to that location, or its default ──
abbrev pub writes : List Record → ℕ → Option ℕ → Bool
writes xs x None = false
writes xs x (Some j) = is_write (at xs j).letter && (at xs j).target == x

abbrev pub sees_no_write : List Record → Record → Bool
sees_no_write xs r =
    is_read r.letter && not (r.seen == default r.target || writes xs r.target (record_named xs r.seen))

abbrev pub saw_no_write : List Record → ℕ → Bool
saw_no_write xs k = sees_no_write xs (at xs k)

-- ── 15: turns ──
abbrev pub capitals : List Record → ℕ
capitals xs = length (filter (λ r. is_capital r.letter) xs)

-- y is a capital that has the turn of x, or one of the same thread whose turn is later
abbrev pub clashes : Record → Record → Bool
clashes x y = is_capital y.letter && (x.turn == y.turn || (x.thread == y.thread && nat_lt x.turn y.turn))

-- a capital whose turn is above their number, is that of an earlier record, or is below an earlier one of its thread
abbrev pub mistimed : List Record → ℕ → Bool
mistimed xs k =
    is_capital (at xs k).letter && (nat_lt (capitals xs) (at xs k).turn || some (λ j. clashes (at xs k) (at xs j)) k)

-- ── 16: B comes first and nowhere else, nothing comes after E ──
abbrev pub of_same_thread : List Record → ℕ → ℕ → Bool
of_same_thread xs t j = (at xs j).thread == t

abbrev pub end_of : List Record → ℕ → ℕ → Bool
end_of xs t j = (at xs j).thread == t && (at xs j).letter == (letter "E")

-- B as a later record of its thread, or another letter as its first; or a record after the thread's E
abbrev pub misframed : List Record → ℕ → Bool
misframed xs k =
    cond (some (of_same_thread xs (at xs k).thread) k) ((at xs k).letter == (letter "B")) (not ((at xs k).letter == (letter "B")))
    || some (end_of xs (at xs k).thread) k

-- where a record of this letter leaves its thread, if the letter may come where the thread stands
abbrev pub frame_after : Frame → ℕ → Option Frame
frame_after Before c = cond (c == (letter "B")) (Some Within) None
frame_after Within c = cond (c == (letter "B")) None (cond (c == (letter "E")) (Some After) (Some Within))
frame_after After c = None
