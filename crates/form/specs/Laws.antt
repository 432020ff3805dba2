-- What holds of a case in form, in the words of the subject. Later layers use these laws and not the rules' text.
use Rattle.std.specs.Prelude.{◌≡◌, ℕ, ◌<◌, ◌≤◌, true, ◌⊎◌, ◌↔◌, List, length, is_some, ◌≢◌}
use Rattle.records.specs.declared.Record.{Record}
use Rattle.records.specs.Actions.{action_of}
use Rattle.records.specs.Letters.{letter, is_capital, is_plain, is_volatile, is_read, is_write}
use Rattle.records.specs.Names.{at, of_thread, place, name, default}
use Rattle.form.specs.Rules.{capitals}

-- the record at k is a capital with turn t
abbrev pub Takes : List Record → ℕ → ℕ → Type 0
Takes xs t k = (k < length xs) × (is_capital (at xs k).letter ≡ true) × ((at xs k).turn ≡ t)

-- the record at k writes location x under this name
abbrev pub WriteNamed : List Record → ℕ → ℕ → ℕ → Type 0
WriteNamed xs x n k = (k < length xs) × (is_write (at xs k).letter ≡ true) × ((at xs k).target ≡ x) × (name xs k ≡ n)

pub record Lawful (xs : List Record) : Type 0 where
  -- at most 256 records, each of which is an action of one of eight threads
  pub few : length xs ≤ 256
  pub is_action : (k n : ℕ) → k < length xs → is_some (action_of n (at xs k)) ≡ true
  pub thread_small : (k : ℕ) → k < length xs → (at xs k).thread < 8
  -- grouped by thread, at most 64 of each
  pub grouped : (j k : ℕ) → j < k → k < length xs → (at xs j).thread ≤ (at xs k).thread
  pub thread_few : (t : ℕ) → length (of_thread t xs) ≤ 64
  -- no two records have one name
  pub name_once : (j k : ℕ) → j < length xs → k < length xs → name xs j ≡ name xs k → j ≡ k
  -- the turns are 1 to the number of capitals, each taken by exactly one, and rise in each thread
  pub turn_low : (t k : ℕ) → Takes xs t k → (1 ≤ t) × (t ≤ capitals xs)
  pub turn_taken : (t : ℕ) → 1 ≤ t → t ≤ capitals xs → (k : ℕ) × Takes xs t k
  pub turn_once : (t j k : ℕ) → Takes xs t j → Takes xs t k → j ≡ k
  pub turn_rises : (s t j k : ℕ) → j < k → (at xs j).thread ≡ (at xs k).thread → Takes xs s j → Takes xs t k → s < t
  -- a read saw the default write of its location, or a write to it
  pub seen_write : (k : ℕ) → k < length xs → is_read (at xs k).letter ≡ true → ((at xs k).seen ≡ default (at xs k).target) ⊎ ((j : ℕ) × WriteNamed xs (at xs k).target (at xs k).seen j)
  -- no location is both plain and volatile
  pub one_sort : (j k : ℕ) → j < length xs → k < length xs → is_plain (at xs j).letter ≡ true → is_volatile (at xs k).letter ≡ true → (at xs j).target ≢ (at xs k).target
  -- B is the first action of each thread and no other, and nothing comes after E
  pub begin_first : (k : ℕ) → k < length xs → (place xs k ≡ 0) ↔ ((at xs k).letter ≡ letter "B")
  pub end_last : (j k : ℕ) → j < k → k < length xs → (at xs j).thread ≡ (at xs k).thread → (at xs j).letter ≢ letter "E"
