-- 17: the life of a thread, along the turns.
use Rattle.std.specs.Prelude.{◌≡◌, ℕ, ◌<◌, Bool, cond, not, ◌&&◌, ◌||◌, List, length, is_some, Some, None, codes, Option, ◌==◌, slice_index_or}
use Rattle.records.specs.declared.Record.{Record}
use Rattle.records.specs.First.{some}
use Rattle.records.specs.Letters.{letter, among}
use Rattle.form.specs.declared.life.Life.{Life}
use Rattle.form.specs.declared.life.Life.TheVariants.{Unborn, Ready, Running, Ended}
use Rattle.form.specs.Turns.{turn}

-- the thread that the letter concerns: S and J their target, B and E their own
abbrev pub subject : Record → ℕ
subject r = cond (among r.letter (codes "SJ")) r.target r.thread

-- the turn that comes when m have passed is this letter, for thread u
abbrev pub happens : List Record → ℕ → ℕ → ℕ → Bool
happens xs c u m = (turn xs m).letter == c && subject (turn xs m) == u

-- within the first n turns thread u was spawned, began, ended; thread 0 needs no spawn
abbrev pub spawned : List Record → ℕ → ℕ → Bool
spawned xs u n = u == 0 || some (happens xs (letter "S") u) n

abbrev pub begun : List Record → ℕ → ℕ → Bool
begun xs u n = some (happens xs (letter "B") u) n

abbrev pub ended : List Record → ℕ → ℕ → Bool
ended xs u n = some (happens xs (letter "E") u) n

abbrev pub life_of : Bool → Bool → Bool → Life
life_of hasEnded hasBegun isSpawned = cond hasEnded Ended (cond hasBegun Running (cond isSpawned Ready Unborn))

-- the state of thread u after n turns
abbrev pub life : List Record → ℕ → ℕ → Life
life xs u n = life_of (ended xs u n) (begun xs u n) (spawned xs u n)

-- the states of the eight threads after n turns
abbrev pub Lived : List Record → ℕ → List Life → Type 0
Lived xs n lives = (length lives ≡ 8) × ((u : ℕ) → u < 8 → slice_index_or lives u Unborn ≡ life xs u n)

-- what a letter turns a state into, where they fit; only S, J, B and E concern a thread's life
abbrev pub next : Life → ℕ → Option Life
next Unborn c = cond (c == (letter "S")) (Some Ready) None
next Ready c = cond (c == (letter "B")) (Some Running) None
next Running c = cond (c == (letter "E")) (Some Ended) None
next Ended c = cond (c == (letter "J")) (Some Ended) None

abbrev pub concerns_life : ℕ → Bool
concerns_life c = among c (codes "SJBE")

-- the turn that comes after n does not fit the state of the thread that it concerns
abbrev pub misfits : List Record → ℕ → Bool
misfits xs n = concerns_life (turn xs n).letter && not (is_some (next (life xs (subject (turn xs n)) n) (turn xs n).letter))
