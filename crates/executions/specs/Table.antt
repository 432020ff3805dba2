-- The executions worked through in docs/EXECUTIONS.md, in one table: the records and the items of each piece of evidence,
-- and beside them what the page prints of it. `stand` computes the same by the definitions of the layers, and compares.
use Rattle.std.specs.Prelude.{◌≡◌, ℕ, Bool, true, false, ◌&&◌, List, [], ◌∷◌, ◌++◌, map, length, Some, None, codes, Option, ◌==◌}
use Prim.Native.String.{String}
use Rattle.std.specs.List.{range_with_len}
use Rattle.std.specs.Str.{bytes_eq}
use Rattle.records.specs.declared.Item.{Item}
use Rattle.records.specs.declared.Record.{Record}
use Rattle.records.specs.Executions.{empty_case, store_buffering, carried_read, carried_other, stale_message, writes_of, writes_to, volatile_behind_write, equal_values, turns_exchanged, locked_twice}
use Rattle.records.specs.Letters.{letter}
use Rattle.records.specs.Names.{at, place, threads_of}
use Rattle.records.specs.Refusals.{Refusal, refusal}
use Rattle.form.specs.Form.{form_refusal, in_form}
use Rattle.machines.specs.Certificate.{certificate_machine}
use Rattle.machines.specs.Outcomes.{Outcome, allowed, unfinished, refused, outcome}
use Rattle.machines.specs.Run.{run_machine}
use Rattle.agreement.specs.Convert.{move_count}
use Rattle.agreement.specs.Evidence.{run_items, certificate_items, written, replayed}
use Rattle.agreement.specs.Moments.{moment as moment_in}
use Rattle.text.specs.Files.{case_text, evidence_text, evidence_rows}
use Rattle.verdict.specs.Judging.{evidence_refusal, judged}
use Rattle.verdict.specs.Rows.{verdict_text}

-- ── What is printed ──
-- the form check refuses the case, by a number at a record; or the case is in form, and the items come to this as a run or
-- as a certificate
pub data Answer : Type 0 where
  misformed : ℕ → ℕ → Answer
  run : Outcome → Answer
  certificate : Outcome → Answer

-- what complete evidence is converted to: a certificate, with the moments of all actions in the order of the records, the
-- number of items and that of moves; or a run, with the number of items
pub data Conversion : Type 0 where
  none : Conversion
  to_certificate : List (List ℕ) → List Item → ℕ → ℕ → Conversion
  to_run : List Item → ℕ → Conversion

-- `row` is the judge's
pub record Execution : Type 0 where
  pub records : List Record
  pub items : List Item
  pub answer : Answer
  pub converted : Conversion
  pub row : String

-- the verdict: the header and the row, each ended by CR LF
abbrev pub line : String → List ℕ
line s = codes s ++ (13 ∷ 10 ∷ [])

abbrev pub verdict : String → List ℕ
verdict row = line "verdict,layer,refusal,place" ++ line row

-- ── The same ──
abbrev pub same_refusal : Refusal → Refusal → Bool
same_refusal q r = q.number == r.number && q.place == r.place

abbrev pub refuses : Option Refusal → Refusal → Bool
refuses None r = false
refuses (Some q) r = same_refusal q r

abbrev pub same_outcome : Outcome → Outcome → Bool
same_outcome (allowed m) (allowed n) = m == n
same_outcome (allowed m) (unfinished n) = false
same_outcome (allowed m) (refused r) = false
same_outcome (unfinished m) (allowed n) = false
same_outcome (unfinished m) (unfinished n) = m == n
same_outcome (unfinished m) (refused r) = false
same_outcome (refused q) (allowed n) = false
same_outcome (refused q) (unfinished n) = false
same_outcome (refused q) (refused r) = same_refusal q r

abbrev pub same_lists : List (List ℕ) → List (List ℕ) → Bool
same_lists [] [] = true
same_lists [] (y ∷ ys) = false
same_lists (x ∷ xs) [] = false
same_lists (x ∷ xs) (y ∷ ys) = bytes_eq x y && same_lists xs ys

-- by their four fields
abbrev pub same_items : List Item → List Item → Bool
same_items is js = same_lists (evidence_rows is) (evidence_rows js)

-- ── What is computed ──
abbrev pub answers : List Record → List Item → Answer → Bool
answers rs is (misformed n k) = refuses (form_refusal rs) (refusal n k)
answers rs is (run o) = in_form rs && same_outcome (outcome (run_machine (threads_of rs)) is) o
answers rs is (certificate o) = in_form rs && same_outcome (outcome (certificate_machine (threads_of rs)) is) o

abbrev pub moments_of : List Record → List Item → List (List ℕ)
moments_of rs is =
    map (λ k. moment_in (threads_of rs) (run_items is) (at rs k).thread (place rs k)) (range_with_len 0 (length rs))

-- the list that is written is this one, and it is complete
abbrev pub converts : List Record → List Item → Conversion → Bool
converts rs is none = true
converts rs is (to_certificate moments js n m) =
    same_lists (moments_of rs is) moments
    && (same_items (written (threads_of rs) is) js
    && (same_outcome (outcome (certificate_machine (threads_of rs)) js) (allowed n) && move_count (certificate_items js) == m))
converts rs js (to_run is n) =
    same_items (replayed (threads_of rs) js) is && same_outcome (outcome (run_machine (threads_of rs)) is) (allowed n)

-- the bytes that the judge gives for the texts of these records and items
abbrev pub judges : List Record → List Item → String → Bool
judges rs is row = bytes_eq (verdict_text (judged (case_text rs) (evidence_text is))) (verdict row)

abbrev pub stands : Execution → Bool
stands e =
    answers e.records e.items e.answer
    && (converts e.records e.items e.converted && judges e.records e.items e.row)

abbrev pub stand : List Execution → Bool
stand [] = true
stand (e ∷ es) = stands e && stand es

-- the verdict on a case, whatever well-written evidence is given
abbrev pub Whatever : List Record → String → Type 0
Whatever rs row = (text : List ℕ) → evidence_refusal text ≡ None → verdict_text (judged (case_text rs) text) ≡ verdict row

-- ── Evidence ──
-- an item of this letter for each of these threads
abbrev pub each : String → List ℕ → List Item
each c ts = map (λ t. record { letter = letter c; thread = t; place = 0; count = 0 }) ts

abbrev pub move : ℕ → ℕ → ℕ → Item
move t p c = record { letter = letter "M"; thread = t; place = p; count = c }

-- thread, host and place behind the index
abbrev pub moment : ℕ → ℕ → ℕ → ℕ → List ℕ
moment i t h p = i ∷ t ∷ h ∷ p ∷ []

-- of store buffering: a run that drains nothing, the certificate that it becomes, and the run that this becomes
abbrev pub undrained : List Item
undrained = each "A" (0 ∷ 0 ∷ 1 ∷ 0 ∷ 1 ∷ 0 ∷ 1 ∷ [])

abbrev pub undrained_moments : List (List ℕ)
undrained_moments =
    moment 0 0 0 0 ∷ moment 1 0 1 1 ∷ moment 7 0 2 2 ∷ moment 5 0 3 3
    ∷ moment 2 1 0 0 ∷ moment 7 1 1 1 ∷ moment 6 1 2 2 ∷ []

abbrev pub reads_first : List Item
reads_first = move 0 2 0 ∷ move 1 1 0 ∷ each "O" (0 ∷ 0 ∷ 1 ∷ 0 ∷ 1 ∷ 0 ∷ 1 ∷ [])

abbrev pub drained_last : List Item
drained_last = each "A" (0 ∷ 0 ∷ 1 ∷ 0 ∷ 0 ∷ 1 ∷ 1 ∷ []) ++ each "D" (0 ∷ 1 ∷ [])

-- of the carried read: a run in which each thread finds its own write waiting, and the certificate that it becomes
abbrev pub carrying : List Item
carrying = each "A" (0 ∷ 0 ∷ 1 ∷ 0 ∷ 0 ∷ 1 ∷ 0 ∷ 1 ∷ 1 ∷ []) ++ each "D" (0 ∷ [])

abbrev pub carrying_moments : List (List ℕ)
carrying_moments =
    moment 0 0 0 0 ∷ moment 1 0 1 1 ∷ moment 9 0 2 2 ∷ moment 9 0 2 3 ∷ moment 6 0 4 4
    ∷ moment 2 1 0 0 ∷ moment 10 1 1 1 ∷ moment 10 1 1 2 ∷ moment 8 1 3 3 ∷ []

abbrev pub carried : List Item
carried = move 0 2 1 ∷ move 1 1 1 ∷ each "O" (0 ∷ 0 ∷ 1 ∷ 0 ∷ 1 ∷ 0 ∷ 0 ∷ 1 ∷ 1 ∷ [])

-- ── The table ──
abbrev pub refused_at : ℕ → ℕ → Outcome
refused_at n k = refused (refusal n k)

abbrev pub printed : List Record → List Item → Answer → String → Execution
printed rs is a v = record { records = rs; items = is; answer = a; converted = none; row = v }

abbrev pub becoming : Conversion → Execution → Execution
becoming c e = record { records = e.records; items = e.items; answer = e.answer; converted = c; row = e.row }

abbrev pub table : List Execution
table =
    -- the empty case, as either kind
    printed empty_case [] (run (allowed 0)) "allowed,run,0,0"
    ∷ printed empty_case [] (certificate (allowed 0)) "allowed,run,0,0"
    -- store buffering
    ∷ becoming (to_certificate undrained_moments reads_first 9 2) (printed store_buffering undrained (run (allowed 7)) "allowed,run,0,7")
    ∷ becoming (to_run drained_last 9) (printed store_buffering reads_first (certificate (allowed 9)) "allowed,certificate,0,9")
    -- store buffering without moves
    ∷ printed store_buffering (each "O" (0 ∷ 0 ∷ 1 ∷ 0 ∷ 1 ∷ 0 ∷ [])) (certificate (refused_at 38 5)) "refused,certificate,38,5"
    -- a carried read
    ∷ printed carried_read (move 0 2 1 ∷ []) (certificate (unfinished 1)) "unfinished,certificate,0,1"
    ∷ printed carried_read (move 0 2 0 ∷ []) (certificate (refused_at 35 0)) "refused,certificate,35,0"
    ∷ printed carried_read carried (certificate (allowed 11)) "allowed,certificate,0,11"
    ∷ becoming (to_certificate carrying_moments carried 11 2) (printed carried_read carrying (run (allowed 10)) "allowed,run,0,10")
    -- a carried read that saw another write
    ∷ printed carried_other (move 0 2 1 ∷ []) (certificate (refused_at 34 0)) "refused,certificate,34,0"
    -- message passing, the data seen too old
    ∷ printed stale_message (each "A" (0 ∷ 0 ∷ 1 ∷ 1 ∷ 1 ∷ []) ++ (each "D" (1 ∷ 1 ∷ []) ++ each "A" (0 ∷ 0 ∷ []))) (run (refused_at 25 8)) "refused,run,25,8"
    -- sixty-four actions of a thread, and one more
    ∷ printed (writes_of 63) [] (run (unfinished 0)) "unfinished,run,0,0"
    ∷ printed (writes_of 64) [] (misformed 11 64) "refused,case,11,64"
    -- the last location, and the one behind it
    ∷ printed (writes_to 63) [] (run (unfinished 0)) "unfinished,run,0,0"
    ∷ printed (writes_to 64) [] (misformed 12 1) "refused,case,12,1"
    -- a volatile read behind a waiting write, and with a drain before it
    ∷ printed volatile_behind_write (each "A" (0 ∷ 0 ∷ 0 ∷ [])) (run (refused_at 23 2)) "refused,run,23,2"
    ∷ printed volatile_behind_write (each "A" (0 ∷ 0 ∷ []) ++ (each "D" (0 ∷ []) ++ each "A" (0 ∷ []))) (run (allowed 4)) "allowed,run,0,4"
    -- a drain of nothing
    ∷ printed volatile_behind_write (each "D" (0 ∷ [])) (run (refused_at 22 0)) "refused,run,22,0"
    -- two writes of one value
    ∷ printed equal_values (each "A" (0 ∷ 0 ∷ 0 ∷ 0 ∷ [])) (run (refused_at 25 3)) "refused,run,25,3"
    -- a thread begins before it is spawned
    ∷ printed turns_exchanged [] (misformed 17 4) "refused,case,17,4"
    -- a monitor locked again by its holder
    ∷ printed locked_twice [] (misformed 18 2) "refused,case,18,2" ∷ []
