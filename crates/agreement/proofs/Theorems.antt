-- The theorems: on raw evidence for the case of a list of records.
use Rattle.std.proofs.Common.{◌≡◌, ℕ, ◌+◌, ◌*◌, ◌<◌, ◌≤◌, false, List, [], map, length, Ok, sym, refl, ap, ◌∙◌, subst, not-suc-le-zero, arith}
use mathlib.Core.Path.{fun_ext}
use lib.ListN.{length-map}
use Rattle.std.specs.List.{AllByRecursion}
use Rattle.std.proofs.ByRecursion.{All-weaker, All-map}
use Rattle.records.specs.declared.Item.{Item}
use Rattle.records.specs.declared.Record.{Record}
use Rattle.records.specs.Names.{thread, default, named, threads_of}
use Rattle.machines.specs.declared.items.RunItem.{RunItem}
use Rattle.machines.specs.declared.items.RunItem.TheVariants.{Perform, Drain}
use Rattle.machines.specs.declared.items.CertificateItem.{CertificateItem}
use Rattle.machines.specs.declared.items.CertificateItem.TheVariants.{Move, Come}
use Rattle.machines.specs.Machine.{feed, reached}
use Rattle.machines.specs.Run.{RunState, runs, run_step, fresh_run, spent, run_machine}
use Rattle.machines.specs.Certificate.{OrderState, certifies, certificate_step, fresh_order, certificate_machine}
use Rattle.agreement.specs.Convert.{plan, comings, emitted, replay, sum_over, move_count, reversed, reversed_by}
use Rattle.agreement.specs.Moments.{Converted, by_moments, pairs}
use Rattle.machines.specs.Encoded.{run_encoded, certificate_encoded}
use Rattle.agreement.specs.Evidence.{run_items, certificate_items, written, replayed}
use Rattle.agreement.specs.Agreement.{Sized, CompleteRun, CompleteCertificate, Agreement, Fits, Few, ToCertificate, ToRun}
use Rattle.agreement.specs.Agreement.{ByMoments}
use Rattle.machines.proofs.Feeds.{Ends, ends, from-ends}
use Rattle.agreement.proofs.Buffer.{Emits, only-nil}
use Rattle.agreement.proofs.Moving.{moved}
use Rattle.agreement.proofs.Relations.{Run}
use Rattle.agreement.proofs.ToOrder.{to_order}
use Rattle.agreement.proofs.ToRun.{Own, to_run}
use Rattle.agreement.proofs.RunSteps.{spent_all, run_in, RunEnds, run_out}
use Rattle.agreement.proofs.CertificateSteps.{Certified, certificate_in, CertificateEnds, order-out, moves_out}
use Rattle.agreement.proofs.Reversals.{named_forward, named_none}
use Rattle.agreement.proofs.Sums.{sum-times, sum_zero}
use Rattle.agreement.proofs.Bounds.{RunWithin, run_thread, run_few, run_small, left_count, Tally, tally, moves_few, Small}
use Rattle.agreement.proofs.Bounds.{certificate-small}
use Rattle.agreement.proofs.Encoding.{run_decoded, run-encoded, certificate_decoded, certificate-encoded, certificate-back}
use Rattle.agreement.proofs.Encoding.{encoding}
use Rattle.agreement.proofs.Cases.{case-from, case-named, case-short, case-size}
use Rattle.agreement.proofs.Orders.{one, computed}
use Rattle.agreement.proofs.Following.{new_row}
use Rattle.agreement.proofs.Along.{Outcome, whole, converted}
use Rattle.agreement.proofs.Pairs.{moves_pairs}

-- ── Complete evidence, raw and as relations ──
module _ (xs : List Record) where
  run_of : (is : List Item) → CompleteRun xs is → Run (run_items is) (thread (threads_of xs)) (λ t. []) default 0
  run_of is e =
      let c = threads_of xs in
      let h = ends (run_machine c) is e in
      run_in 8 (run_items is) (fresh_run c) h.last (case-from xs) (run_decoded is (fresh_run c) h.last h.taken)
      h.complete

  run-from : (is : List RunItem) → RunEnds 8 (Ok (fresh_run (threads_of xs))) is → CompleteRun xs (map run_encoded is)
  run-from is h =
      let c = threads_of xs in
      from-ends (run_machine c) (map run_encoded is)
      (record { last = h.last; taken = run-encoded is (Ok (fresh_run c)) ∙ h.taken; complete = h.complete })

  certificate_of_lem : (js : List Item) → CompleteCertificate xs js
      → Certified (certificate_items js) (thread (threads_of xs)) default 0
  certificate_of_lem js e =
      let c = threads_of xs in
      let h = ends (certificate_machine c) js e in
      certificate_in 8 (certificate_items js) (fresh_order c) h.last refl (case-from xs)
      (certificate_decoded js (fresh_order c) h.last h.taken) h.complete

  certificate-from : (js : List CertificateItem) → CertificateEnds 8 (Ok (fresh_order (threads_of xs))) js
      → CompleteCertificate xs (map certificate_encoded js)
  certificate-from js h =
      let c = threads_of xs in
      from-ends (certificate_machine c) (map certificate_encoded js)
      (record { last = h.last; taken = certificate-encoded js (Ok (fresh_order c)) ∙ h.taken; complete = h.complete })

  -- ── From a run to a certificate ──
  emitted-ends : (is : List Item) → CompleteRun xs is
      → CertificateEnds 8 (Ok (fresh_order (threads_of xs))) (emitted (threads_of xs) (run_items is))
  emitted-ends is e =
      let c = threads_of xs in
      let p = plan 8 (run_items is) (thread c) (λ t. []) in
      let h = to_order 8 (run_of is e) (λ u. []) (λ u. refl) (case-from xs) (λ u l. refl) in
      let o = order-out 8 false h.taken in
      record {
        last = o.last;
        taken = moves_out 8 0 (comings p.order) (thread c) h.lists default 0 p.marks (λ u l. absurd (not-suc-le-zero l))
            (λ u l.
            let none = case-from xs u (omega arith) in
            none ∙ only-nil (subst (λ r. Emits [] [] r (h.lists u)) none (moved (h.local u))))
            (λ u l. h.local u)
            ∙ o.taken;
        complete = o.complete;
      }

  outcome : (is : List Item) → CompleteRun xs is
      → Outcome (threads_of xs) (run_items is) (plan 8 (run_items is) (thread (threads_of xs)) (λ t. [])) 0 (run_items is)
      (fresh_run (threads_of xs)) (λ u. new_row)
  outcome is e = whole (threads_of xs) (run_items is) (run_of is e) (case-from xs)

  along_run : (is : List Item) → CompleteRun xs is → Converted (threads_of xs) (run_items is) (emitted (threads_of xs) (run_items is))
  along_run is e = converted (threads_of xs) (run_items is) (outcome is e)

  -- the list by moments is the one emitted along the run
  written_is : (is : List Item) → CompleteRun xs is
      → emitted (threads_of xs) (run_items is) ≡ by_moments (threads_of xs) (run_items is)
  written_is is e =
      let c = threads_of xs in
      one c (run_items is) (emitted c (run_items is)) (by_moments c (run_items is)) (along_run is e) (computed c (run_items is))

  certified-run : (is : List Item) → CompleteRun xs is → CompleteCertificate xs (written (threads_of xs) is)
  certified-run is e =
      subst (λ js. CompleteCertificate xs (map certificate_encoded js)) (written_is is e)
      (certificate-from (emitted (threads_of xs) (run_items is)) (emitted-ends is e))

  -- ── From a certificate to a run ──
  replayed-run : (js : List Item) → CompleteCertificate xs js → CompleteRun xs (replayed (threads_of xs) js)
  replayed-run js e =
      let c = threads_of xs in
      let h = certificate_of_lem js e in
      let start : ℕ → ℕ = λ t. named t 0 in
      let own : (u : ℕ) → Own (start u) (thread c u) [] (h.lists u) = λ u. record {
        seen = [];
        groups = [];
        same_waits = refl;
        emits_it = moved (h.moving u).lead;
        names = case-named xs u;
        old_seen = tt;
        old = tt;
      } in
      run-from (replay c (certificate_items js))
      (run_out 8 (subst (λ is. Run is (thread c) (λ t. []) default 0) (sym (h.replays start))
      (to_run h.taken start (thread c) (λ t. []) own)))

pub agreement : Agreement
agreement xs = (
  λ h. (written (threads_of xs) h.0, certified-run xs h.0 h.1),
  λ h. (replayed (threads_of xs) h.0, replayed-run xs h.0 h.1),
)

-- ── How many items of a run ──
module _ (xs : List Record) (is : List Item) (s : RunState) (e : reached (run_machine (threads_of xs)) is ≡ Ok s) where
  run-within : RunWithin 8 (fresh_run (threads_of xs))
  run-within = record { rest_within = case-from xs; buffer_within = λ u l. refl }

  run_feeds : feed runs (Ok (fresh_run (threads_of xs))) (run_items is) ≡ Ok s
  run_feeds = run_decoded is (fresh_run (threads_of xs)) s e

  run-are : map run_encoded (run_items is) ≡ is
  run-are = encoding.run_taken (threads_of xs) is s e

  of_runs : Sized xs → length is ≤ 512
  of_runs h =
      let c = threads_of xs in
      let a = run_few 8 (run_items is) (fresh_run c) s run-within run_feeds in
      let b = ap (sum_over 8 0) (fun_ext (λ u. let z : 2 * length (thread c u) + 0 ≡ 2 * length (thread c u) = omega arith in z))
      ∙ sum-times 2 8 0 (λ u. length (thread c u)) in
      let d = case-size xs h in
      let f = h.few in
      let g = sym (length-map (run_items is) run_encoded) ∙ ap length run-are in
      omega arith

  run_fits : AllByRecursion Fits is
  run_fits =
      subst (AllByRecursion Fits) run-are
      (All-map Fits run_encoded (run_items is)
      (All-weaker (λ i. run_thread i < 8) (λ i. Fits (run_encoded i)) fits (run_items is)
      (run_small 8 (run_items is) (fresh_run (threads_of xs)) s run-within run_feeds)))
    where
      fits : (i : RunItem) → run_thread i < 8 → Fits (run_encoded i)
      fits (Perform t) l = record { thread_fits = l; place_fits = omega arith; count_fits = omega arith }
      fits (Drain t) l = record { thread_fits = l; place_fits = omega arith; count_fits = omega arith }

-- ── How many items of a certificate ──
module _ (xs : List Record) (js : List Item) (s : OrderState) (e : reached (certificate_machine (threads_of xs)) js ≡ Ok s) where
  certificate_feeds : feed certifies (Ok (fresh_order (threads_of xs))) (certificate_items js) ≡ Ok s
  certificate_feeds = certificate_decoded js (fresh_order (threads_of xs)) s e

  certificate-are : map certificate_encoded (certificate_items js) ≡ js
  certificate-are = encoding.certificate_taken (threads_of xs) js s e

  certificate-tally : Tally 8 (certificate_items js) (fresh_order (threads_of xs)) s
  certificate-tally =
      let c = threads_of xs in
      tally 8 (certificate_items js) (fresh_order c) s refl (case-from xs)
      (λ u. named_forward (named u 0) (thread c u) (case-named xs u)) certificate_feeds

  reversing : move_count (certificate_items js) ≡ reversed_by (threads_of xs) (certificate_items js)
  reversing =
      let c = threads_of xs in
      let a = certificate-tally.reverses in
      let b = sum_zero 8 0 (λ u. reversed (thread c u)) (λ u _. named_none (named u 0) (thread c u) (case-named xs u)) in
      omega arith

  moves-most : Sized xs → move_count (certificate_items js) ≤ 4096
  moves-most h =
      let a = moves_few 8 (certificate_items js) (fresh_order (threads_of xs)) s (case-short xs h) certificate-tally in
      let b = case-size xs h in
      let f = h.few in
      omega arith

  -- one item for each move and each action that has come
  items-are : Sized xs → length js + left_count 8 s ≡ move_count (certificate_items js) + length xs
  items-are h =
      let a = certificate-tally.items in
      let b = case-size xs h in
      let g = sym (length-map (certificate_items js) certificate_encoded) ∙ ap length certificate-are in
      omega arith

  of_certificates : Sized xs → length js ≤ 4352
  of_certificates h =
      let a = items-are h in
      let b = moves-most h in
      let f = h.few in
      omega arith

  certificate_fits : Sized xs → AllByRecursion Fits js
  certificate_fits h =
      let c = threads_of xs in
      subst (AllByRecursion Fits) certificate-are
      (All-map Fits certificate_encoded (certificate_items js)
      (All-weaker (Small 8) (λ j. Fits (certificate_encoded j)) fits (certificate_items js)
      (certificate-small 8 (certificate_items js) (fresh_order c) s
      (record { left_within = case-from xs; short = case-short xs h }) certificate_feeds)))
    where
      fits : (j : CertificateItem) → Small 8 j → Fits (certificate_encoded j)
      fits (Move t p c) l = record { thread_fits = l.0; place_fits = l.1; count_fits = l.2 }
      fits (Come t) l = record { thread_fits = l; place_fits = omega arith; count_fits = omega arith }

pub few : Few
few =
    record {
      of_runs = λ xs is s h e. of_runs xs is s e h;
      run_fits = run_fits;
      of_certificates = λ xs js s h e. of_certificates xs js s e h;
      certificate_fits = λ xs js s h e. certificate_fits xs js s e h;
      reversing = reversing;
      moves = λ xs js s h e. moves-most xs js s e h;
    }

-- ── Both conversions ──
module _ (xs : List Record) (is : List Item) where
  written-moves : move_count (certificate_items (written (threads_of xs) is)) ≡ pairs (threads_of xs) (run_items is)
  written-moves =
      let c = threads_of xs in
      ap move_count (certificate-back (by_moments c (run_items is)))
      ∙ moves_pairs c (run_items is) (by_moments c (run_items is)) (computed c (run_items is))

  written-ends : CompleteRun xs is
      → Ends certificate_step (λ s. spent 8 s.left) (Ok (fresh_order (threads_of xs))) (written (threads_of xs) is)
  written-ends e = ends (certificate_machine (threads_of xs)) (written (threads_of xs) is) (certified-run xs is e)

  -- every action comes
  written-items : Sized xs → CompleteRun xs is
      → length (written (threads_of xs) is) ≡ move_count (certificate_items (written (threads_of xs) is)) + length xs
  written-items h e =
      let d = written-ends e in
      let a = items-are xs (written (threads_of xs) is) d.last d.taken h in
      let b = sum_zero 8 0 (λ u. length (d.last.left u)) (λ u l. ap length (spent_all 8 d.last.left d.complete u l)) in
      omega arith

pub to_certificate_lem : ToCertificate
to_certificate_lem =
    record {
      certified = certified-run;
      moves_counted = written-moves;
      moves_few = λ xs is h e. let d = written-ends xs is e in moves-most xs (written (threads_of xs) is) d.last d.taken h;
      items_counted = written-items;
      items_few = λ xs is h e.
          let d = written-ends xs is e in
          of_certificates xs (written (threads_of xs) is) d.last d.taken h;
      items_fit = λ xs is h e.
          let d = written-ends xs is e in
          certificate_fits xs (written (threads_of xs) is) d.last d.taken h;
    }

replayed-ends : (xs : List Record) (js : List Item) → CompleteCertificate xs js
    → Ends run_step (λ s. spent 8 s.rest) (Ok (fresh_run (threads_of xs))) (replayed (threads_of xs) js)
replayed-ends xs js e = ends (run_machine (threads_of xs)) (replayed (threads_of xs) js) (replayed-run xs js e)

pub to_run_lem : ToRun
to_run_lem =
    record {
      run = replayed-run;
      run_few = λ xs js h e. let d = replayed-ends xs js e in of_runs xs (replayed (threads_of xs) js) d.last d.taken h;
      run_fit = λ xs js e. let d = replayed-ends xs js e in run_fits xs (replayed (threads_of xs) js) d.last d.taken;
    }

pub by_moments_lem : ByMoments
by_moments_lem =
    record {
      one = one;
      computed = computed;
      along = along_run;
      emits_it = written_is;
      moves_pairs = moves_pairs;
      told = λ xs is e. (outcome xs is e).told;
      saw = λ xs is e t p. (outcome xs is e).saw t p (omega arith);
    }
