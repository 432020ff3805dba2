use Rattle.std.proofs.Common.{◌≡◌, ℕ, ◌+◌, ◌-◌, ◌*◌, ◌<◌, List, length, get_or, Some, sym, ap, ◌∙◌, subst}
use Rattle.std.proofs.lemmas.Bool.{cond-true, lt-ltb}
use Rattle.records.specs.declared.Record.{Record}
use Rattle.records.specs.Names.{blank, at, record_named, name}
use Rattle.case.specs.Cases.{records_of}
use Rattle.case.proofs.Slots.{starts-before, name_by_start, name_of}
use Rattle.case.proofs.checked.CheckedCase.name.Goals as goal

-- `get` found the record at k
found_at : (xs ys : List Record) (k : ℕ) (r : Record) → ys ≡ xs → (k < length ys) × ((d : Record) → r ≡ get_or ys k d) → (k < length xs) × (r.thread ≡ (at xs k).thread)
found_at xs ys k r e h = (subst (λ l. k < length l) e h.0, ap (λ q. q.thread) (h.1 blank ∙ ap (λ l. at l k) e))

pub overflow_sub-place : goal.overflow_sub-place
overflow_sub-place c =
    let self = c.args.self.now in
    let f = found_at (records_of self) c.records.result.now c.args.index _ c.records.ensures.value c.in_ok-thread.ensures.lookup.3 in
    starts-before (records_of self) self.formed self.layout.starts self.laid c.args.index _ c.range.result.start f.0 f.1 c.range.ensures.start

pub returns : goal.returns
returns c =
    let self = c.args.self.now in
    let xs = records_of self in
    let k = c.args.index in
    let f = found_at xs c.records.result.now k _ c.records.ensures.value c.in_ok-thread.ensures.lookup.3 in
    let n : c.named.result ≡ name xs k =
    c.named.ensures ∙ name_by_start xs self.formed self.layout.starts self.laid k _ c.range.result.start f.0 f.1 c.range.ensures.start in
    record {
      value = ap (λ (i : ℕ). Some i) n ∙ sym (cond-true _ _ _ (lt-ltb _ _ f.0));
      found = ap (record_named xs) n ∙ (name_of xs self.formed k f.0).found;
    }
