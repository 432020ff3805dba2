-- Where the threads start leads from a name to its record.
use Rattle.std.proofs.Common.{◌≡◌, ℕ, ◌<◌, List, length, IfSome, Some, None, Option, sym, ap, ◌∙◌}
use Rattle.records.specs.declared.Record.{Record}
use Rattle.records.specs.Names.{record_named}
use Rattle.form.specs.Layouts.{slot_named}
use Rattle.form.proofs.Found.{within}
use Rattle.form.proofs.Layouts.{slot-named}
use Rattle.form.proofs.formed.WellFormed.find.Goals as goal

inside : (xs : List Record) (n : ℕ) (o : Option ℕ) → o ≡ record_named xs n → IfSome o (λ k. k < length xs)
inside xs n None e = tt
inside xs n (Some k) e = within _ _ k (sym e)

pub returns : goal.returns
returns c =
    let self = c.args.self.now in
    let xs = self.records.now in
    let n = c.args.name in
    let e : c.find.result ≡ record_named xs n = c.find.ensures ∙ ap (λ s. slot_named s n) self.laid ∙ slot-named xs self.grouped n in
    record { value = e; within = inside xs n _ e }
