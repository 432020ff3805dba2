use Rattle.std.proofs.Common.{unwrap_or, sym, ap, ◌∙◌}
use Rattle.std.specs.Option.{option_map}
use Rattle.records.specs.Names.{named}
use Rattle.machines.specs.Memory.{held}
use Rattle.machines.specs.Rows.{newest_of, window}
use Rattle.machines.proofs.Windows.{sees_newest}
use Rattle.machines.proofs.rows.Row.sees.Goals as goal

pub returns-in-Some : goal.returns-in-Some
returns-in-Some c =
    let m = held c.args.memory.now.writes c.args.location in
    c.named.ensures ∙ ap (λ o. unwrap_or (option_map (named c.args.thread) o) m) (c.in-Some.ensures ∙ ap (newest_of c.args.location) c.waiting.ensures)
    ∙ sym (sees_newest c.args.thread c.args.location (window c.args.self.now) m)

pub returns-in-None : goal.returns-in-None
returns-in-None c =
    let m = held c.args.memory.now.writes c.args.location in
    c.held.ensures ∙ ap (λ o. unwrap_or (option_map (named c.args.thread) o) m) (c.in-None.ensures ∙ ap (newest_of c.args.location) c.waiting.ensures)
    ∙ sym (sees_newest c.args.thread c.args.location (window c.args.self.now) m)
