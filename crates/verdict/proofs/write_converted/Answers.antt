use Rattle.std.proofs.Common.{ap, ◌∙◌}
use Rattle.text.specs.Faults.{answered}
use Rattle.text.specs.Writing.{written}
use Rattle.verdict.proofs.Layers.{delivers}
use Rattle.verdict.proofs.write_converted.Goals as goal

pub returns-in-Ok-clause-after : goal.returns-in-Ok-clause-after
returns-in-Ok-clause-after c =
    c.write_examined.ensures.after
    ∙ ap (λ s. written (answered c.write_examined.result) s c.args.out.now) (delivers _ _ _ _ c.in-Ok.count c.in-Ok.ensures.loaded)
