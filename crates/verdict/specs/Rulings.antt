-- What an examination replied, and what the code answers, as what is said of two texts.
use Rattle.std.specs.Prelude.{Ok, Err, Result}
use Rattle.docket.specs.Plain.{Reply, Opened, Taken, Allowed, Unfinished, Withdrawn, Refused}
use Rattle.docket.specs.Standing.{verdict_says}
use Rattle.verdict.specs.declared.fault.Fault.{Fault}
use Rattle.verdict.specs.declared.judgement.Ruling.{Ruling}
use Rattle.verdict.specs.declared.layer.Layer.{Layer}
use Rattle.verdict.specs.Faults.{layer_of, refusal_of}
use Rattle.verdict.specs.Judging as judging
use Rattle.verdict.specs.Judging.{Judged}
use Rattle.verdict.specs.Layers.{layer_of_kind}

-- replies that no examination gives are taken for anything
abbrev pub ruling : Layer → Reply → Judged
ruling l (Opened t) = judging.Unfinished l 0
ruling l Taken = judging.Unfinished l 0
ruling l (Allowed n) = judging.Allowed l n
ruling l (Unfinished n) = judging.Unfinished l n
ruling l (Withdrawn n) = judging.Unfinished l 0
ruling l (Refused q) = judging.Refused l q

abbrev pub said : Result Ruling Fault → Judged
said (Ok r) = ruling (layer_of_kind r.kind) (verdict_says r.verdict)
said (Err f) = judging.Refused (layer_of f) (refusal_of f)
