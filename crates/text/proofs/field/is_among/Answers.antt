use Rattle.std.proofs.Common.{eqb, sym, ◌∙◌, rules, tests}
use Rattle.std.proofs.lemmas.Iterator.{YieldsList-from_slice}
use Rattle.std.proofs.lemmas.Iterator.Search.{any_from_yields_List}
use Rattle.text.proofs.Letters.{among_any}
use Rattle.text.proofs.field.is_among.Goals as goal

pub returns : goal.returns
returns c =
    let code = c.args.code in let letters = c.args.letters.now in
    record { value = any_from_yields_List (λ l. eqb code l) _ _ c.any.result c.any.ensures.ran (YieldsList-from_slice letters c.iter.ensures.rest) (λ x b q k. search (rules, tests)) ∙ sym (among_any code letters) }
