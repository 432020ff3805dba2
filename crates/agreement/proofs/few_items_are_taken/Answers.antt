use Rattle.agreement.proofs.Encoding.{encoding}
use Rattle.agreement.proofs.Theorems.{few}
use Rattle.agreement.proofs.few_items_are_taken.Goals as goal

pub returns : goal.returns
returns c = record { few = few; encoding = encoding }
