use Rattle.laws.proofs.Orders.{order_law_lem}
use Rattle.laws.proofs.order_law.Goals as goal

pub returns : goal.returns
returns c = order_law_lem
