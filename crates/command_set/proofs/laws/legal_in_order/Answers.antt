use Rattle.command_set.proofs.Order.{legal_in_order}
use Rattle.command_set.proofs.laws.legal_in_order.Goals as goal

pub returns : goal.returns
returns c = legal_in_order
