use Rattle.value_holders.proofs.Spared.{ender_order}
use Rattle.value_holders.proofs.laws.ender_order.Goals as goal

pub returns : goal.returns
returns g c = ender_order
