use Rattle.value_holders.proofs.Spared.{one_live_holder}
use Rattle.value_holders.proofs.laws.one_live_holder.Goals as goal

pub returns : goal.returns
returns g c = one_live_holder
