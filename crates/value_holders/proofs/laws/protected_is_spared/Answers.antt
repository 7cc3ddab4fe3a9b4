use Rattle.value_holders.proofs.Spared.{protected_is_spared}
use Rattle.value_holders.proofs.laws.protected_is_spared.Goals as goal

pub returns : goal.returns
returns g c = protected_is_spared
