use Rattle.value_holders.proofs.Events.{are_ended_stay}
use Rattle.value_holders.proofs.laws.are_ended_stay.Goals as goal

pub returns : goal.returns
returns g c = are_ended_stay
