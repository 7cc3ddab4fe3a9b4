use Rattle.value_holders.proofs.Events.{events_keep_held}
use Rattle.value_holders.proofs.laws.events_keep_held.Goals as goal

pub returns : goal.returns
returns g c = events_keep_held
