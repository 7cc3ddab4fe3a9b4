use Rattle.value_holders.proofs.Steps.{steps_keep_held}
use Rattle.value_holders.proofs.laws.steps_keep_held.Goals as goal

pub returns : goal.returns
returns g c = steps_keep_held
