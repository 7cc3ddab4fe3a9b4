use Rattle.core_saves.proofs.Proved.{steps_are_made}
use Rattle.core_saves.proofs.laws.steps_are_made.Goals as goal

pub returns : goal.returns
returns c = steps_are_made
