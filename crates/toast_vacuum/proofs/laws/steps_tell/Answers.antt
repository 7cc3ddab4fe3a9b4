use Rattle.toast_vacuum.proofs.Tells.{steps_tell}
use Rattle.toast_vacuum.proofs.laws.steps_tell.Goals as goal

pub returns : goal.returns
returns c = steps_tell
