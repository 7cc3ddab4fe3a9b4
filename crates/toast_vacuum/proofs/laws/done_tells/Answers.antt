use Rattle.toast_vacuum.proofs.Tells.{done_tells}
use Rattle.toast_vacuum.proofs.laws.done_tells.Goals as goal

pub returns : goal.returns
returns c = done_tells
