use Rattle.core_state.proofs.Proved.{left_falls}
use Rattle.core_state.proofs.laws.left_falls.Goals as goal

pub returns : goal.returns
returns c = left_falls
