use Rattle.core_state.proofs.Proved.{over_keeps}
use Rattle.core_state.proofs.laws.over_keeps.Goals as goal

pub returns : goal.returns
returns c = over_keeps
