use Rattle.core_state.proofs.Proved.{submit_keeps}
use Rattle.core_state.proofs.laws.submit_keeps.Goals as goal

pub returns : goal.returns
returns c = submit_keeps
