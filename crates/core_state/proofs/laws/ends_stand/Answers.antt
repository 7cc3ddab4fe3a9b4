use Rattle.core_state.proofs.Proved.{ends_stand}
use Rattle.core_state.proofs.laws.ends_stand.Goals as goal

pub returns : goal.returns
returns c = ends_stand
