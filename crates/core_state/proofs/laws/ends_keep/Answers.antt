use Rattle.core_state.proofs.Proved.{ends_keep}
use Rattle.core_state.proofs.laws.ends_keep.Goals as goal

pub returns : goal.returns
returns c = ends_keep
