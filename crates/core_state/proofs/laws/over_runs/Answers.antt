use Rattle.core_state.proofs.Proved.{over_runs}
use Rattle.core_state.proofs.laws.over_runs.Goals as goal

pub returns : goal.returns
returns c = over_runs
