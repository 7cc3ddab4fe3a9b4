use Rattle.table_state.proofs.Records.{version_steps_keep}
use Rattle.table_state.proofs.laws.version_steps_keep.Goals as goal

pub returns : goal.returns
returns c = version_steps_keep
