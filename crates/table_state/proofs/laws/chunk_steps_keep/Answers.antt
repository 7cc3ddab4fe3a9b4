use Rattle.table_state.proofs.Records.{chunk_steps_keep}
use Rattle.table_state.proofs.laws.chunk_steps_keep.Goals as goal

pub returns : goal.returns
returns c = chunk_steps_keep
