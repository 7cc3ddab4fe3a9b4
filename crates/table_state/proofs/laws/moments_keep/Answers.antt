use Rattle.table_state.proofs.Records.{moments_keep}
use Rattle.table_state.proofs.laws.moments_keep.Goals as goal

pub returns : goal.returns
returns c = moments_keep
