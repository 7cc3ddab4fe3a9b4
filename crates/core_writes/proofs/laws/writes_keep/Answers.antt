use Rattle.core_writes.proofs.Proved.{writes_keep}
use Rattle.core_writes.proofs.laws.writes_keep.Goals as goal

pub returns : goal.returns
returns c = writes_keep
