use Rattle.core_writes.proofs.Proved.{writes_fall}
use Rattle.core_writes.proofs.laws.writes_fall.Goals as goal

pub returns : goal.returns
returns c = writes_fall
