use Rattle.core_writes.proofs.Proved.{writes_run}
use Rattle.core_writes.proofs.laws.writes_run.Goals as goal

pub returns : goal.returns
returns c = writes_run
