use Rattle.core_writes.proofs.Proved.{rows_can_be_written}
use Rattle.core_writes.proofs.laws.rows_can_be_written.Goals as goal

pub returns : goal.returns
returns c = rows_can_be_written
