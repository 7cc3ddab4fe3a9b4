use Rattle.table_state.proofs.Records.{vacuum_keeps}
use Rattle.table_state.proofs.laws.vacuum_keeps.Goals as goal

pub returns : goal.returns
returns c = vacuum_keeps
