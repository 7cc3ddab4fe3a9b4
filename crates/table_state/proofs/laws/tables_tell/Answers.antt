use Rattle.table_state.proofs.Tells.{tables_tell}
use Rattle.table_state.proofs.laws.tables_tell.Goals as goal

pub returns : goal.returns
returns c = tables_tell
