use Rattle.table_state.proofs.Others.{ended_stays}
use Rattle.table_state.proofs.laws.ended_stays.Goals as goal

pub returns : goal.returns
returns c = ended_stays
