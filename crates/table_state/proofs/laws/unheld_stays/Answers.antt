use Rattle.table_state.proofs.Others.{unheld_stays}
use Rattle.table_state.proofs.laws.unheld_stays.Goals as goal

pub returns : goal.returns
returns c = unheld_stays
