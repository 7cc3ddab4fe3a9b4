use Rattle.table_state.proofs.Stays.{values_stay}
use Rattle.table_state.proofs.laws.values_stay.Goals as goal

pub returns : goal.returns
returns c = values_stay
