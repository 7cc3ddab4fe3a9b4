use Rattle.table_rows.proofs.Records.{own_changes_stay}
use Rattle.table_rows.proofs.laws.own_changes_stay.Goals as goal

pub returns : goal.returns
returns c = own_changes_stay
