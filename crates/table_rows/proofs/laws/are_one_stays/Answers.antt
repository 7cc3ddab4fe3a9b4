use Rattle.table_rows.proofs.Records.{are_one_stays}
use Rattle.table_rows.proofs.laws.are_one_stays.Goals as goal

pub returns : goal.returns
returns c = are_one_stays
