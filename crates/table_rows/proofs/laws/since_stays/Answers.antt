use Rattle.table_rows.proofs.Records.{since_stays}
use Rattle.table_rows.proofs.laws.since_stays.Goals as goal

pub returns : goal.returns
returns c = since_stays
