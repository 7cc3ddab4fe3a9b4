use Rattle.table_rows.proofs.Records.{look_ups_find}
use Rattle.table_rows.proofs.laws.look_ups_find.Goals as goal

pub returns : goal.returns
returns c = look_ups_find
