use Rattle.table_rows.proofs.Records.{steps_tell}
use Rattle.table_rows.proofs.laws.steps_tell.Goals as goal

pub returns : goal.returns
returns c = steps_tell
