use Rattle.table_rows.proofs.Records.{moments_tell}
use Rattle.table_rows.proofs.laws.moments_tell.Goals as goal

pub returns : goal.returns
returns c = moments_tell
