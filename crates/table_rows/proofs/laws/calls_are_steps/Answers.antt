use Rattle.table_rows.proofs.Records.{calls_are_steps}
use Rattle.table_rows.proofs.laws.calls_are_steps.Goals as goal

pub returns : goal.returns
returns c = calls_are_steps
