use Rattle.rewrite_ends.proofs.AtEnd.{table_at_end}
use Rattle.rewrite_ends.proofs.laws.table_at_end.Goals as goal

pub returns : goal.returns
returns c = table_at_end
