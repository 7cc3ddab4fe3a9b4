use Rattle.table_rows.proofs.Records.{views_stay}
use Rattle.table_rows.proofs.laws.views_stay.Goals as goal

pub returns : goal.returns
returns c = views_stay
