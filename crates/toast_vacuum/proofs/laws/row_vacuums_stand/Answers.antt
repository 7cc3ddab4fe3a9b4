use Rattle.toast_vacuum.proofs.Rows.{row_vacuums_stand}
use Rattle.toast_vacuum.proofs.laws.row_vacuums_stand.Goals as goal

pub returns : goal.returns
returns c = row_vacuums_stand
