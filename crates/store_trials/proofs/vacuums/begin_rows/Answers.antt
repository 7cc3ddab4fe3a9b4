use Rattle.toast_vacuum.proofs.Rows.{row_vacuums_stand}
use Rattle.store_trials.proofs.vacuums.begin_rows.Goals as goal

pub returns : goal.returns
returns g c = rw c.begin.ensures (row_vacuums_stand.begins c.args.xacts.now c.args.rel.now _ c.horizon.ensures)
