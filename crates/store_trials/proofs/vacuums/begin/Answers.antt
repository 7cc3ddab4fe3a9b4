use Rattle.toast_vacuum.proofs.StoreSteps.{vacuums_stand}
use Rattle.store_trials.proofs.vacuums.begin.Goals as goal

pub returns : goal.returns
returns g c = rw c.begin.ensures (vacuums_stand.begins c.args.xacts.now c.args.store.now _ c.horizon.ensures)
