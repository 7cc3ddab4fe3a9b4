use Rattle.toast_vacuum.proofs.StoreSteps.{vacuums_stand}
use Rattle.toast_vacuum.proofs.laws.vacuums_stand.Goals as goal

pub returns : goal.returns
returns c = vacuums_stand
