use Rattle.toast_vacuum.proofs.Batches.{batches_stand}
use Rattle.toast_vacuum.proofs.laws.batches_stand.Goals as goal

pub returns : goal.returns
returns c = batches_stand
