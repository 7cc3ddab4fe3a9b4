use Rattle.toast_vacuum.proofs.Starts.{starts_stand}
use Rattle.toast_vacuum.proofs.laws.starts_stand.Goals as goal

pub returns : goal.returns
returns c = starts_stand
