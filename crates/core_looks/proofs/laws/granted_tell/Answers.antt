use Rattle.core_looks.proofs.Proved.{granted_tell}
use Rattle.core_looks.proofs.laws.granted_tell.Goals as goal

pub returns : goal.returns
returns c = granted_tell
