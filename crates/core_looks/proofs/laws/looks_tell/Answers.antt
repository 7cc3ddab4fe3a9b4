use Rattle.core_looks.proofs.Proved.{looks_tell}
use Rattle.core_looks.proofs.laws.looks_tell.Goals as goal

pub returns : goal.returns
returns c = looks_tell
