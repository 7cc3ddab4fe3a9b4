use Rattle.core_looks.proofs.Proved.{uses_keep}
use Rattle.core_looks.proofs.laws.uses_keep.Goals as goal

pub returns : goal.returns
returns c = uses_keep
