use Rattle.core_outs.proofs.Proved.{outs_keep}
use Rattle.core_outs.proofs.laws.outs_keep.Goals as goal

pub returns : goal.returns
returns c = outs_keep
