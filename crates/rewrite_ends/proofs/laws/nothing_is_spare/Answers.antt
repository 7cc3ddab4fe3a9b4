use Rattle.rewrite_ends.proofs.Spare.{nothing_is_spare}
use Rattle.rewrite_ends.proofs.laws.nothing_is_spare.Goals as goal

pub returns : goal.returns
returns c = nothing_is_spare
