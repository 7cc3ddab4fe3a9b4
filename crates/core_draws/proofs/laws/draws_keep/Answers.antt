use Rattle.core_draws.proofs.Proved.{draws_keep}
use Rattle.core_draws.proofs.laws.draws_keep.Goals as goal

pub returns : goal.returns
returns c = draws_keep
