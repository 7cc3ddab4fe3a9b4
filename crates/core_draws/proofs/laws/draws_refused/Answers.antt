use Rattle.core_draws.proofs.Proved.{draws_refused}
use Rattle.core_draws.proofs.laws.draws_refused.Goals as goal

pub returns : goal.returns
returns c = draws_refused
