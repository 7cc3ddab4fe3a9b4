use Rattle.rewrite_ends.proofs.Held.{values_held}
use Rattle.rewrite_ends.proofs.laws.values_held.Goals as goal

pub returns : goal.returns
returns c = values_held
