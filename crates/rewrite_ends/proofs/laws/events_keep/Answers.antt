use Rattle.rewrite_ends.proofs.Events.{events_keep}
use Rattle.rewrite_ends.proofs.laws.events_keep.Goals as goal

pub returns : goal.returns
returns c = events_keep
