use Rattle.snapshot_registry.proofs.Unseen.{dead_is_unseen}
use Rattle.snapshot_registry.proofs.laws.dead_is_unseen.Goals as goal

pub returns : goal.returns
returns c = dead_is_unseen
