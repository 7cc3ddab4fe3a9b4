use Rattle.snapshot_registry.proofs.Unseen.{unseen_stays_unseen}
use Rattle.snapshot_registry.proofs.laws.unseen_stays_unseen.Goals as goal

pub returns : goal.returns
returns c = unseen_stays_unseen
