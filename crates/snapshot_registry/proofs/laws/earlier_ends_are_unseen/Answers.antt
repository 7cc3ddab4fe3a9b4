use Rattle.snapshot_registry.proofs.EarlierEnds.{earlier_ends_are_unseen}
use Rattle.snapshot_registry.proofs.laws.earlier_ends_are_unseen.Goals as goal

pub returns : goal.returns
returns c = earlier_ends_are_unseen
