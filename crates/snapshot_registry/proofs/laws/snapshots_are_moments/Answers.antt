use Rattle.snapshot_registry.proofs.Moments.{snapshots_are_moments}
use Rattle.snapshot_registry.proofs.laws.snapshots_are_moments.Goals as goal

pub returns : goal.returns
returns c = snapshots_are_moments
