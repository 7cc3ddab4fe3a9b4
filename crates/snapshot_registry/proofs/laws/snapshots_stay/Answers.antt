use Rattle.snapshot_registry.proofs.Moments.{snapshots_stay}
use Rattle.snapshot_registry.proofs.laws.snapshots_stay.Goals as goal

pub returns : goal.returns
returns c = snapshots_stay
