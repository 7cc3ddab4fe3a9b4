use Rattle.snapshot_registry.proofs.Horizons.{horizon_never_falls}
use Rattle.snapshot_registry.proofs.laws.horizon_never_falls.Goals as goal

pub returns : goal.returns
returns c = horizon_never_falls
