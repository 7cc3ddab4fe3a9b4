use Rattle.snapshot_registry.proofs.Unprotected.{unprotected_stays}
use Rattle.snapshot_registry.proofs.laws.unprotected_stays.Goals as goal

pub returns : goal.returns
returns c = unprotected_stays
