use Rattle.core_events.proofs.Proved.{failures_keep}
use Rattle.core_events.proofs.laws.failures_keep.Goals as goal

pub returns : goal.returns
returns c = failures_keep
