use Rattle.core_events.proofs.Proved.{advances_keep}
use Rattle.core_events.proofs.laws.advances_keep.Goals as goal

pub returns : goal.returns
returns c = advances_keep
