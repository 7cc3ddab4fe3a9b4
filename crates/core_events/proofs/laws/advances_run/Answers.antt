use Rattle.core_events.proofs.Proved.{advances_run}
use Rattle.core_events.proofs.laws.advances_run.Goals as goal

pub returns : goal.returns
returns c = advances_run
