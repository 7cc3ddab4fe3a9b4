use Rattle.snapshot_registry.proofs.Runs.{holds_in_every_run}
use Rattle.snapshot_registry.proofs.laws.hold_in_every_run.Goals as goal

pub returns : goal.returns
returns c = holds_in_every_run
