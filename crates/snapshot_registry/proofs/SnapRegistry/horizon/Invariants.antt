use Rattle.std.proofs.Common.{◌≡◌, drop}
use Rattle.snapshot_registry.specs.Snapshots.{least, horizon}
use Rattle.snapshot_registry.proofs.Horizons.{xmins}
use Rattle.snapshot_registry.proofs.SnapRegistry.horizon.Given as goal

-- the least so far and the xmins that are left give the horizon
abbrev pub invariant-loop-entry : goal.invariant-loop-entry
invariant-loop-entry l = least l.least (xmins (drop l.entry-index l.entry-items)) ≡ horizon l.xacts l.self
