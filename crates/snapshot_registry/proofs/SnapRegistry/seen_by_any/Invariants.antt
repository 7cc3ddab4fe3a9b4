use Rattle.std.proofs.Common.{◌≡◌, drop}
use Rattle.snapshot_registry.specs.Snapshots.{seen_by_any}
use Rattle.snapshot_registry.proofs.SnapRegistry.seen_by_any.Given as goal

-- no snapshot so far sees the version, so some does exactly where one of those that are left does
abbrev pub invariant-loop-entry : goal.invariant-loop-entry
invariant-loop-entry l = seen_by_any l.xacts (drop l.entry-index l.entry-items) l.inserter l.ender ≡ seen_by_any l.xacts l.self l.inserter l.ender
