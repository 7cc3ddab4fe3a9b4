use Rattle.std.proofs.Common.{◌≡◌, ◌+◌, drop}
use Rattle.snapshot_registry.specs.Snapshots.{least_free}
use Rattle.snapshot_registry.proofs.first_free.Given as goal

-- the least free id is that of the entries that are left, counted from the place reached
abbrev pub invariant-loop-id : goal.invariant-loop-id
invariant-loop-id l = least_free (drop l.id l.entries) + l.id ≡ least_free l.entries
