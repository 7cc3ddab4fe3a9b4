use Rattle.core_parts.proofs.Uses.{uses_second, uses_third, uses_whole}
use Rattle.core_parts.proofs.ends.release_uses.Goals as goal

pub release-requires-2 : goal.release-requires-2
release-requires-2 c = uses_second c.args.snaps.now c.args.seat.now _ _ _ c.snapshot_of.ensures c.job_snapshot.ensures c.release.ensures c.requires

pub release_handles-requires : goal.release_handles-requires
release_handles-requires c = rw c.as_slice.ensures (uses_third c.args.snaps.now c.args.seat.now _ _ _ _ c.snapshot_of.ensures c.job_snapshot.ensures c.release.ensures c.release-2.ensures c.requires)

pub returns : goal.returns
returns c = uses_whole c.args.snaps.now c.args.seat.now _ _ _ _ _ c.snapshot_of.ensures c.job_snapshot.ensures c.release.ensures c.release-2.ensures (rw c.as_slice.ensures at c.release_handles.ensures)
