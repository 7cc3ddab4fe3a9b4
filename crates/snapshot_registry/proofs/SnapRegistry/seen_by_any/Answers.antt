use Rattle.std.proofs.Common.{arith, sym, subst}
use Rattle.snapshot_registry.specs.Snapshots.{IsSound}
use Rattle.snapshot_registry.proofs.Bodies.{sound_entry}
use Rattle.snapshot_registry.proofs.SnapRegistry.seen_by_any.Goals as goal

-- every registered snapshot is sound
pub sees-requires-clause-ascending : goal.sees-requires-clause-ascending
sees-requires-clause-ascending c = (sound_entry _ _ _ _ (subst IsSound (sym c.deref-entry-items.ensures.value) c.self.invariant) (omega arith) c.entry-item.is c.in-Some.is).ascending
