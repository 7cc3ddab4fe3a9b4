-- What each event keeps, every run keeps.
use Rattle.std.proofs.Common.{ℕ, ◌≤◌, List, [], ◌∷◌, arith}
use Rattle.snapshot_registry.specs.Snapshots.{horizon}
use Rattle.snapshot_registry.specs.Laws.{IsRegistryOf, IsUnseen}
use Rattle.snapshot_registry.specs.Runs.{Moment, Event, Assign, Commit, Abort, Take, Share, Release, IsAllowed, IsRun, after, after_run, first_moment, HoldsInEveryRun}
use Rattle.snapshot_registry.proofs.Moments.{snapshots_are_moments}
use Rattle.snapshot_registry.proofs.Horizons.{horizon_never_falls}
use Rattle.snapshot_registry.proofs.Unseen.{unseen_stays_unseen}

-- one event
registry_event : (at : Moment) (event : Event) → IsAllowed at event → IsRegistryOf at.xacts at.snaps → IsRegistryOf (after at event).xacts (after at event).snaps
registry_event at (Assign session) allowed registry = snapshots_are_moments.assigned at.xacts at.snaps session registry
registry_event at (Commit xid) allowed registry = snapshots_are_moments.committed at.xacts at.snaps xid allowed registry
registry_event at (Abort xid) allowed registry = snapshots_are_moments.aborted at.xacts at.snaps xid allowed registry
registry_event at Take allowed registry = snapshots_are_moments.taken at.xacts at.snaps registry
registry_event at (Share id) allowed registry = snapshots_are_moments.shared at.xacts at.snaps id registry
registry_event at (Release id) allowed registry = snapshots_are_moments.released at.xacts at.snaps id registry

horizon_event : (at : Moment) (event : Event) → IsAllowed at event → horizon at.xacts at.snaps ≤ horizon (after at event).xacts (after at event).snaps
horizon_event at (Assign session) allowed = horizon_never_falls.assigned at.xacts at.snaps session
horizon_event at (Commit xid) allowed = horizon_never_falls.committed at.xacts at.snaps xid allowed
horizon_event at (Abort xid) allowed = horizon_never_falls.aborted at.xacts at.snaps xid allowed
horizon_event at Take allowed = horizon_never_falls.taken at.xacts at.snaps
horizon_event at (Share id) allowed = horizon_never_falls.shared at.xacts at.snaps id
horizon_event at (Release id) allowed = horizon_never_falls.released at.xacts at.snaps id

unseen_event : (at : Moment) (event : Event) (inserter ender : ℕ) → IsAllowed at event → IsRegistryOf at.xacts at.snaps → IsUnseen at.xacts at.snaps inserter ender → IsUnseen (after at event).xacts (after at event).snaps inserter ender
unseen_event at (Assign session) inserter ender allowed registry unseen = unseen_stays_unseen.assigned at.xacts at.snaps session inserter ender registry unseen
unseen_event at (Commit xid) inserter ender allowed registry unseen = unseen_stays_unseen.committed at.xacts at.snaps xid inserter ender allowed registry unseen
unseen_event at (Abort xid) inserter ender allowed registry unseen = unseen_stays_unseen.aborted at.xacts at.snaps xid inserter ender allowed registry unseen
unseen_event at Take inserter ender allowed registry unseen = unseen_stays_unseen.taken at.xacts at.snaps inserter ender unseen
unseen_event at (Share id) inserter ender allowed registry unseen = unseen_stays_unseen.shared at.xacts at.snaps id inserter ender unseen
unseen_event at (Release id) inserter ender allowed registry unseen = unseen_stays_unseen.released at.xacts at.snaps id inserter ender unseen

-- and so any number of them
pub registry_run : (at : Moment) (events : List Event) → IsRun at events → IsRegistryOf at.xacts at.snaps → IsRegistryOf (after_run at events).xacts (after_run at events).snaps
registry_run at [] run registry = registry
registry_run at (event ∷ events) run registry = registry_run (after at event) events run.1 (registry_event at event run.0 registry)

pub horizon_run : (at : Moment) (events : List Event) → IsRun at events → horizon at.xacts at.snaps ≤ horizon (after_run at events).xacts (after_run at events).snaps
horizon_run at [] run = omega arith
horizon_run at (event ∷ events) run = omega (arith, horizon_event at event run.0, horizon_run (after at event) events run.1)

pub unseen_run : (at : Moment) (events : List Event) (inserter ender : ℕ) → IsRegistryOf at.xacts at.snaps → IsRun at events → IsUnseen at.xacts at.snaps inserter ender → IsUnseen (after_run at events).xacts (after_run at events).snaps inserter ender
unseen_run at [] inserter ender registry run unseen = unseen
unseen_run at (event ∷ events) inserter ender registry run unseen = unseen_run (after at event) events inserter ender (registry_event at event run.0 registry) run.1 (unseen_event at event inserter ender run.0 registry unseen)

pub holds_in_every_run : HoldsInEveryRun
holds_in_every_run = record {
  moments = λ events run. registry_run first_moment events run snapshots_are_moments.none;
  horizon_never_falls = horizon_run;
  unseen_stays_unseen = unseen_run;
}
