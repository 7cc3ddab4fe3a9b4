-- Runs: any list of events on a table of transactions and the registry of its snapshots, from any moment on.
use Rattle.std.specs.Prelude.{◌≡◌, ℕ, ◌≤◌, true, List, [], ◌∷◌}
use Rattle.xact_status.specs.Xacts.{Xacts, is_running, after_assign, after_commit, after_abort}
use Rattle.snapshot_registry.specs.Snapshots.{Snaps, is_registered, horizon, after_take, after_share, after_release}
use Rattle.snapshot_registry.specs.Laws.{IsRegistryOf, IsUnseen}

-- the transactions and the registered snapshots at a moment
pub record Moment : Type 0 where
  pub xacts : Xacts
  pub snaps : Snaps

-- one call: a session is given an xid, an xid commits or aborts, a snapshot is taken, shared or released
pub data Event : Type 0 where
  Assign : ℕ → Event
  Commit : ℕ → Event
  Abort : ℕ → Event
  Take : Event
  Share : ℕ → Event
  Release : ℕ → Event

-- what a call asks
abbrev pub IsAllowed : Moment → Event → Type 0
IsAllowed at (Assign session) = Unit {0}
IsAllowed at (Commit xid) = is_running at.xacts xid ≡ true
IsAllowed at (Abort xid) = is_running at.xacts xid ≡ true
IsAllowed at Take = Unit {0}
IsAllowed at (Share id) = is_registered at.snaps id ≡ true
IsAllowed at (Release id) = is_registered at.snaps id ≡ true

-- the moment after a call
abbrev pub after : Moment → Event → Moment
after at (Assign session) = record at { xacts = after_assign at.xacts session }
after at (Commit xid) = record at { xacts = after_commit at.xacts xid }
after at (Abort xid) = record at { xacts = after_abort at.xacts xid }
after at Take = record at { snaps = after_take at.snaps at.xacts }
after at (Share id) = record at { snaps = after_share at.snaps id }
after at (Release id) = record at { snaps = after_release at.snaps id }

-- the moment after a run
abbrev pub after_run : Moment → List Event → Moment
after_run at [] = at
after_run at (event ∷ events) = after_run (after at event) events

-- each call of a run is allowed at its moment
abbrev pub IsRun : Moment → List Event → Type 0
IsRun at [] = Unit {0}
IsRun at (event ∷ events) = IsAllowed at event × IsRun (after at event) events

-- before the first event
abbrev pub first_moment : Moment
first_moment = record { xacts = []; snaps = [] }

-- after every run each registered snapshot shows the transactions as they stood after some commit; from any moment on the horizon does not fall, and what no snapshot sees any more no later one sees
pub record HoldsInEveryRun : Type 0 where
  pub moments : (events : List Event) → IsRun first_moment events → IsRegistryOf (after_run first_moment events).xacts (after_run first_moment events).snaps
  pub horizon_never_falls : (at : Moment) (events : List Event) → IsRun at events → horizon at.xacts at.snaps ≤ horizon (after_run at events).xacts (after_run at events).snaps
  pub unseen_stays_unseen : (at : Moment) (events : List Event) (inserter ender : ℕ) → IsRegistryOf at.xacts at.snaps → IsRun at events → IsUnseen at.xacts at.snaps inserter ender → IsUnseen (after_run at events).xacts (after_run at events).snaps inserter ender
