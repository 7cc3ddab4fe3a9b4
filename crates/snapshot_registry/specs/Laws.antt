-- What holds between a table of transactions and the snapshots that were taken from it, and what each event keeps of it. An event is a start, a commit or an abort of a transaction, or a snapshot that is taken, shared or released.
use Rattle.std.specs.Prelude.{◌≡◌, ℕ, ◌<◌, ◌≤◌, Bool, true, false, [], Option, Some, nat_le, ◌==◌, if◌then◌else◌}
use Rattle.std.specs.Option.{option_and_then, option_map, option_map_or}
use Rattle.xact_status.specs.Xacts.{Xacts, IsNumbered, IsAssigned, next_xid, is_running, is_committed, commit_number, commit_count, after_assign, after_commit, after_abort}
use Rattle.xact_status.specs.Versions.{is_dead}
use Rattle.snapshot_registry.specs.declared.Snapshot.{Snapshot}
use Rattle.snapshot_registry.specs.declared.Held.{Held}
use Rattle.snapshot_registry.specs.Snapshots.{Snaps, IsLeastFree, is_registered, least_free, one_more, one_less, holds, snapshot_now, committed_in, sees, held_at, seen_by_any, horizon, is_protected, after_take, after_share, after_release}

-- each call changes what is registered under one id, and nothing under any other
pub record RegistryIsAMap : Type 0 where
  pub free_is_least : (snaps : Snaps) → IsLeastFree snaps (least_free snaps)
  pub taken : (xacts : Xacts) (snaps : Snaps) (id : ℕ) → held_at (after_take snaps xacts) id ≡ (if id == least_free snaps then Some (record { snapshot = snapshot_now xacts; holders = 1 }) else held_at snaps id)
  pub shared : (snaps : Snaps) (shared id : ℕ) → is_registered snaps shared ≡ true → held_at (after_share snaps shared) id ≡ (if id == shared then option_map one_more (held_at snaps shared) else held_at snaps id)
  pub released : (snaps : Snaps) (released id : ℕ) → is_registered snaps released ≡ true → held_at (after_release snaps released) id ≡ (if id == released then option_and_then one_less (held_at snaps released) else held_at snaps id)

-- whether an xid has committed with a number of at most the given one
abbrev pub is_committed_by : Xacts → ℕ → ℕ → Bool
is_committed_by xacts number xid = option_map_or (λ its. nat_le its number) (commit_number xacts xid) false

-- the snapshot shows the table as it stood after the commit with this number
pub record ShowsMoment (xacts : Xacts) (snapshot : Snapshot) (number : ℕ) : Type 0 where
  pub past : number ≤ commit_count xacts
  pub shows : (xid : ℕ) → committed_in xacts snapshot xid ≡ is_committed_by xacts number xid

-- the snapshot was taken from this table, now or before
pub record IsTakenFrom (xacts : Xacts) (snapshot : Snapshot) : Type 0 where
  pub number : ℕ
  pub moment : ShowsMoment xacts snapshot number
  -- what runs now ran then, or was not given yet
  pub knows : (xid : ℕ) → is_running xacts xid ≡ true → xid < snapshot.xmax → holds snapshot.running xid ≡ true
  pub xmax_given : snapshot.xmax ≤ next_xid xacts
  pub running_given : (xid : ℕ) → holds snapshot.running xid ≡ true → IsAssigned xacts xid
  pub xmin_below_xmax : snapshot.xmin ≤ snapshot.xmax
  pub xmin_below_running : (xid : ℕ) → holds snapshot.running xid ≡ true → snapshot.xmin ≤ xid

-- each registered snapshot was taken from this table
pub record IsRegistryOf (xacts : Xacts) (snaps : Snaps) : Type 0 where
  pub numbered : IsNumbered xacts
  pub each : (id : ℕ) (held : Held) → held_at snaps id ≡ Some held → IsTakenFrom xacts held.snapshot

-- every event keeps each registered snapshot at its moment, and a new one shows the moment of the latest commit
pub record SnapshotsAreMoments : Type 0 where
  pub none : IsRegistryOf [] []
  pub taken_now : (xacts : Xacts) → IsNumbered xacts → ShowsMoment xacts (snapshot_now xacts) (commit_count xacts)
  pub taken : (xacts : Xacts) (snaps : Snaps) → IsRegistryOf xacts snaps → IsRegistryOf xacts (after_take snaps xacts)
  pub shared : (xacts : Xacts) (snaps : Snaps) (id : ℕ) → IsRegistryOf xacts snaps → IsRegistryOf xacts (after_share snaps id)
  pub released : (xacts : Xacts) (snaps : Snaps) (id : ℕ) → IsRegistryOf xacts snaps → IsRegistryOf xacts (after_release snaps id)
  pub assigned : (xacts : Xacts) (snaps : Snaps) (session : ℕ) → IsRegistryOf xacts snaps → IsRegistryOf (after_assign xacts session) snaps
  pub committed : (xacts : Xacts) (snaps : Snaps) (xid : ℕ) → is_running xacts xid ≡ true → IsRegistryOf xacts snaps → IsRegistryOf (after_commit xacts xid) snaps
  pub aborted : (xacts : Xacts) (snaps : Snaps) (xid : ℕ) → is_running xacts xid ≡ true → IsRegistryOf xacts snaps → IsRegistryOf (after_abort xacts xid) snaps

-- no start, commit or abort changes what a snapshot shows as committed
pub record SnapshotsStay : Type 0 where
  pub assigned : (xacts : Xacts) (snapshot : Snapshot) (session xid : ℕ) → IsTakenFrom xacts snapshot → committed_in (after_assign xacts session) snapshot xid ≡ committed_in xacts snapshot xid
  pub committed : (xacts : Xacts) (snapshot : Snapshot) (ended xid : ℕ) → is_running xacts ended ≡ true → IsTakenFrom xacts snapshot → committed_in (after_commit xacts ended) snapshot xid ≡ committed_in xacts snapshot xid
  pub aborted : (xacts : Xacts) (snapshot : Snapshot) (ended xid : ℕ) → is_running xacts ended ≡ true → IsTakenFrom xacts snapshot → committed_in (after_abort xacts ended) snapshot xid ≡ committed_in xacts snapshot xid

-- no event lowers the horizon
pub record HorizonNeverFalls : Type 0 where
  pub taken : (xacts : Xacts) (snaps : Snaps) → horizon xacts snaps ≤ horizon xacts (after_take snaps xacts)
  pub shared : (xacts : Xacts) (snaps : Snaps) (id : ℕ) → horizon xacts snaps ≤ horizon xacts (after_share snaps id)
  pub released : (xacts : Xacts) (snaps : Snaps) (id : ℕ) → horizon xacts snaps ≤ horizon xacts (after_release snaps id)
  pub assigned : (xacts : Xacts) (snaps : Snaps) (session : ℕ) → horizon xacts snaps ≤ horizon (after_assign xacts session) snaps
  pub committed : (xacts : Xacts) (snaps : Snaps) (xid : ℕ) → is_running xacts xid ≡ true → horizon xacts snaps ≤ horizon (after_commit xacts xid) snaps
  pub aborted : (xacts : Xacts) (snaps : Snaps) (xid : ℕ) → is_running xacts xid ≡ true → horizon xacts snaps ≤ horizon (after_abort xacts xid) snaps

-- a version that a committed transaction has ended and no registered snapshot sees
pub record IsUnseen (xacts : Xacts) (snaps : Snaps) (inserter ender : ℕ) : Type 0 where
  pub ended : is_committed xacts ender ≡ true
  pub unseen : seen_by_any xacts snaps inserter (Some ender) ≡ false

-- no event makes such a version seen again, and no new snapshot sees a version that a committed transaction has ended, whoever reads
pub record UnseenStaysUnseen : Type 0 where
  pub taken_now : (xacts : Xacts) (inserter ender : ℕ) (own : Option ℕ) → is_committed xacts ender ≡ true → sees xacts (snapshot_now xacts) inserter (Some ender) own ≡ false
  pub taken : (xacts : Xacts) (snaps : Snaps) (inserter ender : ℕ) → IsUnseen xacts snaps inserter ender → IsUnseen xacts (after_take snaps xacts) inserter ender
  pub shared : (xacts : Xacts) (snaps : Snaps) (id inserter ender : ℕ) → IsUnseen xacts snaps inserter ender → IsUnseen xacts (after_share snaps id) inserter ender
  pub released : (xacts : Xacts) (snaps : Snaps) (id inserter ender : ℕ) → IsUnseen xacts snaps inserter ender → IsUnseen xacts (after_release snaps id) inserter ender
  pub assigned : (xacts : Xacts) (snaps : Snaps) (session inserter ender : ℕ) → IsRegistryOf xacts snaps → IsUnseen xacts snaps inserter ender → IsUnseen (after_assign xacts session) snaps inserter ender
  pub committed : (xacts : Xacts) (snaps : Snaps) (xid inserter ender : ℕ) → is_running xacts xid ≡ true → IsRegistryOf xacts snaps → IsUnseen xacts snaps inserter ender → IsUnseen (after_commit xacts xid) snaps inserter ender
  pub aborted : (xacts : Xacts) (snaps : Snaps) (xid inserter ender : ℕ) → is_running xacts xid ≡ true → IsRegistryOf xacts snaps → IsUnseen xacts snaps inserter ender → IsUnseen (after_abort xacts xid) snaps inserter ender

-- what is dead under the horizon, or under an earlier one, is seen by no registered snapshot, and is not protected unless its inserter still runs
pub record DeadIsUnseen : Type 0 where
  pub unseen : (xacts : Xacts) (snaps : Snaps) (bound inserter : ℕ) (ender : Option ℕ) → IsRegistryOf xacts snaps → bound ≤ horizon xacts snaps → is_dead xacts bound inserter ender ≡ true → seen_by_any xacts snaps inserter ender ≡ false
  pub unprotected : (xacts : Xacts) (snaps : Snaps) (bound inserter : ℕ) (ender : Option ℕ) → IsRegistryOf xacts snaps → bound ≤ horizon xacts snaps → is_dead xacts bound inserter ender ≡ true → is_running xacts inserter ≡ false → is_protected xacts snaps inserter ender ≡ false

-- where an xid has committed below the horizon, or below an earlier one, a version that was ended by that commit or by one before it is seen by no registered snapshot, and is not protected unless its inserter still runs. The order is that of commits: the version's own ender may be above the bound
pub record EarlierEndsAreUnseen : Type 0 where
  pub unseen : (xacts : Xacts) (snaps : Snaps) (bound xid number inserter ender : ℕ) → IsRegistryOf xacts snaps → bound ≤ horizon xacts snaps → xid < bound → commit_number xacts xid ≡ Some number → is_committed_by xacts number ender ≡ true → seen_by_any xacts snaps inserter (Some ender) ≡ false
  pub unprotected : (xacts : Xacts) (snaps : Snaps) (bound xid number inserter ender : ℕ) → IsRegistryOf xacts snaps → bound ≤ horizon xacts snaps → xid < bound → commit_number xacts xid ≡ Some number → is_committed_by xacts number ender ≡ true → is_running xacts inserter ≡ false → is_protected xacts snaps inserter (Some ender) ≡ false

-- a version whose inserter was given an xid, and that need not be kept
pub record IsUnprotected (xacts : Xacts) (snaps : Snaps) (inserter : ℕ) (ender : Option ℕ) : Type 0 where
  pub given : IsAssigned xacts inserter
  pub unprotected : is_protected xacts snaps inserter ender ≡ false

-- no event makes such a version one that must be kept
pub record UnprotectedStays : Type 0 where
  pub taken : (xacts : Xacts) (snaps : Snaps) (inserter : ℕ) (ender : Option ℕ) → IsUnprotected xacts snaps inserter ender → IsUnprotected xacts (after_take snaps xacts) inserter ender
  pub shared : (xacts : Xacts) (snaps : Snaps) (id inserter : ℕ) (ender : Option ℕ) → IsUnprotected xacts snaps inserter ender → IsUnprotected xacts (after_share snaps id) inserter ender
  pub released : (xacts : Xacts) (snaps : Snaps) (id inserter : ℕ) (ender : Option ℕ) → IsUnprotected xacts snaps inserter ender → IsUnprotected xacts (after_release snaps id) inserter ender
  pub assigned : (xacts : Xacts) (snaps : Snaps) (session inserter : ℕ) (ender : Option ℕ) → IsRegistryOf xacts snaps → IsUnprotected xacts snaps inserter ender → IsUnprotected (after_assign xacts session) snaps inserter ender
  pub committed : (xacts : Xacts) (snaps : Snaps) (xid inserter : ℕ) (ender : Option ℕ) → is_running xacts xid ≡ true → IsRegistryOf xacts snaps → IsUnprotected xacts snaps inserter ender → IsUnprotected (after_commit xacts xid) snaps inserter ender
  pub aborted : (xacts : Xacts) (snaps : Snaps) (xid inserter : ℕ) (ender : Option ℕ) → is_running xacts xid ≡ true → IsRegistryOf xacts snaps → IsUnprotected xacts snaps inserter ender → IsUnprotected (after_abort xacts xid) snaps inserter ender
