-- What every event does to the holders of a value and to its chunks, and what the facts of a held value are good for. K are the places of the holders, such as tids.
-- The crates above prove IsHeld of each value of a table; where a law asks more, its comment names the fact that meets it there.
use Rattle.std.specs.Prelude.{◌≡◌, ℕ, ◌≤◌, true, false, ◌⊎◌, List, Option, Some, None, Contains}
use Rattle.std.specs.Option.{option_map_or}
use Rattle.xact_status.specs.Xacts.{Xacts, is_running, is_committed, is_aborted, commit_number, after_assign, after_commit, after_abort}
use Rattle.xact_status.specs.Versions.{is_dead, is_current}
use Rattle.snapshot_registry.specs.Snapshots.{Snaps, is_registered, sees_at, horizon, is_protected, after_take, after_share, after_release}
use Rattle.snapshot_registry.specs.Laws.{IsRegistryOf}
use Rattle.xact_status.specs.declared.Stamp.{Stamp}
use Rattle.value_holders.specs.Stamps.{Runs, IsOpenFor, IsSoundStamp, has_no_end}
use Rattle.value_holders.specs.Holders.{Holders, AreSound, Protects, AreEnded, IsHeld, AreUnended, ArePutBy, AreGiven, IsEndedAt, Joins, IsPartOf, MayEnd, AreAmong}

-- Each start, commit and abort of a transaction, and each call on the registry of snapshots, keeps a held value held.
-- IsRegistryOf: the core keeps it of its own statuses and snapshots. AreGiven: the store's chunks have enders that were given. That the ended transaction runs: it is the session's own.
pub record EventsKeepHeld (K : Type 0) : Type 0 where
  pub assigned : (xacts : Xacts) (snaps : Snaps) (session : ℕ) (holders : Holders K) (chunks : List Stamp) → IsRegistryOf xacts snaps → AreGiven xacts chunks
      → IsHeld xacts snaps holders chunks → IsHeld (after_assign xacts session) snaps holders chunks
  pub committed : (xacts : Xacts) (snaps : Snaps) (over : ℕ) (holders : Holders K) (chunks : List Stamp) → is_running xacts over ≡ true → IsRegistryOf xacts snaps
      → IsHeld xacts snaps holders chunks → IsHeld (after_commit xacts over) snaps holders chunks
  pub aborted : (xacts : Xacts) (snaps : Snaps) (over : ℕ) (holders : Holders K) (chunks : List Stamp) → is_running xacts over ≡ true → IsRegistryOf xacts snaps
      → IsHeld xacts snaps holders chunks → IsHeld (after_abort xacts over) snaps holders chunks
  pub taken : (xacts : Xacts) (snaps : Snaps) (holders : Holders K) (chunks : List Stamp)
      → IsHeld xacts snaps holders chunks → IsHeld xacts (after_take snaps xacts) holders chunks
  pub shared : (xacts : Xacts) (snaps : Snaps) (id : ℕ) (holders : Holders K) (chunks : List Stamp)
      → IsHeld xacts snaps holders chunks → IsHeld xacts (after_share snaps id) holders chunks
  pub released : (xacts : Xacts) (snaps : Snaps) (id : ℕ) (holders : Holders K) (chunks : List Stamp)
      → IsHeld xacts snaps holders chunks → IsHeld xacts (after_release snaps id) holders chunks

-- What a running transaction does to the versions of a row, and to a value's chunks, keeps a held value held.
-- That the transaction runs: it is the writing session's own.
pub record StepsKeepHeld (K : Type 0) : Type 0 where
  -- while a value is being saved no protected version holds it, since its id was drawn when no protected version had it
  pub unheld : (xacts : Xacts) (snaps : Snaps) (holders : Holders K) (chunks : List Stamp) → AreSound xacts holders
      → ((place : K) (stamp : Stamp) → Protects xacts snaps holders place stamp → ⊥) → IsHeld xacts snaps holders chunks
  -- a version with the value is put. AreEnded: of a new value there is no protected holder; of a kept one by `all_ended`. AreUnended: of a new value its save put each chunk without an ender; of a kept one by `whole_before`. ArePutBy: a new value's save put each chunk by this xid; of a kept one by `put_before`
  pub joined : (xacts : Xacts) (snaps : Snaps) (old new : Holders K) (chunks : List Stamp) (xid : ℕ) (place : K) → is_running xacts xid ≡ true
      → AreEnded xacts snaps old xid → AreUnended xacts chunks → ArePutBy xacts xid chunks → Joins old new xid place
      → IsHeld xacts snaps old chunks → IsHeld xacts snaps new chunks
  -- a version with the value is ended, as by a delete, or by an update that does not keep the value. IsOpenFor: the write's old version is there for its transaction and is claimed, so that nobody else ends it
  pub dropped : (xacts : Xacts) (snaps : Snaps) (old new : Holders K) (chunks : List Stamp) (xid : ℕ) (place : K) (was : Stamp) → is_running xacts xid ≡ true
      → IsOpenFor xacts xid was → IsEndedAt old new xid place was
      → IsHeld xacts snaps old chunks → IsHeld xacts snaps new chunks
  -- it is ended and a version with the same value is put, as by an update that keeps the value
  pub kept : (xacts : Xacts) (snaps : Snaps) (old middle new : Holders K) (chunks : List Stamp) (xid : ℕ) (place to : K) (was : Stamp) → is_running xacts xid ≡ true
      → IsOpenFor xacts xid was → IsEndedAt old middle xid place was → Joins middle new xid to
      → IsHeld xacts snaps old chunks → IsHeld xacts snaps new chunks
  -- the enders of chunks are set. AreEnded: by `all_ended` at the version step, and from then on by AreEndedStay
  pub marked : (xacts : Xacts) (snaps : Snaps) (holders : Holders K) (chunks marked : List Stamp) (xid : ℕ) → is_running xacts xid ≡ true
      → AreEnded xacts snaps holders xid → MayEnd chunks marked xid
      → IsHeld xacts snaps holders chunks → IsHeld xacts snaps holders marked
  -- vacuum takes versions or chunks away. That none comes: by what a prune is
  pub pruned : (xacts : Xacts) (snaps : Snaps) (old new : Holders K) (chunks left : List Stamp) → IsPartOf old new → AreAmong chunks left
      → IsHeld xacts snaps old chunks → IsHeld xacts snaps new left
  -- a rewrite's copies stand in the place of a table's versions. It copies versions whose inserters have committed; no two copies with one value are there at once, as no two of the versions were; its own xid, which has put every chunk and ended none, has just committed
  pub rewritten : (xacts : Xacts) (snaps : Snaps) (holders : Holders K) (chunks : List Stamp)
      → ((place : K) (stamp : Stamp) → holders place ≡ Some stamp → is_committed xacts stamp.inserter ≡ true)
      → ((place other : K) (stamp its : Stamp) → holders place ≡ Some stamp → holders other ≡ Some its → is_current xacts None stamp ≡ true → is_current xacts None its ≡ true → place ≡ other)
      → AreUnended xacts chunks → ((chunk : Stamp) → Contains chunks chunk → is_committed xacts chunk.inserter ≡ true) → IsHeld xacts snaps holders chunks

-- What a version step finds and leaves: each protected holder has ended for a transaction that has ended the one that was there for it, and no chunk of a value that is there for a transaction has an ender that counts
pub record VersionStepTells (K : Type 0) : Type 0 where
  pub all_ended : (xacts : Xacts) (snaps : Snaps) (old new : Holders K) (chunks : List Stamp) (xid : ℕ) (place : K) (was : Stamp) → is_running xacts xid ≡ true
      → IsOpenFor xacts xid was → IsEndedAt old new xid place was → IsHeld xacts snaps old chunks → AreEnded xacts snaps new xid
  pub whole_before : (xacts : Xacts) (snaps : Snaps) (holders : Holders K) (chunks : List Stamp) (xid : ℕ) (place : K) (was : Stamp) → is_running xacts xid ≡ true
      → IsOpenFor xacts xid was → holders place ≡ Some was → IsHeld xacts snaps holders chunks → AreUnended xacts chunks
  pub put_before : (xacts : Xacts) (snaps : Snaps) (holders : Holders K) (chunks : List Stamp) (xid : ℕ) (place : K) (was : Stamp) → is_running xacts xid ≡ true
      → IsOpenFor xacts xid was → holders place ≡ Some was → IsHeld xacts snaps holders chunks → ArePutBy xacts xid chunks
  -- two transactions cannot end one value: while each protected holder has ended for one that runs, no other that runs has one to end
  pub closed : (xacts : Xacts) (snaps : Snaps) (holders : Holders K) (xid other : ℕ) (place : K) (was : Stamp) → is_running xacts xid ≡ true → is_running xacts other ≡ true
      → AreEnded xacts snaps holders xid → holders place ≡ Some was → IsOpenFor xacts other was → ⊥

-- From its version step on, while a transaction marks the chunks of a value, all that others do keeps that each protected holder has ended for it. AreSound: a part of IsHeld
pub record AreEndedStay (K : Type 0) : Type 0 where
  pub assigned : (xacts : Xacts) (snaps : Snaps) (session xid : ℕ) (holders : Holders K) → IsRegistryOf xacts snaps → AreSound xacts holders
      → AreEnded xacts snaps holders xid → AreEnded (after_assign xacts session) snaps holders xid
  pub committed : (xacts : Xacts) (snaps : Snaps) (over xid : ℕ) (holders : Holders K) → is_running xacts over ≡ true → IsRegistryOf xacts snaps → AreSound xacts holders
      → AreEnded xacts snaps holders xid → AreEnded (after_commit xacts over) snaps holders xid
  pub aborted : (xacts : Xacts) (snaps : Snaps) (over xid : ℕ) (holders : Holders K) → is_running xacts over ≡ true → IsRegistryOf xacts snaps → AreSound xacts holders
      → AreEnded xacts snaps holders xid → AreEnded (after_abort xacts over) snaps holders xid
  pub taken : (xacts : Xacts) (snaps : Snaps) (xid : ℕ) (holders : Holders K) → AreSound xacts holders
      → AreEnded xacts snaps holders xid → AreEnded xacts (after_take snaps xacts) holders xid
  pub shared : (xacts : Xacts) (snaps : Snaps) (id xid : ℕ) (holders : Holders K) → AreSound xacts holders
      → AreEnded xacts snaps holders xid → AreEnded xacts (after_share snaps id) holders xid
  pub released : (xacts : Xacts) (snaps : Snaps) (id xid : ℕ) (holders : Holders K) → AreSound xacts holders
      → AreEnded xacts snaps holders xid → AreEnded xacts (after_release snaps id) holders xid
  pub pruned : (xacts : Xacts) (snaps : Snaps) (old new : Holders K) (xid : ℕ) → IsPartOf old new → AreEnded xacts snaps old xid → AreEnded xacts snaps new xid

-- What a registered snapshot or a running transaction sees is protected, and a snapshot goes on to see it for as long as it is registered
pub record ReadersAreSafe : Type 0 where
  pub seen_is_protected : (xacts : Xacts) (snaps : Snaps) (id inserter : ℕ) (ender own : Option ℕ) → Runs xacts own → sees_at xacts snaps id inserter ender own ≡ true → is_protected xacts snaps inserter ender ≡ true
  pub current_is_protected : (xacts : Xacts) (snaps : Snaps) (own : Option ℕ) (stamp : Stamp) → Runs xacts own → is_current xacts own stamp ≡ true → is_protected xacts snaps stamp.inserter stamp.ender ≡ true
  -- the end by a running transaction hides a version from that transaction alone
  pub seen_past_end : (xacts : Xacts) (snaps : Snaps) (id inserter xid : ℕ) (ender : Option ℕ) → is_running xacts xid ≡ true → sees_at xacts snaps id inserter ender None ≡ true → sees_at xacts snaps id inserter (Some xid) None ≡ true
  pub seen_past_assign : (xacts : Xacts) (snaps : Snaps) (session id inserter : ℕ) (ender own : Option ℕ) → sees_at (after_assign xacts session) snaps id inserter ender own ≡ sees_at xacts snaps id inserter ender own
  pub seen_past_commit : (xacts : Xacts) (snaps : Snaps) (over id inserter : ℕ) (ender own : Option ℕ) → is_running xacts over ≡ true → IsRegistryOf xacts snaps → sees_at (after_commit xacts over) snaps id inserter ender own ≡ sees_at xacts snaps id inserter ender own
  pub seen_past_abort : (xacts : Xacts) (snaps : Snaps) (over id inserter : ℕ) (ender own : Option ℕ) → is_running xacts over ≡ true → sees_at (after_abort xacts over) snaps id inserter ender own ≡ sees_at xacts snaps id inserter ender own
  pub seen_past_take : (xacts : Xacts) (snaps : Snaps) (id inserter : ℕ) (ender own : Option ℕ) → is_registered snaps id ≡ true → sees_at xacts (after_take snaps xacts) id inserter ender own ≡ sees_at xacts snaps id inserter ender own
  pub seen_past_share : (xacts : Xacts) (snaps : Snaps) (shared id inserter : ℕ) (ender own : Option ℕ) → is_registered snaps shared ≡ true → sees_at xacts (after_share snaps shared) id inserter ender own ≡ sees_at xacts snaps id inserter ender own
  pub seen_past_release : (xacts : Xacts) (snaps : Snaps) (released id inserter : ℕ) (ender own : Option ℕ) → is_registered (after_release snaps released) id ≡ true → sees_at xacts (after_release snaps released) id inserter ender own ≡ sees_at xacts snaps id inserter ender own

-- A vacuum under the horizon, or under an earlier one, takes no protected version and no chunk of a value that a protected version holds, and no inserter of such a chunk has aborted.
-- IsRegistryOf: the core's own. The bound: a vacuum's horizon is that of its start, and no horizon falls
pub record ProtectedIsSpared (K : Type 0) : Type 0 where
  pub version : (xacts : Xacts) (snaps : Snaps) (bound : ℕ) (stamp : Stamp) → IsRegistryOf xacts snaps → bound ≤ horizon xacts snaps → IsSoundStamp xacts stamp
      → is_protected xacts snaps stamp.inserter stamp.ender ≡ true → is_dead xacts bound stamp.inserter stamp.ender ≡ false
  pub chunk : (xacts : Xacts) (snaps : Snaps) (bound : ℕ) (holders : Holders K) (chunks : List Stamp) (place : K) (stamp chunk : Stamp) → IsRegistryOf xacts snaps → bound ≤ horizon xacts snaps
      → IsHeld xacts snaps holders chunks → Protects xacts snaps holders place stamp → Contains chunks chunk → is_dead xacts bound chunk.inserter chunk.ender ≡ false
  pub not_aborted : (xacts : Xacts) (snaps : Snaps) (holders : Holders K) (chunks : List Stamp) (place : K) (stamp chunk : Stamp)
      → IsHeld xacts snaps holders chunks → Protects xacts snaps holders place stamp → Contains chunks chunk → is_aborted xacts chunk.inserter ≡ false

-- Of the protected versions that hold one value at most one has no ender or an aborted one, and where there is such a version no chunk of the value has a running or committed ender
pub record OneLiveHolder (K : Type 0) : Type 0 where
  pub at_most_one : (xacts : Xacts) (snaps : Snaps) (holders : Holders K) (chunks : List Stamp) (place other : K) (stamp its : Stamp) → IsHeld xacts snaps holders chunks
      → Protects xacts snaps holders place stamp → Protects xacts snaps holders other its → has_no_end xacts stamp ≡ true → has_no_end xacts its ≡ true → place ≡ other
  pub whole : (xacts : Xacts) (snaps : Snaps) (holders : Holders K) (chunks : List Stamp) (place : K) (stamp : Stamp) → IsHeld xacts snaps holders chunks
      → Protects xacts snaps holders place stamp → has_no_end xacts stamp ≡ true → AreUnended xacts chunks

-- Where a chunk of a value has a running ender, each protected holder has that ender or a committed one; where it has a committed ender, each protected holder's ender has committed, and no later in the order of commits. The order is of commits, not of xids
pub record EnderOrder (K : Type 0) : Type 0 where
  pub running : (xacts : Xacts) (snaps : Snaps) (holders : Holders K) (chunks : List Stamp) (place : K) (stamp chunk : Stamp) (xid : ℕ) → IsHeld xacts snaps holders chunks
      → Protects xacts snaps holders place stamp → Contains chunks chunk → chunk.ender ≡ Some xid → is_running xacts xid ≡ true
      → (stamp.ender ≡ Some xid) ⊎ (option_map_or (is_committed xacts) stamp.ender false ≡ true)
  pub committed : (xacts : Xacts) (snaps : Snaps) (holders : Holders K) (chunks : List Stamp) (place : K) (stamp chunk : Stamp) (xid number : ℕ) → IsHeld xacts snaps holders chunks
      → Protects xacts snaps holders place stamp → Contains chunks chunk → chunk.ender ≡ Some xid → commit_number xacts xid ≡ Some number
      → (ender its : ℕ) × (stamp.ender ≡ Some ender) × (commit_number xacts ender ≡ Some its) × (its ≤ number)
