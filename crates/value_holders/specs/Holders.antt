-- The versions that hold a value out of line, and what holds between their stamps, the stamps of the value's chunks, the transactions and the registered snapshots, so that no reader misses a chunk. Documentation: "TOAST"; "Routine Vacuuming, Recovering Disk Space".
use Rattle.std.specs.Prelude.{◌≡◌, ◌≢◌, ℕ, true, false, ◌⊎◌, List, Option, Some, None, Contains}
use Rattle.std.specs.Option.{option_map_or}
use Rattle.xact_status.specs.Xacts.{Xacts, IsAssigned, is_running, is_committed, commit_number}
use Rattle.snapshot_registry.specs.Snapshots.{Snaps, is_protected}
use Rattle.snapshot_registry.specs.Laws.{is_committed_by}
use Rattle.xact_status.specs.declared.Stamp.{Stamp}
use Rattle.xact_status.specs.Versions.{is_current}
use Rattle.value_holders.specs.Stamps.{Runs, IsUnended, IsSoundStamp, ended_by, fresh, has_ended}

-- the holders of a value: at each place the stamp of the version there, if that holds the value. The places may be tids
abbrev pub Holders : Type 0 → Type 0
Holders K = K → Option Stamp

-- every holder's stamp is sound
pub record AreSound {K : Type 0} (xacts : Xacts) (holders : Holders K) : Type 0 where
  pub each : (place : K) (stamp : Stamp) → holders place ≡ Some stamp → IsSoundStamp xacts stamp

-- at a place stands a protected version that holds the value
pub record Protects {K : Type 0} (xacts : Xacts) (snaps : Snaps) (holders : Holders K) (place : K) (stamp : Stamp) : Type 0 where
  pub there : holders place ≡ Some stamp
  pub protected : is_protected xacts snaps stamp.inserter stamp.ender ≡ true

-- each protected holder has ended for a transaction
pub record AreEnded {K : Type 0} (xacts : Xacts) (snaps : Snaps) (holders : Holders K) (xid : ℕ) : Type 0 where
  pub each : (place : K) (stamp : Stamp) → Protects xacts snaps holders place stamp → has_ended xacts (Some xid) stamp ≡ true

-- each protected holder's ender has committed, no later than the commit with a number
pub record AreEndedBy {K : Type 0} (xacts : Xacts) (snaps : Snaps) (holders : Holders K) (number : ℕ) : Type 0 where
  pub each : (place : K) (stamp : Stamp) → Protects xacts snaps holders place stamp → option_map_or (is_committed_by xacts number) stamp.ender false ≡ true

-- a chunk of the value, known by its stamp: its ender comes no earlier than those of the protected holders, and its inserter is each protected holder's own or has committed
pub record IsChunkHeld {K : Type 0} (xacts : Xacts) (snaps : Snaps) (holders : Holders K) (chunk : Stamp) : Type 0 where
  pub ending : (xid : ℕ) → chunk.ender ≡ Some xid → is_running xacts xid ≡ true → AreEnded xacts snaps holders xid
  pub ended : (xid number : ℕ) → chunk.ender ≡ Some xid → commit_number xacts xid ≡ Some number → AreEndedBy xacts snaps holders number
  pub put : (place : K) (stamp : Stamp) → Protects xacts snaps holders place stamp → (chunk.inserter ≡ stamp.inserter) ⊎ (is_committed xacts chunk.inserter ≡ true)

-- what holds of a value, by its holders and the stamps of its chunks
pub record IsHeld {K : Type 0} (xacts : Xacts) (snaps : Snaps) (holders : Holders K) (chunks : List Stamp) : Type 0 where
  pub sound : AreSound xacts holders
  -- for each running transaction, and for none, at most one holder is there
  pub one_current : (own : Option ℕ) (place other : K) (stamp its : Stamp) → Runs xacts own → holders place ≡ Some stamp → holders other ≡ Some its → is_current xacts own stamp ≡ true → is_current xacts own its ≡ true → place ≡ other
  -- where a running transaction has inserted a holder, each protected one is its own too, or has committed and has ended for it
  pub one_world : (place other : K) (stamp its : Stamp) → is_running xacts stamp.inserter ≡ true → holders place ≡ Some stamp → Protects xacts snaps holders other its
      → (its.inserter ≡ stamp.inserter) ⊎ ((is_committed xacts its.inserter ≡ true) × (has_ended xacts (Some stamp.inserter) its ≡ true))
  pub each_chunk : (chunk : Stamp) → Contains chunks chunk → IsChunkHeld xacts snaps holders chunk

-- no chunk's ender runs or has committed
pub record AreUnended (xacts : Xacts) (chunks : List Stamp) : Type 0 where
  pub each : (chunk : Stamp) → Contains chunks chunk → IsUnended xacts chunk.ender

-- each chunk was put by a transaction, or by one that has committed
pub record ArePutBy (xacts : Xacts) (xid : ℕ) (chunks : List Stamp) : Type 0 where
  pub each : (chunk : Stamp) → Contains chunks chunk → (chunk.inserter ≡ xid) ⊎ (is_committed xacts chunk.inserter ≡ true)

-- the chunks' enders were given their xids
pub record AreGiven (xacts : Xacts) (chunks : List Stamp) : Type 0 where
  pub each : (chunk : Stamp) (xid : ℕ) → Contains chunks chunk → chunk.ender ≡ Some xid → IsAssigned xacts xid

-- a transaction has ended the version at a place, which held the value with this stamp; no holder has come
pub record IsEndedAt {K : Type 0} (old new : Holders K) (xid : ℕ) (place : K) (was : Stamp) : Type 0 where
  pub there : old place ≡ Some was
  pub each : (other : K) (stamp : Stamp) → new other ≡ Some stamp → ((other ≡ place) × (stamp ≡ ended_by xid was)) ⊎ ((other ≢ place) × (old other ≡ Some stamp))

-- a transaction has put a version that holds the value at a place; no other has come
pub record Joins {K : Type 0} (old new : Holders K) (xid : ℕ) (place : K) : Type 0 where
  pub each : (other : K) (stamp : Stamp) → new other ≡ Some stamp → ((other ≡ place) × (stamp ≡ fresh xid)) ⊎ (old other ≡ Some stamp)

-- no holder has come
pub record IsPartOf {K : Type 0} (old new : Holders K) : Type 0 where
  pub each : (place : K) (stamp : Stamp) → new place ≡ Some stamp → old place ≡ Some stamp

-- no chunk has come, and a transaction may have ended some
pub record MayEnd (old new : List Stamp) (xid : ℕ) : Type 0 where
  pub each : (chunk : Stamp) → Contains new chunk → Contains old chunk ⊎ ((was : Stamp) × Contains old was × (chunk ≡ ended_by xid was))

-- no chunk has come
pub record AreAmong (old new : List Stamp) : Type 0 where
  pub each : (chunk : Stamp) → Contains new chunk → Contains old chunk
