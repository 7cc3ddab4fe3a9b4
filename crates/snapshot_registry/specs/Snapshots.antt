-- Snapshots: which transactions they show as committed, which versions they see, and the horizon below which no snapshot can see a version that has ended.
-- Documentation: "Transaction Isolation"; "System Information Functions, Transaction ID and Snapshot Information Functions" (pg_current_snapshot with its xmin, xmax and xip_list); "Snapshot Synchronization Functions"; "Routine Vacuuming".
use Rattle.std.specs.Prelude.{◌≡◌, ℕ, suc, ◌+◌, ◌-◌, ◌<◌, ◌≤◌, min, Bool, true, false, not, ◌&&◌, ◌||◌, List, [], ◌∷◌, ◌++◌, length, map, fold, slice_get, slice_set, Option, Some, None, is_some, option_and_then, ◌==◌, nat_lt, nat_le, if◌then◌else◌}
use Rattle.std.specs.List.{list_any}
use Rattle.std.specs.List.Sorted.{IsStrictlyIncreasing}
use Rattle.std.specs.Option.{option_flatten, option_map, option_map_or}
use Rattle.xact_status.specs.Xacts.{Xacts, next_xid, running_xids, is_running, is_committed}
use Rattle.snapshot_registry.specs.declared.Snapshot.{Snapshot}
use Rattle.snapshot_registry.specs.declared.Held.{Held}

-- the least of a number and of the numbers in a list
abbrev pub least : ℕ → List ℕ → ℕ
least n xs = fold min n xs

-- whether a list of xids holds an xid
abbrev pub holds : List ℕ → ℕ → Bool
holds xids xid = list_any (λ held. held == xid) xids

-- the snapshot that is taken at this moment: xids from xmax on were not given yet, those below xmin have ended, and of those between these run
abbrev pub snapshot_now : Xacts → Snapshot
snapshot_now xacts = record { xmin = least (next_xid xacts) (running_xids xacts); xmax = next_xid xacts; running = running_xids xacts }

-- whether a snapshot shows an xid as committed: it has committed, was given before the snapshot, and did not run then
abbrev pub committed_in : Xacts → Snapshot → ℕ → Bool
committed_in xacts snapshot xid = is_committed xacts xid && (nat_lt xid snapshot.xmax && not (holds snapshot.running xid))

-- whether a change is there for a reader: the xid that made it is the reader's own, or is shown as committed
abbrev pub takes_effect : Xacts → Snapshot → Option ℕ → ℕ → Bool
takes_effect xacts snapshot own xid = option_map_or (λ mine. mine == xid) own false || committed_in xacts snapshot xid

-- whether a reader with this snapshot and xid sees a version: its insertion is there, and its end is not
abbrev pub sees : Xacts → Snapshot → ℕ → Option ℕ → Option ℕ → Bool
sees xacts snapshot inserter ender own = takes_effect xacts snapshot own inserter && not (option_map_or (takes_effect xacts snapshot own) ender false)

-- the registered snapshots, each at the place of its id
abbrev pub Snaps : Type 0
Snaps = List (Option Held)

-- what is registered under an id, if anything: the map from ids to snapshots and holders
abbrev pub held_at : Snaps → ℕ → Option Held
held_at snaps id = option_flatten (slice_get snaps id)

-- whether an id is registered
abbrev pub is_registered : Snaps → ℕ → Bool
is_registered snaps id = is_some (held_at snaps id)

-- the number of holders of a snapshot, 0 where the id is not registered
abbrev pub holders_at : Snaps → ℕ → ℕ
holders_at snaps id = option_map_or (λ held. held.holders) (held_at snaps id) 0

-- whether a reader with the snapshot that is registered under an id sees a version
abbrev pub sees_at : Xacts → Snaps → ℕ → ℕ → Option ℕ → Option ℕ → Bool
sees_at xacts snaps id inserter ender own = option_map_or (λ held. sees xacts held.snapshot inserter ender own) (held_at snaps id) false

-- the registered snapshots, in the order of their ids
abbrev pub snapshots : Snaps → List Snapshot
snapshots [] = []
snapshots (None ∷ rest) = snapshots rest
snapshots (Some held ∷ rest) = held.snapshot ∷ snapshots rest

-- whether some registered snapshot sees a version, for a reader without an xid
abbrev pub seen_by_any : Xacts → Snaps → ℕ → Option ℕ → Bool
seen_by_any xacts snaps inserter ender = list_any (λ snapshot. sees xacts snapshot inserter ender None) (snapshots snaps)

-- the least of the next xid, the running xids and the xmins of the registered snapshots
abbrev pub horizon : Xacts → Snaps → ℕ
horizon xacts snaps = least (next_xid xacts) (running_xids xacts ++ map (λ snapshot. snapshot.xmin) (snapshots snaps))

-- whether a version must be kept: its inserter runs, or has committed and no committed transaction has ended it or some registered snapshot sees it
abbrev pub is_protected : Xacts → Snaps → ℕ → Option ℕ → Bool
is_protected xacts snaps inserter ender = is_running xacts inserter || (is_committed xacts inserter && (not (option_map_or (is_committed xacts) ender false) || seen_by_any xacts snaps inserter ender))

-- the least id that is not registered
abbrev pub least_free : Snaps → ℕ
least_free [] = 0
least_free (None ∷ rest) = 0
least_free (Some held ∷ rest) = suc (least_free rest)

-- the same, by what it means
pub record IsLeastFree (snaps : Snaps) (id : ℕ) : Type 0 where
  pub free : is_registered snaps id ≡ false
  pub least : (other : ℕ) → other < id → is_registered snaps other ≡ true

-- the registry after what is registered under one id is written
abbrev pub with_entry : Snaps → ℕ → Option Held → Snaps
with_entry snaps id entry = if nat_lt id (length snaps) then slice_set snaps id entry else snaps ++ entry ∷ []

-- the snapshot of this moment is registered under the least free id, with one holder
abbrev pub after_take : Snaps → Xacts → Snaps
after_take snaps xacts = with_entry snaps (least_free snaps) (Some (record { snapshot = snapshot_now xacts; holders = 1 }))

-- one holder more
abbrev pub one_more : Held → Held
one_more held = record held { holders = held.holders + 1 }

-- one holder less, and nothing where that was the last
abbrev pub one_less : Held → Option Held
one_less held = if nat_le held.holders 1 then None else Some (record held { holders = held.holders - 1 })

-- a snapshot has one holder more
abbrev pub after_share : Snaps → ℕ → Snaps
after_share snaps id = slice_set snaps id (option_map one_more (held_at snaps id))

-- a snapshot has one holder less, and is registered no longer where that was the last
abbrev pub after_release : Snaps → ℕ → Snaps
after_release snaps id = slice_set snaps id (option_and_then one_less (held_at snaps id))

-- what a registry keeps of each registered snapshot: it has a holder, and its running xids ascend
pub record IsSoundHeld (held : Held) : Type 0 where
  pub has_holder : 1 ≤ held.holders
  pub ascending : IsStrictlyIncreasing held.snapshot.running

-- each registered snapshot is sound
pub record IsSound (snaps : Snaps) : Type 0 where
  pub each : (id : ℕ) (held : Held) → held_at snaps id ≡ Some held → IsSoundHeld held
