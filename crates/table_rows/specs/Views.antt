-- What a transaction knows of a key at which it has made a change, and what a copy knows of each key. Each is a fact of one table and one key, that a session keeps through all events.
use Rattle.std.specs.Prelude.{ℕ, ℤ, ◌≡◌, Bool, true, false, ◌&&◌, Some}
use Rattle.std.specs.Option.{option_map_or}
use Rattle.std.specs.Ordering.{int_cmp, is_eq}
use Rattle.slot_page.specs.declared.line.Tid.{Tid}
use Rattle.slot_page.specs.Pages.{item_in}
use Rattle.xact_status.specs.Xacts.{Xacts, is_committed}
use Rattle.snapshot_registry.specs.declared.Snapshot.{Snapshot}
use Rattle.snapshot_registry.specs.Snapshots.{committed_in, takes_effect}
use Rattle.row_versions.specs.declared.version.Version.{Version}
use Rattle.row_versions.specs.Relations.{Pages}
use Rattle.xact_status.specs.Versions.{is_there, counts_for}
use Rattle.table_rows.specs.Worlds.{IsVersionAt, Agree}

-- a transaction's own change is the last at a key: the version that it has there, if any, is one that it put
pub record IsOwnAt (xacts : Xacts) (own : ℕ) (pages : Pages) (key : ℤ) : Type 0 where
  pub each : (tid : Tid) (version : Version) → IsVersionAt pages key tid version → is_there (counts_for xacts (Some own)) version.inserter version.ender ≡ true → version.inserter ≡ own

-- a transaction with a snapshot sees at a key by the snapshot and its own changes what is there for it now
abbrev pub IsViewNow : Xacts → Snapshot → ℕ → Pages → ℤ → Type 0
IsViewNow xacts snapshot own pages key = Agree (takes_effect xacts snapshot (Some own)) (counts_for xacts (Some own)) pages key

-- whether a key was changed since a snapshot, as the ender of the version that the snapshot sees there tells it: that has committed
pub record IsSince (xacts : Xacts) (snapshot : Snapshot) (pages : Pages) (key : ℤ) (changed : Bool) : Type 0 where
  pub tells : (tid : Tid) (version : Version) → IsVersionAt pages key tid version → is_there (committed_in xacts snapshot) version.inserter version.ender ≡ true → changed ≡ option_map_or (is_committed xacts) version.ender false

-- whether a look-up finds the version at a tid: it is of the row at a key, and there by a test
abbrev pub is_found : (ℕ → Bool) → Pages → ℤ → Tid → Bool
is_found counts pages key tid = option_map_or (λ version. is_eq (int_cmp version.key key)) (item_in pages tid) false && option_map_or (λ version. is_there counts version.inserter version.ender) (item_in pages tid) false
