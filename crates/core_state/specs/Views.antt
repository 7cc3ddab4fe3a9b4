-- What a session sees: whose changes count for it, and the row that it finds at a key.
use Rattle.std.specs.Prelude.{Bool, List, None, Option, Some, find, option_and_then, option_map, ℕ, ℤ}
use Rattle.tuple_layout.specs.Places.{Row}
use Rattle.tuple_layout.specs.declared.Place.{Place}
use Rattle.slot_page.specs.Pages.{item_in}
use Rattle.slot_page.specs.declared.line.Tid.{Tid}
use Rattle.xact_status.specs.Versions.{counts_for}
use Rattle.xact_status.specs.Xacts.{Xacts}
use Rattle.snapshot_registry.specs.Snapshots.{Snaps, held_at, takes_effect}
use Rattle.snapshot_registry.specs.declared.Snapshot.{Snapshot}
use Rattle.row_versions.specs.Relations.{versions_of}
use Rattle.toast_store.specs.Values.{value_in}
use Rattle.table_rows.specs.Views.{is_found}
use Rattle.table_state.specs.Tables.{row_in, stored_of}
use Rattle.table_state.specs.declared.table.Table.{Table}
use Rattle.read_steps.specs.declared.wanted.Held.{Held}
use Rattle.write_steps.specs.declared.stage.OldRow.{OldRow}
use Rattle.core_state.specs.State.{CoreState, seat_of, snapshot_of, table_at, xid_of}
use Rattle.core_state.specs.declared.seat.State.{State}
use Rattle.read_steps.specs.declared.wanted.Held.TheVariants as helds

-- whose changes count for what a session reads: under a snapshot those that it shows and the session's own, else those that have committed and its own
abbrev pub counts_under : Xacts → Option Snapshot → Option ℕ → ℕ → Bool
counts_under xacts None own xid = counts_for xacts own xid
counts_under xacts (Some snapshot) own xid = takes_effect xacts snapshot own xid

-- the snapshot that is registered under an id
abbrev pub registered : Snaps → Option ℕ → Option Snapshot
registered snaps None = None
registered snaps (Some id) = option_map (λ held. held.snapshot) (held_at snaps id)

-- whose changes count for a session's reads; and for the test of a key that is to be new
abbrev pub in_view : Xacts → Snaps → State → ℕ → Bool
in_view xacts snaps state xid = counts_under xacts (registered snaps (snapshot_of state)) (xid_of state) xid

abbrev pub in_sight : Xacts → State → ℕ → Bool
in_sight xacts state xid = counts_for xacts (xid_of state) xid

-- ---- rows of versions

-- the row of the version at a tid, as its tuple holds it
abbrev pub row_there : Table → Tid → Option OldRow
row_there table tid = option_map (λ version. record { tid = tid; stored = stored_of table.rows.schema.storages version }) (item_in table.rows.pages tid)

-- the row of the version that a look-up finds at a key, by a test of the xids that count
abbrev pub found_row : Table → (ℕ → Bool) → ℤ → Option OldRow
found_row table counts key = option_and_then (row_there table) (find (λ tid. is_found counts table.rows.pages key tid) (versions_of table.rows key))

-- the row that a session's reads find at a key of a table
abbrev pub row_seen : CoreState → ℕ → ℕ → ℤ → Option OldRow
row_seen c s t key = found_row (table_at c.tables t) (in_view c.xacts c.snaps (seat_of c s).state) key

-- the row that a world has at a place, with its values
abbrev pub row_at : List Table → (ℕ → Bool) → Place → Option Row
row_at tables counts p = row_in (table_at tables p.table) counts p.key

-- the bytes of a kept value
abbrev pub held_value : List Table → ℕ → Held → List ℕ
held_value tables t (helds.Inline bytes) = bytes
held_value tables t (helds.Out pointer) = value_in (table_at tables t).toast pointer
