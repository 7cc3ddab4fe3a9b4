-- What the facts of a table tell a reader.
use Rattle.std.specs.Prelude.{ℕ, ℤ, ◌≡◌, ◌≤◌, Bool, true, List, length, map, Option, Some, Contains}
use Rattle.std.specs.Option.{option_map}
use Rattle.slot_page.specs.declared.line.Tid.{Tid}
use Rattle.slot_page.specs.Pages.{item_in}
use Rattle.external_pointer.specs.declared.external.Pointer.{Pointer}
use Rattle.tuple_layout.specs.Places.{Row}
use Rattle.tuple_layout.specs.Schemas.{TableSchema}
use Rattle.tuple_layout.specs.Tuples.{HasTuple, tuple}
use Rattle.tuple_layout.specs.declared.Storage.{Storage}
use Rattle.tuple_layout.specs.declared.cell.Stored.{Stored}
use Rattle.xact_status.specs.Versions.{is_current}
use Rattle.xact_status.specs.Xacts.{Xacts}
use Rattle.snapshot_registry.specs.Snapshots.{Snaps, sees_at}
use Rattle.row_versions.specs.declared.version.Version.{Version}
use Rattle.row_versions.specs.Relations.{AreAssigned}
use Rattle.toast_store.specs.Stores.{Store}
use Rattle.toast_store.specs.Values.{Whole, value_in}
use Rattle.value_holders.specs.Stamps.{Runs}
use Rattle.table_rows.specs.Steps.{stamp_of}
use Rattle.table_rows.specs.Worlds.{IsOne}
use Rattle.table_state.specs.declared.table.Table.{Table}
use Rattle.table_state.specs.declared.table.FoundRow.{FoundRow}
use Rattle.table_state.specs.Cells.{cells_in}
use Rattle.table_state.specs.Rows.{cell_value, pointers_in}
use Rattle.table_state.specs.Tables.{AreStored, IsTable, cells_of, row_in}
use Rattle.table_state.specs.LookUps.{FindsRow, no_rows}

-- the row that a look-up has found, its values out of line read from a store
abbrev pub row_read : Store → FoundRow → Row
row_read store row = map (cell_value store) row.stored.cells

pub record TablesTell : Type 0 where
  -- a table without a row is one
  pub empty : (number : ℕ) (xacts : Xacts) (snaps : Snaps) (schema : TableSchema) → IsTable number xacts snaps (no_rows schema number)
  -- the cells that are found in a row's tuple are the row's
  pub cells : (schema : List Storage) (stored : Stored) → length schema ≤ 8 → HasTuple schema stored → cells_in schema (tuple schema stored) ≡ stored.cells
  -- what a look-up asks of a table
  pub stored : (number : ℕ) (xacts : Xacts) (snaps : Snaps) (table : Table) → IsTable number xacts snaps table → AreStored table
  pub assigned : (number : ℕ) (xacts : Xacts) (snaps : Snaps) (table : Table) → IsTable number xacts snaps table → AreAssigned xacts table.rows.pages
  -- what it finds is the row that the world has at the key. IsOne: of each world of the moment by IsTable; of a reader with a snapshot and an xid of its own by the law of table_rows on look-ups
  pub found : (counts : ℕ → Bool) (table : Table) (key : ℤ) (row : Option FoundRow) → IsOne counts table.rows.pages key → FindsRow counts table key row → option_map (row_read table.toast) row ≡ row_in table counts key
  -- each pointer of a version that a reader sees, or that is there for it now, has its value
  pub seen_whole : (number : ℕ) (xacts : Xacts) (snaps : Snaps) (table : Table) (id : ℕ) (own : Option ℕ) (tid : Tid) (version : Version) (pointer : Pointer) → IsTable number xacts snaps table → Runs xacts own
      → item_in table.rows.pages tid ≡ Some version → sees_at xacts snaps id version.inserter version.ender own ≡ true → Contains (pointers_in (cells_of table version)) pointer → Whole table.toast pointer (value_in table.toast pointer)
  pub current_whole : (number : ℕ) (xacts : Xacts) (snaps : Snaps) (table : Table) (own : Option ℕ) (tid : Tid) (version : Version) (pointer : Pointer) → IsTable number xacts snaps table → Runs xacts own
      → item_in table.rows.pages tid ≡ Some version → is_current xacts own (stamp_of version) ≡ true → Contains (pointers_in (cells_of table version)) pointer → Whole table.toast pointer (value_in table.toast pointer)
