-- What an event makes of a table, and what a version step rests on.
use Rattle.std.specs.Prelude.{ℕ, ℤ, ◌⊎◌, List, Contains}
use Rattle.slot_page.specs.declared.line.Tid.{Tid}
use Rattle.external_pointer.specs.declared.external.Pointer.{Pointer}
use Rattle.xact_status.specs.Xacts.{Xacts}
use Rattle.snapshot_registry.specs.Snapshots.{Snaps}
use Rattle.row_versions.specs.declared.keys.KeyEntry.{KeyEntry}
use Rattle.row_versions.specs.Relations.{Pages}
use Rattle.toast_store.specs.Stores.{Store}
use Rattle.toast_store.specs.Values.{Whole}
use Rattle.xact_status.specs.declared.Stamp.{Stamp}
use Rattle.value_holders.specs.Holders.{Protects, AreEnded, AreUnended, ArePutBy}
use Rattle.table_state.specs.declared.table.Table.{Table}
use Rattle.table_state.specs.Cells.{cells_in}
use Rattle.toast_store.specs.Values.{value_in}
use Rattle.table_state.specs.Rows.{pointers_in}
use Rattle.table_state.specs.Holders.{holders_of, chunk_stamps}
use Rattle.table_state.specs.Tables.{IsRowTuple, toast_rel_of}

-- the table with other pages of versions, and whatever key map goes with them
abbrev pub with_rows : Table → Pages → List KeyEntry → Table
with_rows table pages entries = record table { rows = record table.rows { pages = pages; entries = entries } }

-- the table with another store
abbrev pub with_toast : Table → Store → Table
with_toast table store = record table { toast = store }

-- the chunks under an id were put by a transaction for a version that is still to be put
pub record IsSavedId (xacts : Xacts) (snaps : Snaps) (table : Table) (xid value_id : ℕ) : Type 0 where
  -- none has an ender that runs or has committed: each was put without one, and the id is in hand, so that nobody marks it
  pub unended : AreUnended xacts (chunk_stamps table.toast value_id)
  -- each was put by this transaction
  pub put_by : ArePutBy xacts xid (chunk_stamps table.toast value_id)
  -- each protected version with the id has ended for this transaction: there was none when the id was drawn, and it has been in hand since
  pub free : AreEnded xacts snaps (holders_of table.rows.schema.storages table.rows.pages value_id) xid

-- a value has been saved
pub record IsSavedFor (xacts : Xacts) (snaps : Snaps) (table : Table) (xid : ℕ) (pointer : Pointer) : Type 0 where
  -- its save has put all its pieces
  pub whole : Whole table.toast pointer (value_in table.toast pointer)
  pub saved : IsSavedId xacts snaps table xid pointer.value_id

-- a new version's tuple is that of a row of the table, and each of its pointers is to a value that was saved for it or that it keeps
pub record IsRowFor (number : ℕ) (xacts : Xacts) (snaps : Snaps) (table : Table) (xid : ℕ) (key : ℤ) (bytes : List ℕ) (kept : List Pointer) : Type 0 where
  pub tuple : IsRowTuple (toast_rel_of number) table.rows.schema.storages key bytes
  pub values : (pointer : Pointer) → Contains (pointers_in (cells_in table.rows.schema.storages bytes)) pointer → IsSavedFor xacts snaps table xid pointer ⊎ Contains kept pointer

-- no protected version holds a value
pub record IsUnheld (xacts : Xacts) (snaps : Snaps) (table : Table) (value_id : ℕ) : Type 0 where
  pub none : (tid : Tid) (stamp : Stamp) → Protects xacts snaps (holders_of table.rows.schema.storages table.rows.pages value_id) tid stamp → ⊥
