-- A table, its versions and its values out of line, and what is true of it under the transactions and snapshots of a moment (PostgreSQL, "Database Physical Storage").
use Rattle.std.specs.Prelude.{ℕ, ℤ, ◌≡◌, ◌+◌, ◌≤◌, Bool, true, List, [], ◌∷◌, length, map, nat_eq, Option, Some, Contains, ⊤}
use Rattle.std.specs.List.{IsDistinct}
use Rattle.std.specs.Option.{option_map}
use Rattle.slot_page.specs.declared.line.Tid.{Tid}
use Rattle.slot_page.specs.Pages.{item_in}
use Rattle.external_pointer.specs.declared.external.Pointer.{Pointer}
use Rattle.tuple_layout.specs.declared.Storage.{Storage}
use Rattle.tuple_layout.specs.declared.Storage.TheVariants.{Plain, External}
use Rattle.tuple_layout.specs.declared.cell.Cell.{Cell}
use Rattle.tuple_layout.specs.declared.cell.Cell.TheVariants.{Null, Inline, Out}
use Rattle.tuple_layout.specs.declared.cell.Stored.{Stored}
use Rattle.tuple_layout.specs.Sizes.{least_out}
use Rattle.tuple_layout.specs.Tuples.{HasTuple, tuple}
use Rattle.tuple_layout.specs.Places.{Row}
use Rattle.table_state.specs.declared.table.Table.{Table}
use Rattle.table_state.specs.Cells.{cells_in}
use Rattle.xact_status.specs.Xacts.{Xacts}
use Rattle.snapshot_registry.specs.Snapshots.{Snaps, is_protected}
use Rattle.row_versions.specs.declared.version.Version.{Version}
use Rattle.chunk_relation.specs.Relations.{AreAssigned}
use Rattle.toast_store.specs.Values.{Whole}
use Rattle.toast_store.specs.Values.{value_in}
use Rattle.value_holders.specs.Stamps.{IsSoundStamp}
use Rattle.value_holders.specs.Holders.{IsHeld}
use Rattle.table_rows.specs.Worlds.{AreOne, tuple_in}
use Rattle.table_rows.specs.Steps.{stamp_of, AreGiven}
use Rattle.table_state.specs.Rows.{row_of, pointers_in}
use Rattle.table_state.specs.Holders.{holders_of, chunk_stamps}

-- the cells of a version's tuple
abbrev pub cells_of : Table → Version → List Cell
cells_of table version = cells_in table.rows.schema.storages version.tuple

-- the row that bytes store at a key
abbrev pub stored_in : List Storage → ℤ → List ℕ → Stored
stored_in schema key bytes = record { key = key; cells = cells_in schema bytes }

-- the row that a version stores
abbrev pub stored_of : List Storage → Version → Stored
stored_of schema version = stored_in schema version.key version.tuple

-- the row that a world has at a key
abbrev pub row_in : Table → (ℕ → Bool) → ℤ → Option Row
row_in table counts key = option_map (row_of table.rows.schema.storages table.toast) (tuple_in counts table.rows.pages key)

-- the id of the toast relation of the table with a number
abbrev pub toast_rel_of : ℕ → ℕ
toast_rel_of number = 8192 + number

-- the longest value of a column
abbrev pub longest_value : ℕ
longest_value = 65536

-- what may stand in a column: an inline value that is not too long, or, where the column is not PLAIN, a pointer to a value of the table's own toast relation that is long enough to go out and not too long
abbrev pub IsCellOf : ℕ → Storage → Cell → Type 0
IsCellOf toast_rel storage Null = ⊤
IsCellOf toast_rel storage (Inline value) = length value ≤ longest_value
IsCellOf toast_rel Plain (Out pointer) = ⊥
IsCellOf toast_rel External (Out pointer) = (pointer.toast_rel ≡ toast_rel) × (least_out ≤ pointer.size) × (pointer.size ≤ longest_value)

-- the same of each column in order
abbrev pub AreCellsOf : ℕ → List Storage → List Cell → Type 0
AreCellsOf toast_rel [] cells = ⊤
AreCellsOf toast_rel (storage ∷ storages) [] = ⊤
AreCellsOf toast_rel (storage ∷ storages) (cell ∷ cells) = IsCellOf toast_rel storage cell × AreCellsOf toast_rel storages cells

-- bytes are the tuple of a stored row at a key: of the cells that are read from them
pub record IsStored (schema : List Storage) (key : ℤ) (bytes : List ℕ) : Type 0 where
  pub has : HasTuple schema (stored_in schema key bytes)
  pub is : bytes ≡ tuple schema (stored_in schema key bytes)

-- a tuple is that of a row of a table
pub record IsRowTuple (toast_rel : ℕ) (schema : List Storage) (key : ℤ) (bytes : List ℕ) : Type 0 where
  pub stored : IsStored schema key bytes
  pub cells : AreCellsOf toast_rel schema (cells_in schema bytes)
  -- no two of its columns have one value, so that a column that is set anew drops a value which no other column keeps
  pub distinct : IsDistinct nat_eq (map (λ (pointer : Pointer). pointer.value_id) (pointers_in (cells_in schema bytes)))

-- each version's tuple is one that can be read
pub record AreStored (table : Table) : Type 0 where
  pub each : (tid : Tid) (version : Version) → item_in table.rows.pages tid ≡ Some version → IsStored table.rows.schema.storages version.key version.tuple

-- what is true of the table with a number
pub record IsTable (number : ℕ) (xacts : Xacts) (snaps : Snaps) (table : Table) : Type 0 where
  -- its toast relation is its own
  pub relation : table.toast.rel.rel_id ≡ toast_rel_of number
  -- tuples: the tuple of each version, protected or not, is that of a stored row at the version's key
  pub tuples : (tid : Tid) (version : Version) → item_in table.rows.pages tid ≡ Some version → IsRowTuple (toast_rel_of number) table.rows.schema.storages version.key version.tuple
  -- whole: each pointer of a protected version has its value
  pub whole : (tid : Tid) (version : Version) (pointer : Pointer) → item_in table.rows.pages tid ≡ Some version → is_protected xacts snaps version.inserter version.ender ≡ true → Contains (pointers_in (cells_of table version)) pointer → Whole table.toast pointer (value_in table.toast pointer)
  -- one: no world has two versions of a key
  pub one : AreOne xacts snaps table.rows.pages
  -- held: each value's chunks outlast all for whom a version holds the value
  pub held : (value_id : ℕ) → IsHeld xacts snaps (holders_of table.rows.schema.storages table.rows.pages value_id) (chunk_stamps table.toast value_id)
  -- sound: while a version's inserter runs nobody else ends it
  pub sound : (tid : Tid) (version : Version) → item_in table.rows.pages tid ≡ Some version → IsSoundStamp xacts (stamp_of version)
  -- assigned: inserters and enders were given their xids, those of versions and those of chunks
  pub given : AreGiven xacts table.rows.pages
  pub assigned : AreAssigned xacts table.toast.rel.pages
