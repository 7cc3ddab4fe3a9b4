-- Which versions a rewrite copies, what a copy is, and where the copies lie in the new relation (PostgreSQL, "VACUUM" with FULL; "TOAST, Out-of-Line, On-Disk TOAST Storage").
use Rattle.std.specs.Prelude.{ℕ, ℤ, ◌≡◌, ◌≢◌, ◌+◌, ◌≤◌, Bool, true, false, ◌||◌, Option, Some, None, List, [], ◌∷◌, Contains, length, map, slice_get, ⊤}
use Rattle.std.specs.Option.{option_flatten}
use Rattle.slot_page.specs.declared.line.Tid.{Tid}
use Rattle.slot_page.specs.Pages.{item_in}
use Rattle.slot_page.specs.NextItems.{is_before}
use Rattle.external_pointer.specs.declared.external.Pointer.{Pointer}
use Rattle.tuple_layout.specs.declared.Storage.{Storage}
use Rattle.tuple_layout.specs.declared.Storage.TheVariants.{Plain, External}
use Rattle.tuple_layout.specs.declared.cell.Cell.{Cell}
use Rattle.tuple_layout.specs.declared.cell.Cell.TheVariants.{Null, Inline, Out}
use Rattle.tuple_layout.specs.declared.cell.Stored.{Stored}
use Rattle.tuple_layout.specs.Places.{Row}
use Rattle.tuple_layout.specs.Schemas.{TableSchema}
use Rattle.tuple_layout.specs.Sizes.{Width, least_out, widths}
use Rattle.tuple_layout.specs.Tuples.{HasTuple, cell_widths, tuple}
use Rattle.tuple_toaster.specs.Pushed.{moved, pushed, tuple_target}
use Rattle.xact_status.specs.Xacts.{Xacts}
use Rattle.xact_status.specs.Versions.{is_live}
use Rattle.snapshot_registry.specs.Snapshots.{Snaps, seen_by_any}
use Rattle.row_versions.specs.declared.version.Version.{Version}
use Rattle.row_versions.specs.Relations.{Pages, Relation, no_versions, with_version}
use Rattle.toast_store.specs.Stores.{Store, is_used}
use Rattle.toast_store.specs.Values.{Whole, value_in}
use Rattle.table_state.specs.declared.table.Table.{Table}
use Rattle.table_state.specs.Cells.{cells_in}
use Rattle.table_state.specs.Rows.{cell_value, row_of}
use Rattle.table_state.specs.Tables.{IsStored, longest_value}

-- whether a version is copied that is visited at this moment: it is live, or a registered snapshot sees it
abbrev pub is_chosen : Xacts → Snaps → Version → Bool
is_chosen xacts snaps version = is_live xacts version.inserter version.ender || seen_by_any xacts snaps version.inserter version.ender

-- ---- the old version

-- what may stand in a column: an inline value of at most 65,536 bytes, or, where the column is not PLAIN, a pointer to a value of 21 to 65,536
abbrev pub IsRowCell : Storage → Cell → Type 0
IsRowCell storage Null = ⊤
IsRowCell storage (Inline value) = length value ≤ longest_value
IsRowCell Plain (Out pointer) = ⊥
IsRowCell External (Out pointer) = (least_out ≤ pointer.size) × (pointer.size ≤ longest_value)

-- the same of each column
pub record AreRowCells (schema : List Storage) (cells : List Cell) : Type 0 where
  pub each : (n : ℕ) (storage : Storage) (cell : Cell) → slice_get schema n ≡ Some storage → slice_get cells n ≡ Some cell → IsRowCell storage cell

-- each pointer of cells has its whole value in a store
pub record AreWhole (store : Store) (cells : List Cell) : Type 0 where
  pub each : (n : ℕ) (pointer : Pointer) → slice_get cells n ≡ Some (Out pointer) → Whole store pointer (value_in store pointer)

-- a version can be copied: its tuple is that of a row of the schema, and each of its values is whole
pub record IsCopyable (old : Table) (version : Version) : Type 0 where
  pub stored : IsStored old.rows.schema.storages version.key version.tuple
  pub cells : AreRowCells old.rows.schema.storages (cells_in old.rows.schema.storages version.tuple)
  pub whole : AreWhole old.toast (cells_in old.rows.schema.storages version.tuple)

-- the row that a version has in a table
abbrev pub row_in_old : Table → Version → Row
row_in_old old version = row_of old.rows.schema.storages old.toast version.tuple

-- the id of a column's value, if that is out of line
abbrev pub id_of : Cell → Option ℕ
id_of Null = None
id_of (Inline value) = None
id_of (Out pointer) = Some pointer.value_id

-- those of a version's columns
abbrev pub ids_of : Table → Version → List (Option ℕ)
ids_of old version = map id_of (cells_in old.rows.schema.storages version.tuple)

-- and the one of the column at a place
abbrev pub id_at : List (Option ℕ) → ℕ → Option ℕ
id_at ids n = option_flatten (slice_get ids n)

-- ---- its copy

-- a row with some cells
abbrev pub with_cells : ℤ → List Cell → Stored
with_cells key cells = record { key = key; cells = cells }

-- the id of a value that goes out: the one that it had, or one that the old relation does not use
abbrev pub IsIdOf : Store → Option ℕ → ℕ → Type 0
IsIdOf old (Some id) value_id = value_id ≡ id
IsIdOf old None value_id = is_used old value_id ≡ false

-- a pointer of a copy: its value is whole, no piece of it is on its way, and it names the table's own toast relation
pub record IsNewPointer (old new : Store) (busy : Option ℕ) (was : Option ℕ) (pointer : Pointer) : Type 0 where
  pub whole : Whole new pointer (value_in new pointer)
  pub settled : busy ≢ Some pointer.value_id
  pub own : pointer.toast_rel ≡ old.rel.rel_id
  pub id : IsIdOf old was pointer.value_id

-- cells that have the row of an old version, by the values of a new store
pub record IsNewRow (old : Table) (new : Store) (busy : Option ℕ) (was : Version) (cells : List Cell) : Type 0 where
  pub has : HasTuple old.rows.schema.storages (with_cells was.key cells)
  pub limits : AreRowCells old.rows.schema.storages cells
  pub row : map (cell_value new) cells ≡ row_in_old old was
  pub pointers : (n : ℕ) (pointer : Pointer) → slice_get cells n ≡ Some (Out pointer) → IsNewPointer old.toast new busy (id_at (ids_of old was) n) pointer

-- the widths of a row all of whose values are inline
abbrev pub inline_widths : Row → List Width
inline_widths row = widths row (λ column. false)

-- the columns of a row that go out where none is out before
abbrev pub chosen_columns : List Storage → Row → List ℕ
chosen_columns schema row = pushed schema (inline_widths row) tuple_target

-- the widths of a row with exactly these out
abbrev pub chosen_widths : List Storage → Row → List Width
chosen_widths schema row = moved (chosen_columns schema row) (inline_widths row)

-- a copy: where the old version stands, that version, and the cells of the new one
pub record Copied : Type 0 where
  pub from : Tid
  pub was : Version
  pub cells : List Cell

-- the new version: the old one with another tuple
abbrev pub version_of : List Storage → Copied → Version
version_of schema copy = record { key = copy.was.key; inserter = copy.was.inserter; ender = copy.was.ender; tuple = tuple schema (with_cells copy.was.key copy.cells) }

-- a version that can be copied stands at a tid
pub record IsOldVersion (old : Table) (tid : Tid) (version : Version) : Type 0 where
  pub there : item_in old.rows.pages tid ≡ Some version
  pub copyable : IsCopyable old version

-- what is true of each copy
pub record IsCopy (old : Table) (new : Store) (busy : Option ℕ) (copy : Copied) : Type 0 where
  pub old_one : IsOldVersion old copy.from copy.was
  pub new_one : IsNewRow old new busy copy.was copy.cells
  pub out : cell_widths copy.cells ≡ chosen_widths old.rows.schema.storages (row_in_old old copy.was)

-- ---- all copies, the newest first

-- the relation of the copies, put one by one from an empty one
abbrev pub laid : TableSchema → List Copied → Relation
laid schema [] = no_versions schema
laid schema (copy ∷ copies) = with_version (laid schema copies) (version_of schema.storages copy)

-- they were made in the order of the old tids, up to a place
abbrev pub AreInOrder : Tid → List Copied → Type 0
AreInOrder place [] = ⊤
AreInOrder place (copy ∷ copies) = (is_before copy.from place ≡ true) × AreInOrder copy.from copies

-- the old version at a tid has a copy
pub record HasCopy (copies : List Copied) (tid : Tid) : Type 0 where
  pub copy : Copied
  pub there : Contains copies copy
  pub from : copy.from ≡ tid

-- each old version before a place that is chosen has a copy
pub record AreVisited (xacts : Xacts) (snaps : Snaps) (pages : Pages) (place : Tid) (copies : List Copied) : Type 0 where
  pub each : (tid : Tid) (version : Version) → item_in pages tid ≡ Some version → is_before tid place ≡ true → is_chosen xacts snaps version ≡ true → HasCopy copies tid

-- the place after a tid
abbrev pub next_place : Tid → Tid
next_place tid = record { page = tid.page; slot = tid.slot + 1 }
