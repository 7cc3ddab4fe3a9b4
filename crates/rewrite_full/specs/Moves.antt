-- The moves of a rewrite between its steps: to the next version that is copied, from column to column, and past values that the new relation has.
use Rattle.std.specs.Prelude.{ℕ, ◌≡◌, ◌≤◌, ◌-◌, true, false, Option, Some, None, List, length, map, slice_get, ⊤}
use Rattle.slot_page.specs.declared.line.Tid.{Tid}
use Rattle.slot_page.specs.Pages.{item_in}
use Rattle.slot_page.specs.NextItems.{IsEmptyFrom, is_before}
use Rattle.external_pointer.specs.declared.external.Pointer.{Pointer}
use Rattle.slice_fetch.specs.declared.Span.{Span}
use Rattle.tuple_layout.specs.declared.Storage.{Storage}
use Rattle.tuple_layout.specs.declared.cell.Cell.{Cell}
use Rattle.tuple_layout.specs.declared.cell.Cell.TheVariants.{Inline, Out}
use Rattle.tuple_layout.specs.Schemas.{HasColumns}
use Rattle.tuple_layout.specs.Sizes.{largest_tuple, least_out}
use Rattle.tuple_layout.specs.Tuples.{cell_widths, row_size, tuple}
use Rattle.table_state.specs.Tables.{longest_value}
use Rattle.toast_store.specs.Stores.{Store, is_used}
use Rattle.tuple_toaster.specs.Pushed.{all_moved_size, pushed, tuple_target}
use Rattle.xact_status.specs.Xacts.{Xacts}
use Rattle.snapshot_registry.specs.Snapshots.{Snaps}
use Rattle.row_versions.specs.declared.version.Version.{Version}
use Rattle.row_versions.specs.Versions.{stamped_version, version_stamp}
use Rattle.row_versions.specs.Relations.{IsRelation, Pages, Relation, with_version}
use Rattle.toast_store.specs.Fetches.{new_fetch}
use Rattle.table_state.specs.declared.table.Table.{Table}
use Rattle.table_state.specs.Cells.{cells_in}
use Rattle.rewrite_facts.specs.Copies.{IsCopyable, id_at, id_of, is_chosen, next_place, with_cells}
use Rattle.rewrite_facts.specs.Holds.{RewriteHolds}
use Rattle.rewrite_facts.specs.Left.{IsProgress, left, left_at}
use Rattle.rewrite_facts.specs.Rewrites.{Rewriting, answer_at, at_stage, table_of}
use Rattle.rewrite_facts.specs.declared.stage.RewriteStep.{RewriteStep}
use Rattle.rewrite_facts.specs.declared.stage.RowCopy.{RowCopy}
use Rattle.rewrite_facts.specs.declared.stage.RewriteStage.{RewriteStage}
use Rattle.rewrite_facts.specs.declared.stage.RewriteStage.TheVariants.{Visiting, Filling, Reading, Placing, Laying, Ready}

-- each version that is chosen can be copied
pub record CanCopy (xacts : Xacts) (snaps : Snaps) (old : Table) : Type 0 where
  pub each : (tid : Tid) (version : Version) → item_in old.rows.pages tid ≡ Some version → is_chosen xacts snaps version ≡ true → IsCopyable old version

-- what holds of a rewrite at a stage, beside its old relations
abbrev pub HoldsAt : Xacts → Snaps → Relation → Store → Rewriting → RewriteStage → Type 0
HoldsAt xacts snaps rows toast r stage = RewriteHolds xacts snaps (table_of rows toast) (at_stage r stage)

-- ---- visits

-- from a place on and before another no version is chosen
pub record ArePassed (xacts : Xacts) (snaps : Snaps) (pages : Pages) (from to : Tid) : Type 0 where
  pub not_before : is_before to from ≡ false
  pub none : (tid : Tid) (version : Version) → item_in pages tid ≡ Some version → is_before tid from ≡ false → is_before tid to ≡ true → is_chosen xacts snaps version ≡ false

-- a version that is chosen stands at a place, or none stands from it on
pub record IsStop (xacts : Xacts) (snaps : Snaps) (pages : Pages) (to : Tid) : Type 0 where
  pub chosen : (version : Version) → item_in pages to ≡ Some version → is_chosen xacts snaps version ≡ true
  pub end : item_in pages to ≡ None → IsEmptyFrom pages to

-- the way from a place to the next version that is chosen, or to the end
pub record IsNextStop (xacts : Xacts) (snaps : Snaps) (pages : Pages) (from to : Tid) : Type 0 where
  pub passed : ArePassed xacts snaps pages from to
  pub stop : IsStop xacts snaps pages to

-- a rewrite is at a version yet, or past it
pub data IsAtOrPast (at place : Tid) : Type 0 where
  At : place ≡ at → IsAtOrPast at place
  Past : place ≡ next_place at → IsAtOrPast at place

-- a rewrite takes up the next version that is chosen, by how transactions and snapshots stand then
pub record TakesUp (xacts : Xacts) (snaps : Snaps) (pages : Pages) (from to : Tid) : Type 0 where
  pub at : Tid
  pub next : IsNextStop xacts snaps pages from at
  pub there : IsAtOrPast at to

-- the copy of a version before its first value is read
abbrev pub copy_of : List Storage → Version → RowCopy
copy_of schema version = record { key = version.key; stamp = version_stamp version; ids = map id_of (cells_in schema version.tuple); cells = cells_in schema version.tuple }

-- where a rewrite goes on that has come to a version, or to the end
abbrev pub stage_at : List Storage → Option Version → RewriteStage
stage_at schema None = Ready
stage_at schema (Some version) = Filling (copy_of schema version)

-- ---- reads

-- cells have no pointer
abbrev pub HaveNoPointer : List Cell → Type 0
HaveNoPointer cells = (n : ℕ) (pointer : Pointer) → slice_get cells n ≡ Some (Out pointer) → ⊥

-- the span of a whole value
abbrev pub whole_span : Pointer → Span
whole_span pointer = record { start = 0; end = pointer.size }

-- where a copy goes on whose values are read: at its first pointer, or where it has none at the first of the columns that go out
abbrev pub IsNextOf : List Storage → ℕ → RowCopy → RewriteStage → Type 0
IsNextOf schema session copy (Reading same at fetch) = (same ≡ copy) × ((pointer : Pointer) × (slice_get copy.cells at ≡ Some (Out pointer)) × (fetch ≡ new_fetch pointer (whole_span pointer) session))
IsNextOf schema session copy (Placing same columns at) = (same ≡ copy) × (HaveNoPointer copy.cells × ((columns ≡ pushed schema (cell_widths copy.cells) tuple_target) × (at ≡ 0)))
IsNextOf schema session copy Visiting = ⊥
IsNextOf schema session copy (Filling same) = ⊥
IsNextOf schema session copy (Laying same columns at pieces) = ⊥
IsNextOf schema session copy Ready = ⊥

-- a rewrite has come to a version or to the end
abbrev pub IsVisited : RewriteStage → Type 0
IsVisited Visiting = ⊥
IsVisited (Filling copy) = ⊤
IsVisited (Reading copy at fetch) = ⊤
IsVisited (Placing copy columns at) = ⊤
IsVisited (Laying copy columns at pieces) = ⊤
IsVisited Ready = ⊤

-- and to its next read, or to the columns that go out
abbrev pub IsFilled : RewriteStage → Type 0
IsFilled Visiting = ⊥
IsFilled (Filling copy) = ⊥
IsFilled (Reading copy at fetch) = ⊤
IsFilled (Placing copy columns at) = ⊤
IsFilled (Laying copy columns at pieces) = ⊤
IsFilled Ready = ⊤

-- ---- columns that go out

-- with all out that may go a row fits on a page
abbrev pub FitsOnceOut : List Storage → List Cell → Type 0
FitsOnceOut schema cells = HasColumns (length schema) → all_moved_size schema (cell_widths cells) ≤ largest_tuple

-- a copy does, as it is
abbrev pub FitsPage : Relation → RowCopy → Type 0
FitsPage rows copy = IsRelation rows → HasColumns (length rows.schema.storages) → row_size rows.schema.storages copy.cells ≤ largest_tuple

-- a rewrite whose new rows have a copy, put with who put and ended its version, and which is past that
abbrev pub with_copy : List Storage → Rewriting → RowCopy → Rewriting
with_copy schema r copy = record r { rows = with_version r.rows (stamped_version copy.key copy.stamp (tuple schema (with_cells copy.key copy.cells))); place = next_place r.place }

-- a column has an inline value that may go out
pub record HasInline (copy : RowCopy) (column : ℕ) : Type 0 where
  pub value : List ℕ
  pub from : 1 ≤ column
  pub inline : slice_get copy.cells (column - 1) ≡ Some (Inline value)
  pub least : least_out ≤ length value
  pub most : length value ≤ longest_value

-- a pointer of that value
pub record IsPointerOf (copy : RowCopy) (column value_id toast_rel : ℕ) (pointer : Pointer) : Type 0 where
  pub value : List ℕ
  pub inline : slice_get copy.cells (column - 1) ≡ Some (Inline value)
  pub is : pointer ≡ record { size = length value; value_id = value_id; toast_rel = toast_rel }

-- the next column's old value was out of line, under an id that the new store uses
pub record IsSharedAt (new : Store) (copy : RowCopy) (columns : List ℕ) (at : ℕ) (found : ℕ × ℕ) : Type 0 where
  pub column : slice_get columns at ≡ Some found.0
  pub id : id_at copy.ids (found.0 - 1) ≡ Some found.1
  pub used : is_used new found.1 ≡ true

-- it was not
abbrev pub IsUnshared : Store → RowCopy → List ℕ → ℕ → Type 0
IsUnshared new copy columns at = (column id : ℕ) → slice_get columns at ≡ Some column → id_at copy.ids (column - 1) ≡ Some id → is_used new id ≡ false

-- ---- steps left

-- a rewrite has fewer steps left than before a step, or is ready and has none
abbrev pub Falls : Table → Rewriting → Table → Rewriting → RewriteStep → Type 0
Falls old before later after = IsProgress (left old before) (left later after)

-- a rewrite at a stage has no more steps left than one had
abbrev pub HasNoMore : Table → Rewriting → RewriteStage → Rewriting → RewriteStage → Type 0
HasNoMore old before stage after next = left_at old after.place next ≤ left_at old before.place stage

-- after an event it has fewer than before it, or is ready and has none
abbrev pub HasFewer : Table → Rewriting → RewriteStage → Table → Rewriting → RewriteStage → Type 0
HasFewer old before stage later after next = IsProgress (left_at old before.place stage) (left_at later after.place next) (answer_at next)
