-- What each step of a rewrite keeps of all that holds of it. A premise on a stage says what stands there (`StandsAt`).
use Rattle.std.specs.Prelude.{ℕ, ◌≡◌, ◌+◌, ◌-◌, ◌≤◌, true, false, Some, None, List, [], length, slice_get}
use Rattle.slot_page.specs.declared.line.Tid.{Tid}
use Rattle.slot_page.specs.Pages.{item_in}
use Rattle.slot_page.specs.NextItems.{is_before}
use Rattle.external_pointer.specs.declared.external.Pointer.{Pointer}
use Rattle.external_pointer.specs.Spelling.{IsInRange}
use Rattle.tuple_layout.specs.declared.cell.Cell.TheVariants.{Inline, Out}
use Rattle.tuple_layout.specs.Sizes.{largest_tuple, size}
use Rattle.tuple_layout.specs.Tuples.{cell_widths, tuple}
use Rattle.tuple_toaster.specs.Pushed.{all_moved_size, pushed, tuple_target}
use Rattle.xact_status.specs.Xacts.{Xacts}
use Rattle.snapshot_registry.specs.Snapshots.{Snaps}
use Rattle.value_ids.specs.Ids.{Pool, first_free_id}
use Rattle.row_versions.specs.declared.version.Version.{Version}
use Rattle.row_versions.specs.Relations.{Relation, with_version}
use Rattle.row_versions.specs.Versions.{stamped_version}
use Rattle.toast_store.specs.Stores.{Store, IsStore, is_used}
use Rattle.toast_store.specs.PieceJobs.{IsLaying, Piecing, PiecesStep, new_pieces, pointer_to}
use Rattle.toast_store.specs.declared.piece_job.PieceStage.TheVariants.{Over}
use Rattle.toast_store.specs.Fetches.{FetchSteps, Fetching}
use Rattle.toast_store.specs.declared.fetch.FetchStep.TheVariants.{More, Done}
use Rattle.table_state.specs.declared.table.Table.{Table}
use Rattle.rewrite_facts.specs.Copies.{IsCopyable, chosen_widths, id_at, inline_widths, is_chosen, next_place, row_in_old, with_cells}
use Rattle.rewrite_facts.specs.Chunks.{cells_at}
use Rattle.rewrite_facts.specs.Holds.{HoldsNoPin, IsFilling, IsPlacing, RewriteHolds, StandsAt}
use Rattle.rewrite_facts.specs.Rewrites.{Rewriting, at_stage, busy_at, inserter_at, is_used_in, new_rewrite, restored, with_cell, with_value}
use Rattle.rewrite_facts.specs.declared.stage.RowCopy.{RowCopy}
use Rattle.rewrite_facts.specs.declared.stage.RewriteStage.{RewriteStage}
use Rattle.rewrite_facts.specs.declared.stage.RewriteStage.TheVariants.{Visiting, Filling, Reading, Placing, Laying}

pub record StepsKeep : Type 0 where
  -- before the first step nothing is copied
  pub begun : (xacts : Xacts) (snaps : Snaps) (table session xid : ℕ) (old : Table) → HoldsNoPin old.toast session → RewriteHolds xacts snaps old (new_rewrite table session xid old)
  -- a visit passes over versions that are not chosen, to one that is, or to the end; a version that comes to be copied is chosen
  pub visited : (xacts : Xacts) (snaps : Snaps) (old : Table) (r : Rewriting) (to : Tid) (stage : RewriteStage) → busy_at r.stage ≡ None → busy_at stage ≡ None → cells_at r.stage ≡ [] → cells_at stage ≡ [] → is_before to r.place ≡ false
      → ((t : Tid) (version : Version) → item_in old.rows.pages t ≡ Some version → is_before t r.place ≡ false → is_before t to ≡ true → is_chosen xacts snaps version ≡ false)
      → ((version : Version) → item_in old.rows.pages to ≡ Some version → inserter_at stage ≡ Some version.inserter → is_chosen xacts snaps version ≡ true)
      → StandsAt old (record r { place = to; stage = stage }) stage → RewriteHolds xacts snaps old r → RewriteHolds xacts snaps old (record r { place = to; stage = stage })
  -- a read goes on, or is over with the value of its column; the old store has other pins then
  pub reading : (xacts : Xacts) (snaps : Snaps) (old : Table) (r : Rewriting) (copy : RowCopy) (at : ℕ) (fetch after : Fetching) (later : Store) → r.stage ≡ Reading copy at fetch → FetchSteps old.toast fetch later after More
      → RewriteHolds xacts snaps old r → RewriteHolds xacts snaps (record old { toast = later }) (at_stage r (Reading copy at after))
  pub read : (xacts : Xacts) (snaps : Snaps) (old : Table) (r : Rewriting) (copy : RowCopy) (at : ℕ) (fetch after : Fetching) (later : Store) (value : List ℕ) → r.stage ≡ Reading copy at fetch → IsStore old.toast → FetchSteps old.toast fetch later after (Done value)
      → RewriteHolds xacts snaps old r → RewriteHolds xacts snaps (record old { toast = later }) (at_stage r (Filling (with_value copy at value)))
  -- once all is read, the columns that go out are chosen as of a row with nothing out
  pub planned : (old : Table) (new : Store) (place : Tid) (copy : RowCopy) (columns : List ℕ) → ((n : ℕ) (p : Pointer) → slice_get copy.cells n ≡ Some (Out p) → ⊥) → columns ≡ pushed old.rows.schema.storages (cell_widths copy.cells) tuple_target
      → IsFilling old place copy → IsPlacing old new None place copy columns 0
  -- a value that the new relation has under the id that it had gets its pointer, and no piece is put
  pub shared : (xacts : Xacts) (snaps : Snaps) (old : Table) (r : Rewriting) (copy : RowCopy) (columns : List ℕ) (at column : ℕ) (p : Pointer) (value : List ℕ) → r.stage ≡ Placing copy columns at → slice_get columns at ≡ Some column → slice_get copy.cells (column - 1) ≡ Some (Inline value)
      → id_at copy.ids (column - 1) ≡ Some p.value_id → is_used r.toast p.value_id ≡ true → IsInRange p → p.size ≡ length value → p.toast_rel ≡ r.toast.rel.rel_id
      → RewriteHolds xacts snaps old r → RewriteHolds xacts snaps old (at_stage r (Placing (with_cell copy column (Out p)) columns (at + 1)))
  -- any other value that had an id comes on its way under it
  pub kept : (xacts : Xacts) (snaps : Snaps) (old : Table) (r : Rewriting) (copy taken : RowCopy) (columns : List ℕ) (at column id : ℕ) (value : List ℕ) → r.stage ≡ Placing copy columns at → restored taken columns at value ≡ copy → slice_get columns at ≡ Some column → slice_get copy.cells (column - 1) ≡ Some (Inline value)
      → id_at copy.ids (column - 1) ≡ Some id → is_used r.toast id ≡ false → RewriteHolds xacts snaps old r → RewriteHolds xacts snaps old (at_stage r (Laying taken columns at (new_pieces r.xid id value)))
  -- and one that had none under an id that is drawn, which neither store uses
  pub drawn : (xacts : Xacts) (snaps : Snaps) (old : Table) (r : Rewriting) (copy taken : RowCopy) (columns : List ℕ) (at column id : ℕ) (value : List ℕ) (ids : Pool) → r.stage ≡ Placing copy columns at → restored taken columns at value ≡ copy → slice_get columns at ≡ Some column → slice_get copy.cells (column - 1) ≡ Some (Inline value)
      → id_at copy.ids (column - 1) ≡ None → first_free_id (is_used_in old.toast r.toast) ids r.table ≡ Some id → RewriteHolds xacts snaps old r → RewriteHolds xacts snaps old (at_stage r (Laying taken columns at (new_pieces r.xid id value)))
  -- a piece is put, or its entry is added: the pieces go on, or that was the last
  pub laid : (xacts : Xacts) (snaps : Snaps) (old : Table) (r : Rewriting) (copy : RowCopy) (columns : List ℕ) (at : ℕ) (job after : Piecing) (later : Store) → r.stage ≡ Laying copy columns at job → IsStore r.toast → PiecesStep r.toast job later after → IsLaying after.stage
      → RewriteHolds xacts snaps old r → RewriteHolds xacts snaps old (record r { toast = later; stage = Laying copy columns at after })
  pub over : (xacts : Xacts) (snaps : Snaps) (old : Table) (r : Rewriting) (copy : RowCopy) (columns : List ℕ) (at column : ℕ) (job after : Piecing) (later : Store) (p : Pointer) → r.stage ≡ Laying copy columns at job → slice_get columns at ≡ Some column → IsStore r.toast → PiecesStep r.toast job later after → after.stage ≡ Over
      → IsInRange p → p ≡ pointer_to after later.rel.rel_id → RewriteHolds xacts snaps old r → RewriteHolds xacts snaps old (record r { toast = later; stage = Placing (with_cell copy column (Out p)) columns (at + 1) })
  -- with no column left the version is put, with who put and ended the old one
  pub version : (xacts : Xacts) (snaps : Snaps) (old : Table) (r : Rewriting) (copy : RowCopy) (columns : List ℕ) (at : ℕ) (rows : Relation) → r.stage ≡ Placing copy columns at → length columns ≤ at
      → rows ≡ with_version r.rows (stamped_version copy.key copy.stamp (tuple old.rows.schema.storages (with_cells copy.key copy.cells)))
      → RewriteHolds xacts snaps old r → RewriteHolds xacts snaps old (record r { rows = rows; place = next_place r.place; stage = Visiting })

-- a version that fits on a page has a copy that does: none is too big for the choice of columns, nor with those that are chosen out
pub record CopiesFit : Type 0 where
  pub row : (old : Table) (was : Version) → length old.rows.schema.storages ≤ 8 → IsCopyable old was → length was.tuple ≤ largest_tuple → all_moved_size old.rows.schema.storages (inline_widths (row_in_old old was)) ≤ largest_tuple
  pub chosen : (old : Table) (was : Version) → length old.rows.schema.storages ≤ 8 → IsCopyable old was → length was.tuple ≤ largest_tuple → size old.rows.schema.storages (chosen_widths old.rows.schema.storages (row_in_old old was)) ≤ largest_tuple
