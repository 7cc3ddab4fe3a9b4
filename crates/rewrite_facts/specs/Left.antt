-- How many steps of a rewrite are left at most, counted by what is still to come of the old relations and of the copy under way.
use Rattle.std.specs.Prelude.{ℕ, ◌≡◌, ◌+◌, ◌*◌, ◌<◌, if◌then◌else◌, Option, Some, None, List, [], ◌∷◌, length, map, drop, slice_set, sum_by}
use Rattle.slot_page.specs.declared.line.Tid.{Tid}
use Rattle.slot_page.specs.declared.line.LinePointer.{LinePointer}
use Rattle.slot_page.specs.declared.line.LinePointer.TheVariants.{Normal, Dead, Unused}
use Rattle.slot_page.specs.Pages.{page_at}
use Rattle.tuple_layout.specs.declared.Storage.{Storage}
use Rattle.tuple_layout.specs.declared.cell.Cell.{Cell}
use Rattle.tuple_layout.specs.declared.cell.Cell.TheVariants.{Null, Inline, Out}
use Rattle.tuple_layout.specs.Places.{Row}
use Rattle.tuple_layout.specs.Sizes.{may_go_out}
use Rattle.row_versions.specs.declared.version.Version.{Version}
use Rattle.chunk_index.specs.Entries.{of_id}
use Rattle.toast_store.specs.Stores.{Store}
use Rattle.toast_store.specs.Values.{piece_count}
use Rattle.toast_store.specs.Walks.{asks_left, steps_left}
use Rattle.toast_store.specs.Fetches.{Fetching}
use Rattle.toast_store.specs.PieceJobs as pieces
use Rattle.table_state.specs.declared.table.Table.{Table}
use Rattle.table_state.specs.Cells.{cells_in}
use Rattle.table_state.specs.Rows.{cell_value}
use Rattle.rewrite_facts.specs.Copies.{next_place, row_in_old}
use Rattle.rewrite_facts.specs.Rewrites.{Rewriting}
use Rattle.rewrite_facts.specs.declared.stage.RewriteStage.{RewriteStage}
use Rattle.rewrite_facts.specs.declared.stage.RewriteStage.TheVariants.{Visiting, Filling, Reading, Placing, Laying, Ready}
use Rattle.rewrite_facts.specs.declared.stage.RewriteStep.{RewriteStep}
use Rattle.rewrite_facts.specs.declared.stage.RewriteStep.TheVariants as steps

-- to read the value of a cell that is out: two steps for each entry of the value, and one where there is none
abbrev pub read_steps : Store → Cell → ℕ
read_steps old Null = 0
read_steps old (Inline value) = 0
read_steps old (Out pointer) = asks_left (of_id pointer.value_id old.index.entries)

-- to let a value out, if it may go: a draw, and two steps for each piece
abbrev pub push_steps : Storage → Option (List ℕ) → ℕ
push_steps storage None = 0
push_steps storage (Some value) = if may_go_out storage (length value) then 1 + 2 * piece_count (length value) else 0

-- the same of all values of a row
abbrev pub row_steps : List Storage → Row → ℕ
row_steps [] row = 0
row_steps (storage ∷ storages) [] = 0
row_steps (storage ∷ storages) (value ∷ values) = push_steps storage value + row_steps storages values

-- to copy a version: its values are read and let out, and it is put
abbrev pub copy_steps : Table → Version → ℕ
copy_steps old version = sum_by (read_steps old.toast) (cells_in old.rows.schema.storages version.tuple) + row_steps old.rows.schema.storages (row_in_old old version) + 1

abbrev pub line_steps : Table → LinePointer Version → ℕ
line_steps old (Normal size version) = copy_steps old version
line_steps old Dead = 0
line_steps old Unused = 0

-- to copy each version from a place on
abbrev pub rest_left : Table → Tid → ℕ
rest_left old place = sum_by (line_steps old) (drop place.slot (page_at old.rows.pages place.page)) + sum_by (sum_by (line_steps old)) (drop (place.page + 1) old.rows.pages)

-- the value of a cell that is inline
abbrev pub inline_value : Cell → Option (List ℕ)
inline_value Null = None
inline_value (Inline value) = Some value
inline_value (Out pointer) = None

-- once the version at a place has its values: it is put, each one after it is copied, and there is an end
abbrev pub after_values : Table → Tid → ℕ
after_values old place = rest_left old (next_place place) + 2

-- how many steps are left by where a rewrite stands
abbrev pub left_at : Table → Tid → RewriteStage → ℕ
left_at old place Visiting = rest_left old place + 1
left_at old place (Filling copy) = sum_by (read_steps old.toast) copy.cells + row_steps old.rows.schema.storages (map (cell_value old.toast) copy.cells) + after_values old place
left_at old place (Reading copy at fetch) = steps_left old.toast.index.entries (Fetching.walk fetch) + sum_by (read_steps old.toast) (slice_set copy.cells at Null) + row_steps old.rows.schema.storages (map (cell_value old.toast) copy.cells) + after_values old place
left_at old place (Placing copy columns at) = row_steps old.rows.schema.storages (map inline_value copy.cells) + after_values old place
left_at old place (Laying copy columns at job) = pieces.steps_left job + row_steps old.rows.schema.storages (map inline_value copy.cells) + after_values old place
left_at old place Ready = 0

-- how many steps a rewrite has left
abbrev pub left : Table → Rewriting → ℕ
left old r = left_at old r.place r.stage

-- a step that answers `More` leaves some, and fewer than there were; `Ready` leaves none
abbrev pub IsProgress : ℕ → ℕ → RewriteStep → Type 0
IsProgress before after steps.More = (0 < after) × (after < before)
IsProgress before after steps.Ready = after ≡ 0
