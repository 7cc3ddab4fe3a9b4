-- What a write under way has still to do with its table: the old version, the new row, its keys, its ids, and what it drops.
use Rattle.std.specs.Ordering.{int_cmp, is_eq}
use Rattle.std.specs.Prelude.{Bool, List, None, Option, Some, [], drop, if◌then◌else◌, length, map, not, option_to_list, sum_by, take, true, ℕ, ℤ, ◌*◌, ◌++◌, ◌+◌}
use Rattle.external_pointer.specs.declared.external.Pointer.{Pointer}
use Rattle.tuple_layout.specs.Places.{Row}
use Rattle.tuple_layout.specs.declared.cell.Cell.{Cell}
use Rattle.tuple_layout.specs.declared.cell.Cell.TheVariants.{Inline}
use Rattle.tuple_layout.specs.declared.cell.Stored.{Stored}
use Rattle.chunk_index.specs.declared.entry.Entry.{Entry}
use Rattle.change_log.specs.declared.entry.LogEntry.{LogEntry}
use Rattle.toast_store.specs.Marks.{Marking, new_mark}
use Rattle.toast_store.specs.Saves.{id_of}
use Rattle.toast_store.specs.Stores.{Store}
use Rattle.toast_store.specs.Values.{piece_count}
use Rattle.toast_store.specs.Walks.{steps_left}
use Rattle.command_set.specs.declared.state.Change.{Change}
use Rattle.command_set.specs.declared.state.Change.TheVariants.{Insert, Move, Remove, Update}
use Rattle.table_state.specs.Rows.{cell_value, pointers_in}
use Rattle.read_steps.specs.Reads.{cell_of}
use Rattle.write_steps.specs.Dropped.{dropped_of}
use Rattle.write_steps.specs.Writes.{Writing, bytes_of, column_at, old_cells, with_cell}
use Rattle.write_steps.specs.declared.stage.OldRow.{OldRow}
use Rattle.write_steps.specs.declared.stage.Owner.{Owner}
use Rattle.write_steps.specs.declared.stage.WriteStage.{WriteStage}
use Rattle.change_log.specs.declared.entry.LogEntry.TheVariants as entries
use Rattle.toast_store.specs.Saves as saves
use Rattle.write_steps.specs.declared.stage.WriteStage.TheVariants as stages

-- the old version, until the version step
abbrev pub old_left : WriteStage → Option OldRow
old_left (stages.Saving old new plan at save) = old
old_left (stages.Put old new plan) = old
old_left (stages.Remove old) = Some old
old_left (stages.Marking dropped at mark) = None
old_left stages.Over = None

-- the new row until then, where the value that is being saved is taken out of it
abbrev pub new_left : WriteStage → Option Stored
new_left (stages.Saving old new plan at save) = Some new
new_left (stages.Put old new plan) = Some new
new_left (stages.Remove old) = None
new_left (stages.Marking dropped at mark) = None
new_left stages.Over = None

-- the same with that value in its place
abbrev pub whole_left : WriteStage → Option Stored
whole_left (stages.Saving old new plan at save) = Some (with_cell new (column_at plan at) (Inline save.value))
whole_left (stages.Put old new plan) = Some new
whole_left (stages.Remove old) = None
whole_left (stages.Marking dropped at mark) = None
whole_left stages.Over = None

-- the columns that are still to go out, the one that is being saved among them, and those that are saved
abbrev pub to_push : WriteStage → List ℕ
to_push (stages.Saving old new plan at save) = drop at plan
to_push (stages.Put old new plan) = []
to_push (stages.Remove old) = []
to_push (stages.Marking dropped at mark) = []
to_push stages.Over = []

abbrev pub pushed_so_far : WriteStage → List ℕ
pushed_so_far (stages.Saving old new plan at save) = take at plan
pushed_so_far (stages.Put old new plan) = plan
pushed_so_far (stages.Remove old) = []
pushed_so_far (stages.Marking dropped at mark) = []
pushed_so_far stages.Over = []

-- the id of the save under way, if it has drawn one
abbrev pub id_drawn : WriteStage → Option ℕ
id_drawn (stages.Saving old new plan at save) = id_of save.stage
id_drawn (stages.Put old new plan) = None
id_drawn (stages.Remove old) = None
id_drawn (stages.Marking dropped at mark) = None
id_drawn stages.Over = None

-- the pointers that are still to be marked
abbrev pub to_drop : WriteStage → List Pointer
to_drop (stages.Saving old new plan at save) = []
to_drop (stages.Put old new plan) = []
to_drop (stages.Remove old) = []
to_drop (stages.Marking dropped at mark) = drop at dropped
to_drop stages.Over = []

-- ---- by these

abbrev pub cells_or_none : Option Stored → List Cell
cells_or_none None = []
cells_or_none (Some stored) = stored.cells

-- the cells of the new row
abbrev pub cells_left : WriteStage → List Cell
cells_left stage = cells_or_none (new_left stage)

-- the ids of pointers
abbrev pub ids_of : List Pointer → List ℕ
ids_of pointers = map (λ pointer. pointer.value_id) pointers

-- the ids that the write has drawn for the new row: of the save under way, and of the columns that are saved
abbrev pub ids_drawn : WriteStage → List ℕ
ids_drawn stage = option_to_list (id_drawn stage) ++ ids_of (pointers_in (map (cell_of (cells_left stage)) (pushed_so_far stage)))

-- the keys of the old version and of the new row
abbrev pub keys_left : WriteStage → List ℤ
keys_left stage = map (λ old. old.stored.key) (option_to_list (old_left stage)) ++ map (λ new. new.key) (option_to_list (new_left stage))

-- whether the new row is at a key where the old one is not
abbrev pub is_elsewhere : Option OldRow → ℤ → Bool
is_elsewhere None key = true
is_elsewhere (Some old) key = not (is_eq (int_cmp old.stored.key key))

-- ---- the change that a write is still to make

abbrev pub changed_row : ℕ → Option OldRow → ℤ → Row → Change
changed_row t None key row = Insert t key row
changed_row t (Some old) key row = if is_elsewhere (Some old) key then Move t old.stored.key key row else Update t key row

abbrev pub change_to : ℕ → Store → Option OldRow → Option Stored → Option Change
change_to t toast None None = None
change_to t toast (Some old) None = Some (Remove t old.stored.key)
change_to t toast old (Some new) = Some (changed_row t old new.key (map (cell_value toast) new.cells))

abbrev pub change_left : ℕ → Store → WriteStage → Option Change
change_left t toast stage = change_to t toast (old_left stage) (whole_left stage)

-- ---- the log

-- the transaction of an entry
abbrev pub xid_logged : LogEntry → ℕ
xid_logged (entries.Chunk xid t value_id seq bytes) = xid
xid_logged (entries.Insert xid t key cells) = xid
xid_logged (entries.Update xid t from to cells) = xid
xid_logged (entries.Delete xid t key) = xid
xid_logged (entries.Commit xid) = xid
xid_logged (entries.Abort xid) = xid

-- ---- what is left

-- how many steps of saves are left at most, from a place in the plan on: the draw, and two for each piece
abbrev pub save_steps : Cell → ℕ
save_steps cell = 1 + 2 * piece_count (length (bytes_of cell))

abbrev pub saves_left : Stored → List ℕ → ℕ → ℕ
saves_left new plan from = sum_by (λ column. save_steps (cell_of new.cells column)) (drop from plan)

-- how many steps of marks are left at most, from a place in what is dropped on, where the index stays as it is
abbrev pub marks_left : List Entry → Owner → List Pointer → ℕ → ℕ
marks_left entries owner dropped from = sum_by (λ pointer. steps_left entries (Marking.walk (new_mark pointer owner.xid owner.session))) (drop from dropped)

-- how many steps of a write are left at most, by where it stands; what the new row drops is counted with the value that is being saved in its place
abbrev pub write_left_at : List Entry → Owner → WriteStage → ℕ
write_left_at entries owner (stages.Saving old new plan at save) = saves.steps_left save + saves_left new plan (at + 1) + 1 + marks_left entries owner (dropped_of (old_cells old) (Stored.cells (with_cell new (column_at plan at) (Inline save.value)))) 0
write_left_at entries owner (stages.Put old new plan) = 1 + marks_left entries owner (dropped_of (old_cells old) new.cells) 0
write_left_at entries owner (stages.Remove old) = 1 + marks_left entries owner (dropped_of (old_cells (Some old)) []) 0
write_left_at entries owner (stages.Marking dropped at mark) = steps_left entries (Marking.walk mark) + marks_left entries owner dropped (at + 1)
write_left_at entries owner stages.Over = 0

abbrev pub write_left : List Entry → Writing → ℕ
write_left entries write = write_left_at entries write.owner write.stage
