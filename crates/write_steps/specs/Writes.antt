-- A write by steps: its columns are saved, then the version step is made, and then the dropped pointers are marked (PostgreSQL, "TOAST, Out-of-Line, On-Disk TOAST Storage"; "Concurrency Control").
use Rattle.std.specs.Prelude.{ℕ, ◌≡◌, ◌+◌, ◌-◌, Option, Some, None, List, [], ◌∷◌, ◌++◌, if◌then◌else◌, slice_get, slice_index_or, slice_set}
use Rattle.external_pointer.specs.declared.external.Pointer.{Pointer}
use Rattle.tuple_layout.specs.Tuples.{tuple}
use Rattle.tuple_layout.specs.declared.cell.Cell.{Cell}
use Rattle.tuple_layout.specs.declared.cell.Cell.TheVariants.{Null, Inline, Out}
use Rattle.tuple_layout.specs.declared.cell.Stored.{Stored}
use Rattle.row_versions.specs.Relations.{Relation, with_ended, with_version}
use Rattle.row_versions.specs.Versions.{new_version}
use Rattle.value_ids.specs.Ids.{Pool}
use Rattle.change_log.specs.Logs.{LogState}
use Rattle.change_log.specs.declared.entry.LogEntry.{LogEntry}
use Rattle.change_log.specs.declared.entry.LogEntry.TheVariants as entries
use Rattle.toast_store.specs.Stores.{Store}
use Rattle.toast_store.specs.Walks.{Walking, is_over, walk_after}
use Rattle.toast_store.specs.Saves as saves
use Rattle.toast_store.specs.Saves.{Saving}
use Rattle.toast_store.specs.declared.save.SaveStep.{SaveStep}
use Rattle.toast_store.specs.declared.save.SaveStep.TheVariants as told
use Rattle.toast_store.specs.Marks.{Marking, new_mark, store_marked}
use Rattle.write_steps.specs.Dropped.{dropped_of}
use Rattle.write_steps.specs.declared.stage.OldRow.{OldRow}
use Rattle.write_steps.specs.declared.stage.Owner.{Owner}
use Rattle.write_steps.specs.declared.stage.WriteStage.{WriteStage}
use Rattle.write_steps.specs.declared.stage.WriteStage.TheVariants as stages
use Rattle.write_steps.specs.declared.stage.WriteStep.{WriteStep}
use Rattle.write_steps.specs.declared.stage.WriteStep.TheVariants.{More, Done}

-- a write: whose it is, and how far it is
pub record Writing : Type 0 where
  pub owner : Owner
  pub stage : WriteStage

-- what a write works on: the table's rows and values out of line, the ids and the log
pub record Parts : Type 0 where
  pub rows : Relation
  pub toast : Store
  pub ids : Pool
  pub log : LogState

abbrev pub parts_of : Relation → Store → Pool → LogState → Parts
parts_of rows toast ids log = record { rows = rows; toast = toast; ids = ids; log = log }

-- ---- where a write stands

-- the cell of a column, from 1
abbrev pub cell_of : List Cell → ℕ → Cell
cell_of cells column = slice_index_or cells (column - 1) Null

-- a row with another cell in a column
abbrev pub with_cell : Stored → ℕ → Cell → Stored
with_cell stored column cell = record stored { cells = slice_set stored.cells (column - 1) cell }

-- the bytes of an inline value
abbrev pub bytes_of : Cell → List ℕ
bytes_of Null = []
bytes_of (Inline value) = value
bytes_of (Out pointer) = []

-- the saving of a value of a write, before its first step
abbrev pub new_save : Owner → List ℕ → Saving
new_save owner value = saves.new_save owner.table owner.session owner.xid value

-- a write that is next to save a column, whose value it takes out of the row; with no column left, to make its version step
abbrev pub to_save : Owner → Option OldRow → Stored → List ℕ → ℕ → Option ℕ → WriteStage
to_save owner old new plan at None = stages.Put old new plan
to_save owner old new plan at (Some column) = stages.Saving old (with_cell new column Null) plan at (new_save owner (bytes_of (cell_of new.cells column)))

-- the same from a place in the plan on
abbrev pub saving_from : Owner → Option OldRow → Stored → List ℕ → ℕ → WriteStage
saving_from owner old new plan at = to_save owner old new plan at (slice_get plan at)

-- a write that is next to mark a dropped pointer; with none left, it is over
abbrev pub to_mark : Owner → List Pointer → ℕ → Option Pointer → WriteStage
to_mark owner dropped at None = stages.Over
to_mark owner dropped at (Some pointer) = stages.Marking dropped at (new_mark pointer owner.xid owner.session)

-- the same from a place in what is dropped on
abbrev pub marking_from : Owner → List Pointer → ℕ → WriteStage
marking_from owner dropped at = to_mark owner dropped at (slice_get dropped at)

-- the cells of an old row, if there is one
abbrev pub old_cells : Option OldRow → List Cell
old_cells None = []
old_cells (Some old) = Stored.cells (OldRow.stored old)

-- a write before its first step, by the old row and the new one, of which one at least is there
abbrev pub first_stage : Owner → Option OldRow → Option Stored → List ℕ → WriteStage
first_stage owner old (Some new) plan = saving_from owner old new plan 0
first_stage owner (Some old) None plan = stages.Remove old
first_stage owner None None plan = stages.Over

abbrev pub new_write : ℕ → ℕ → ℕ → Option OldRow → Option Stored → List ℕ → Writing
new_write table session xid old new plan = let owner : Owner = record { table = table; session = session; xid = xid } in record { owner = owner; stage = first_stage owner old new plan }

-- ---- a step

-- the column that is being saved
abbrev pub column_at : List ℕ → ℕ → ℕ
column_at plan at = slice_index_or plan at 0

-- a write after a step of its save: it goes on, or the pointer stands in the row and the next column follows
abbrev pub saved_on : Owner → Option OldRow → Stored → List ℕ → ℕ → Saving → SaveStep → WriteStage
saved_on owner old new plan at save told.More = stages.Saving old new plan at save
saved_on owner old new plan at save (told.Done pointer) = saving_from owner old (with_cell new (column_at plan at) (Out pointer)) plan (at + 1)

-- a save after its next step, and what that answers
abbrev pub save_after : Parts → Saving → Saving
save_after parts save = record save { stage = saves.stage_after parts.toast parts.ids save save.stage }

abbrev pub save_told : Parts → Saving → SaveStep
save_told parts save = saves.answer_at save (saves.stage_after parts.toast parts.ids save save.stage)

-- a mark after its next step
abbrev pub mark_after : Parts → Marking → Marking
mark_after parts mark = record mark { walk = walk_after parts.toast.index mark.walk }

-- a write after a step of its mark: it goes on, or the next dropped pointer follows
abbrev pub marked_on : Owner → List Pointer → ℕ → Marking → WriteStage
marked_on owner dropped at mark = if is_over (Walking.stage (Marking.walk mark)) then marking_from owner dropped (at + 1) else stages.Marking dropped at mark

-- where a write stands after its next step
abbrev pub stage_after : Parts → Owner → WriteStage → WriteStage
stage_after parts owner (stages.Saving old new plan at save) = saved_on owner old new plan at (save_after parts save) (save_told parts save)
stage_after parts owner (stages.Put old new plan) = marking_from owner (dropped_of (old_cells old) new.cells) 0
stage_after parts owner (stages.Remove old) = marking_from owner (dropped_of (old_cells (Some old)) []) 0
stage_after parts owner (stages.Marking dropped at mark) = marked_on owner dropped at (mark_after parts mark)
stage_after parts owner stages.Over = stages.Over

abbrev pub write_after : Parts → Writing → Writing
write_after parts write = record write { stage = stage_after parts write.owner write.stage }

-- what a step answers, by where the write stands then
abbrev pub answer_at : WriteStage → WriteStep
answer_at (stages.Saving old new plan at save) = More
answer_at (stages.Put old new plan) = More
answer_at (stages.Remove old) = More
answer_at (stages.Marking dropped at mark) = More
answer_at stages.Over = Done

-- the rows with an old version ended, if there is one
abbrev pub ended_by : ℕ → Relation → Option OldRow → Relation
ended_by xid rows None = rows
ended_by xid rows (Some old) = with_ended xid rows old.tid

-- the rows with a new version
abbrev pub put_by : ℕ → Relation → Stored → Relation
put_by xid rows new = with_version rows (new_version new.key xid (tuple rows.schema.storages new))

-- the version step puts the new version and ends the old one; no other step changes the rows
abbrev pub rows_at : Relation → Owner → WriteStage → Relation
rows_at rows owner (stages.Saving old new plan at save) = rows
rows_at rows owner (stages.Put old new plan) = ended_by owner.xid (put_by owner.xid rows new) old
rows_at rows owner (stages.Remove old) = with_ended owner.xid rows old.tid
rows_at rows owner (stages.Marking dropped at mark) = rows
rows_at rows owner stages.Over = rows

-- the log entry of a row that is put, by the row before it
abbrev pub row_entry : Owner → Option OldRow → Stored → LogEntry
row_entry owner None new = entries.Insert owner.xid owner.table new.key new.cells
row_entry owner (Some old) new = entries.Update owner.xid owner.table (Stored.key (OldRow.stored old)) new.key new.cells

abbrev pub with_logged : LogState → LogEntry → LogState
with_logged log entry = record log { entries = log.entries ++ entry ∷ [] }

-- the version step logs the change, and a save's put its chunk
abbrev pub log_at : LogState → Owner → WriteStage → LogState
log_at log owner (stages.Saving old new plan at save) = saves.log_after log save save.stage
log_at log owner (stages.Put old new plan) = with_logged log (row_entry owner old new)
log_at log owner (stages.Remove old) = with_logged log (entries.Delete owner.xid owner.table (Stored.key (OldRow.stored old)))
log_at log owner (stages.Marking dropped at mark) = log
log_at log owner stages.Over = log

-- a save's draw takes an id in hand
abbrev pub ids_at : Store → Pool → WriteStage → Pool
ids_at toast ids (stages.Saving old new plan at save) = saves.ids_after toast ids save save.stage
ids_at toast ids (stages.Put old new plan) = ids
ids_at toast ids (stages.Remove old) = ids
ids_at toast ids (stages.Marking dropped at mark) = ids
ids_at toast ids stages.Over = ids

-- the values out of line after a step of a save: a chunk is put, or an entry added
pub record IsSavedOn (old new : Store) (save : Saving) : Type 0 where
  pub rel : new.rel ≡ saves.rel_after old.rel save save.stage
  pub index : saves.IsIndexAfter save.stage old.index new.index

-- a step of a save, or of a mark, changes the values out of line; no other does
abbrev pub IsToastAt : Store → Store → WriteStage → Type 0
IsToastAt before after (stages.Saving old new plan at save) = IsSavedOn before after save
IsToastAt before after (stages.Put old new plan) = after ≡ before
IsToastAt before after (stages.Remove old) = after ≡ before
IsToastAt before after (stages.Marking dropped at mark) = after ≡ store_marked before mark
IsToastAt before after stages.Over = after ≡ before
