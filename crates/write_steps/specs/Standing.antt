-- What a write relies on where it stands.
use Rattle.std.specs.Prelude.{ℕ, ◌≡◌, ◌≢◌, ◌+◌, ◌^◌, ◌<◌, ◌≤◌, Option, Some, None, List, All, length, drop, slice_get, ⊤}
use Rattle.std.specs.Option.{ForSome}
use Rattle.slot_page.specs.Slots.{IsNormal}
use Rattle.slot_page.specs.Pages.{slot_of}
use Rattle.external_pointer.specs.declared.external.Pointer.{Pointer}
use Rattle.tuple_layout.specs.Sizes.{largest_tuple, least_out, size}
use Rattle.tuple_layout.specs.Tuples.{IsWithinLimits, cell_widths, row_size}
use Rattle.tuple_layout.specs.declared.cell.Cell.{Cell}
use Rattle.tuple_layout.specs.declared.cell.Cell.TheVariants.{Null, Inline, Out}
use Rattle.tuple_layout.specs.declared.cell.Stored.{Stored}
use Rattle.tuple_toaster.specs.Pushed.{moved}
use Rattle.row_versions.specs.Relations.{Relation}
use Rattle.chunk_index.specs.Pinned.{pin_of}
use Rattle.value_ids.specs.Ids.{Pool}
use Rattle.toast_store.specs.Stores.{Store}
use Rattle.toast_store.specs.Walks.{CanStep, IsBatchHeld}
use Rattle.toast_store.specs.Saves as saves
use Rattle.toast_store.specs.Saves.{IsSaved, SaveStands, Saving}
use Rattle.toast_store.specs.Marks.{IsMarking, Marking}
use Rattle.toast_store.specs.Begun.{IsOverSome}
use Rattle.write_steps.specs.Writes.{Parts, Writing, cell_of, column_at, new_save}
use Rattle.write_steps.specs.declared.stage.OldRow.{OldRow}
use Rattle.write_steps.specs.declared.stage.Owner.{Owner}
use Rattle.write_steps.specs.declared.stage.WriteStage.{WriteStage}
use Rattle.write_steps.specs.declared.stage.WriteStage.TheVariants as stages

-- ---- what is true of each write

-- the value of a column may go out: it is inline, of 21 to 65,536 bytes
abbrev pub CanGoOut : Cell → Type 0
CanGoOut Null = ⊥
CanGoOut (Inline value) = (least_out ≤ length value) × (length value ≤ 65536)
CanGoOut (Out pointer) = ⊥

-- a column is there
abbrev pub IsColumn : Stored → ℕ → Type 0
IsColumn new column = (1 ≤ column) × (column ≤ length new.cells)

-- each column of a plan is there, and none comes twice; the values of those from a place on may go out
pub record CanPush (new : Stored) (plan : List ℕ) (from : ℕ) : Type 0 where
  pub there : (at column : ℕ) → slice_get plan at ≡ Some column → IsColumn new column
  pub values : (at column : ℕ) → from ≤ at → slice_get plan at ≡ Some column → CanGoOut (cell_of new.cells column)
  pub once : (at other column : ℕ) → slice_get plan at ≡ Some column → slice_get plan other ≡ Some column → at ≡ other

-- an old row or a new one is there, and the columns of the plan may go out
abbrev pub CanBegin : Option OldRow → Option Stored → List ℕ → Type 0
CanBegin old (Some new) plan = CanPush new plan 0
CanBegin (Some old) None plan = ⊤
CanBegin None None plan = ⊥

-- a save is of the write
pub record IsSaveOf (owner : Owner) (save : Saving) : Type 0 where
  pub table : save.table ≡ owner.table
  pub session : save.session ≡ owner.session
  pub xid : save.xid ≡ owner.xid
  pub under_way : saves.IsUnderWay save.stage

-- a column of the plan is being saved, and those after it may go out
pub record IsSavingAt (owner : Owner) (new : Stored) (plan : List ℕ) (at : ℕ) (save : Saving) : Type 0 where
  pub here : slice_get plan at ≡ Some (column_at plan at)
  pub there : IsColumn new (column_at plan at)
  pub later : CanPush new plan (at + 1)
  pub own : IsSaveOf owner save

-- each pointer has bytes
pub record AreSized (pointers : List Pointer) : Type 0 where
  pub each : (at : ℕ) (pointer : Pointer) → slice_get pointers at ≡ Some pointer → 0 < pointer.size

-- the dropped pointers have bytes, and a mark of the one at a place is under way
pub record IsMarkingAt (owner : Owner) (dropped : List Pointer) (at : ℕ) (mark : Marking) : Type 0 where
  pub sized : AreSized dropped
  pub there : at < length dropped
  pub few : length dropped < 2 ^ 64
  pub walk : IsOverSome mark.walk.stage

-- what is true of each write
abbrev pub IsWriteStage : Owner → WriteStage → Type 0
IsWriteStage owner (stages.Saving old new plan at save) = IsSavingAt owner new plan at save
IsWriteStage owner (stages.Put old new plan) = ⊤
IsWriteStage owner (stages.Remove old) = ⊤
IsWriteStage owner (stages.Marking dropped at mark) = IsMarkingAt owner dropped at mark
IsWriteStage owner stages.Over = ⊤

-- ---- what a step relies on

-- the slot of the old version still has it
abbrev pub IsOldThere : Relation → Option OldRow → Type 0
IsOldThere rows old = ForSome old (λ (row : OldRow). IsNormal (slot_of rows.pages row.tid))

-- its session holds no pin
abbrev pub HoldsNoPin : Store → Owner → Type 0
HoldsNoPin toast owner = pin_of toast.index.pins owner.session ≡ None

-- a row has a tuple that fits a page
pub record CanForm (rows : Relation) (new : Stored) : Type 0 where
  pub one_each : length new.cells ≡ length rows.schema.storages
  pub limits : All IsWithinLimits new.cells
  pub size : row_size rows.schema.storages new.cells ≤ largest_tuple

-- the new row has one cell per column, within limits, and its tuple fits a page once the columns of the plan from a place on are out too
pub record Fits (rows : Relation) (new : Stored) (plan : List ℕ) (from : ℕ) : Type 0 where
  pub one_each : length new.cells ≡ length rows.schema.storages
  pub limits : All IsWithinLimits new.cells
  pub size : size rows.schema.storages (moved (drop from plan) (cell_widths new.cells)) ≤ largest_tuple

-- the column at a place of the plan has a pointer
pub record Holds (new : Stored) (plan : List ℕ) (at : ℕ) (pointer : Pointer) : Type 0 where
  pub column : ℕ
  pub planned : slice_get plan at ≡ Some column
  pub cell : cell_of new.cells column ≡ Out pointer

-- the columns up to a place of the plan are saved: each pointer is of the table and whole, its chunks are as they were put, and its id is in hand; no two have one id
pub record AreSaved (toast : Store) (ids : Pool) (owner : Owner) (new : Stored) (plan : List ℕ) (to : ℕ) : Type 0 where
  pub out : (at column : ℕ) → at < to → slice_get plan at ≡ Some column → (pointer : Pointer) × (cell_of new.cells column ≡ Out pointer)
  pub saved : (at : ℕ) (pointer : Pointer) → at < to → Holds new plan at pointer → (value : List ℕ) × IsSaved toast ids (new_save owner value) pointer
  pub apart : (at other : ℕ) (p q : Pointer) → at < to → other < to → at ≢ other → Holds new plan at p → Holds new plan other q → p.value_id ≢ q.value_id

-- until its version step: the old version is there, what is saved stands, and so does what is being saved, under another id
pub record StandsSaving (parts : Parts) (owner : Owner) (old : Option OldRow) (new : Stored) (plan : List ℕ) (at : ℕ) (save : Saving) : Type 0 where
  pub there : IsOldThere parts.rows old
  pub free : HoldsNoPin parts.toast owner
  pub fits : Fits parts.rows new plan at
  pub saved : AreSaved parts.toast parts.ids owner new plan at
  pub session : save.session ≡ owner.session
  pub stands : SaveStands parts.toast parts.ids save
  pub fresh : (other : ℕ) (pointer : Pointer) → other < at → Holds new plan other pointer → saves.id_of save.stage ≢ Some pointer.value_id

pub record StandsPut (parts : Parts) (owner : Owner) (old : Option OldRow) (new : Stored) (plan : List ℕ) : Type 0 where
  pub there : IsOldThere parts.rows old
  pub free : HoldsNoPin parts.toast owner
  pub fits : Fits parts.rows new plan (length plan)
  pub saved : AreSaved parts.toast parts.ids owner new plan (length plan)

pub record StandsRemove (parts : Parts) (owner : Owner) (old : OldRow) : Type 0 where
  pub there : IsOldThere parts.rows (Some old)
  pub free : HoldsNoPin parts.toast owner

-- and after it: the mark may go on, and each entry of its value lies ahead or its chunk is ended
pub record StandsMarking (toast : Store) (owner : Owner) (mark : Marking) : Type 0 where
  pub session : mark.walk.session ≡ owner.session
  pub can : CanStep toast.index mark.walk
  pub batch : IsBatchHeld toast.index.entries mark.walk
  pub marking : IsMarking toast mark

-- what a write relies on where it stands
abbrev pub StandsAt : Parts → Owner → WriteStage → Type 0
StandsAt parts owner (stages.Saving old new plan at save) = StandsSaving parts owner old new plan at save
StandsAt parts owner (stages.Put old new plan) = StandsPut parts owner old new plan
StandsAt parts owner (stages.Remove old) = StandsRemove parts owner old
StandsAt parts owner (stages.Marking dropped at mark) = StandsMarking parts.toast owner mark
StandsAt parts owner stages.Over = ⊥

abbrev pub WriteStands : Parts → Writing → Type 0
WriteStands parts write = StandsAt parts write.owner write.stage
