-- Saving a value: an id is drawn, and then each piece is put as a chunk, with its entry in the log, and indexed.
use Rattle.std.specs.Prelude.{ℕ, ◌≡◌, ◌+◌, ◌*◌, ◌<◌, ◌≤◌, if◌then◌else◌, Option, Some, None, List, [], ◌∷◌, ◌++◌, Contains, length, ⊤}
use Rattle.std.specs.Option.{unwrap_or}
use Rattle.slice_fetch.specs.Spans.{piece}
use Rattle.external_pointer.specs.declared.external.Pointer.{Pointer}
use Rattle.external_pointer.specs.Spelling.{IsInRange}
use Rattle.chunk_relation.specs.Relations.{Relation}
use Rattle.chunk_index.specs.Indexes.{Index}
use Rattle.value_ids.specs.declared.pool.InHand.{InHand}
use Rattle.value_ids.specs.Ids.{Pool, first_free_id, id_after}
use Rattle.value_ids.specs.Faults.{IsCause}
use Rattle.value_ids.specs.declared.fault.DrawFault.{DrawFault}
use Rattle.value_ids.specs.declared.fault.DrawFault.TheVariants.{NoValueId, Memory}
use Rattle.change_log.specs.Logs.{LogState}
use Rattle.change_log.specs.declared.entry.LogEntry.TheVariants as entries
use Rattle.toast_store.specs.Stores.{Store, chunks_of, is_used}
use Rattle.toast_store.specs.Values.{Whole, piece_count}
use Rattle.toast_store.specs.PieceJobs as pieces
use Rattle.toast_store.specs.PieceJobs.{Piecing, IsPieceStage, IsLaying, PiecesStandAt, all_put, is_laid, pointer_to, pieces_after, seq_to_put}
use Rattle.toast_store.specs.declared.piece_job.PieceStage.{PieceStage}
use Rattle.toast_store.specs.declared.piece_job.PieceStage.TheVariants.{Putting}
use Rattle.toast_store.specs.declared.save.SaveStage.{SaveStage}
use Rattle.toast_store.specs.declared.save.SaveStage.TheVariants as stages
use Rattle.toast_store.specs.declared.save.SaveStep.{SaveStep}
use Rattle.toast_store.specs.declared.save.SaveStep.TheVariants.{More, Done}

-- how far a save is: it is to draw the value's id; or the pieces are on their way under the id
pub data Stage : Type 0 where
  Drawing : Stage
  Laying : ℕ → PieceStage → Stage

-- a save: whose it is, the value, and how far it is
pub record Saving : Type 0 where
  pub table : ℕ
  pub session : ℕ
  pub xid : ℕ
  pub value : List ℕ
  pub stage : Stage

-- a save before its first step
abbrev pub new_save : ℕ → ℕ → ℕ → List ℕ → Saving
new_save table session xid value = record { table = table; session = session; xid = xid; value = value; stage = Drawing }

-- a save, by where its value is: with it, or with the job of its pieces
abbrev pub saving_of : ℕ → ℕ → SaveStage → Saving
saving_of table session (stages.Drawing xid value) = new_save table session xid value
saving_of table session (stages.Laying job) = record { table = table; session = session; xid = job.xid; value = job.value; stage = Laying job.value_id job.stage }

-- the pieces of a save under an id, so far
abbrev pub pieces_of : Saving → ℕ → PieceStage → Piecing
pieces_of save value_id at = record { xid = save.xid; value_id = value_id; value = save.value; stage = at }

-- a piece that is still to be put or indexed is one of the value's
abbrev pub IsStage : List ℕ → Stage → Type 0
IsStage value Drawing = ⊤
IsStage value (Laying value_id at) = IsPieceStage value at

-- what is true of each save: its value may go out of line, of at most 65,536 bytes
pub record IsSave (save : Saving) : Type 0 where
  pub least : 21 ≤ length save.value
  pub most : length save.value ≤ 65536
  pub stage : IsStage save.value save.stage

-- a save has a step left
abbrev pub IsUnderWay : Stage → Type 0
IsUnderWay Drawing = ⊤
IsUnderWay (Laying value_id at) = IsLaying at

-- the id that a save has drawn, if it has
abbrev pub id_of : Stage → Option ℕ
id_of Drawing = None
id_of (Laying value_id at) = Some value_id

-- what is in hand for a save once it has drawn an id
abbrev pub held_by : Saving → ℕ → InHand
held_by save value_id = record { table = save.table; session = save.session; id = value_id }

-- what a save relies on from its draw on: the id is in hand for the session and the table, and its pieces stand
pub record HasDrawn (store : Store) (ids : Pool) (save : Saving) (value_id : ℕ) (at : PieceStage) : Type 0 where
  pub in_hand : Contains ids.in_hand (held_by save value_id)
  pub pieces : PiecesStandAt store (pieces_of save value_id at) at

-- what it relies on, by how far it is
abbrev pub StandsAt : Store → Pool → Saving → Stage → Type 0
StandsAt store ids save Drawing = ⊤
StandsAt store ids save (Laying value_id at) = HasDrawn store ids save value_id at

-- what a save relies on where it stands
abbrev pub SaveStands : Store → Pool → Saving → Type 0
SaveStands store ids save = StandsAt store ids save save.stage

-- the id that a draw gives, where it gives one
abbrev pub drawn_id : Store → Pool → Saving → ℕ
drawn_id store ids save = unwrap_or (first_free_id (is_used store) ids save.table) 0

-- a draw that is granted has the id that the pool gives
abbrev pub IsDrawn : Store → Pool → Saving → Stage → Stage → Type 0
IsDrawn store ids save Drawing after = first_free_id (is_used store) ids save.table ≡ id_of after
IsDrawn store ids save (Laying value_id at) after = ⊤

-- where a save stands after its next step: its id is drawn, or its pieces go on
abbrev pub stage_after : Store → Pool → Saving → Stage → Stage
stage_after store ids save Drawing = Laying (drawn_id store ids save) (Putting 0)
stage_after store ids save (Laying value_id at) = Laying value_id (pieces_after store.rel save.value at)

-- a draw takes the id in hand, and nothing else changes the ids
abbrev pub ids_after : Store → Pool → Saving → Stage → Pool
ids_after store ids save Drawing = record ids { next = id_after ids (drawn_id store ids save); in_hand = ids.in_hand ++ held_by save (drawn_id store ids save) ∷ [] }
ids_after store ids save (Laying value_id at) = ids

-- a put adds the piece's chunk to the relation, and nothing else changes that
abbrev pub rel_after : Relation → Saving → Stage → Relation
rel_after rel save Drawing = rel
rel_after rel save (Laying value_id at) = pieces.rel_after rel (pieces_of save value_id at) at

-- the step after a put adds the chunk's entry to the index, and nothing else changes that
abbrev pub IsIndexAfter : Stage → Index → Index → Type 0
IsIndexAfter Drawing old new = new ≡ old
IsIndexAfter (Laying value_id at) old new = pieces.IsIndexAfter value_id at old new

-- a log with the entry of a table's piece, where one is put
abbrev pub logged : LogState → ℕ → Piecing → Option ℕ → LogState
logged log table job None = log
logged log table job (Some seq) = record log { entries = log.entries ++ entries.Chunk job.xid table job.value_id seq (piece job.value seq) ∷ [] }

-- a log after the next step of a table's pieces
abbrev pub logged_by : LogState → ℕ → Piecing → LogState
logged_by log table job = logged log table job (seq_to_put job.stage)

-- a put comes with its entry in the log, and nothing else changes that
abbrev pub log_after : LogState → Saving → Stage → LogState
log_after log save Drawing = log
log_after log save (Laying value_id at) = logged_by log save.table (pieces_of save value_id at)

-- the toast relation of a table
abbrev pub toast_rel_of : ℕ → ℕ
toast_rel_of table = 8192 + table

-- what a step answers, by where the save stands then: the pointer once each piece is there
abbrev pub answer_at : Saving → Stage → SaveStep
answer_at save Drawing = More
answer_at save (Laying value_id at) = if is_laid at then Done (pointer_to (pieces_of save value_id at) (toast_rel_of save.table)) else More

-- why a step of a save is refused: for an id at the draw alone
abbrev pub IsSaveCause : Store → Pool → Saving → DrawFault → Type 0
IsSaveCause store ids save (NoValueId in_use) = (save.stage ≡ Drawing) × IsCause (is_used store) ids save.table (NoValueId in_use)
IsSaveCause store ids save Memory = ⊤

-- how many steps are left, by where a save stands: the draw, and those of the pieces
abbrev pub steps_at : ℕ → Stage → ℕ
steps_at count Drawing = 1 + 2 * count
steps_at count (Laying value_id at) = pieces.steps_at count at

-- how many steps of a save are left
abbrev pub steps_left : Saving → ℕ
steps_left save = steps_at (piece_count (length save.value)) save.stage

-- a pointer that a save gives: of 21 to 65,536 bytes, with the table's toast relation
pub record IsOfTable (table : ℕ) (pointer : Pointer) : Type 0 where
  pub least : 21 ≤ pointer.size
  pub most : pointer.size ≤ 65536
  pub toast_rel : pointer.toast_rel ≡ toast_rel_of table

-- a saved value: its pointer is of the table, can be spelled and is whole, its chunks are the pieces as they were put, and its id is in hand
pub record IsSaved (store : Store) (ids : Pool) (save : Saving) (pointer : Pointer) : Type 0 where
  pub of_table : IsOfTable save.table pointer
  pub in_range : IsInRange pointer
  pub whole : Whole store pointer save.value
  pub chunks : chunks_of store pointer.value_id ≡ all_put save.xid pointer.value_id save.value
  pub in_hand : Contains ids.in_hand (held_by save pointer.value_id)

-- what a step leaves: a save that may make the next one, or a saved value
abbrev pub IsSaveLeft : Store → Pool → Saving → SaveStep → Type 0
IsSaveLeft store ids save More = IsUnderWay save.stage
IsSaveLeft store ids save (Done pointer) = IsSaved store ids save pointer

-- a step that leaves some steps has taken one of them
abbrev pub IsSaveProgress : ℕ → ℕ → SaveStep → Type 0
IsSaveProgress before after More = (0 < after) × (after < before)
IsSaveProgress before after (Done pointer) = after ≡ 0

-- what a save works on: the store, the ids and the log
pub record Parts : Type 0 where
  pub store : Store
  pub ids : Pool
  pub log : LogState

abbrev pub parts_of : Store → Pool → LogState → Parts
parts_of store ids log = record { store = store; ids = ids; log = log }

-- what a step does that is granted
pub record SaveSteps (old : Parts) (before : Saving) (new : Parts) (after : Saving) (step : SaveStep) : Type 0 where
  -- the answer
  pub answer : step ≡ answer_at before after.stage
  -- what the save and each part are then
  pub save : after ≡ record before { stage = stage_after old.store old.ids before before.stage }
  pub drawn : IsDrawn old.store old.ids before before.stage after.stage
  pub ids : new.ids ≡ ids_after old.store old.ids before before.stage
  pub rel : new.store.rel ≡ rel_after old.store.rel before before.stage
  pub index : IsIndexAfter before.stage old.store.index new.store.index
  pub log : new.log ≡ log_after old.log before before.stage
  -- what the next step relies on, what is left, and that it is less
  pub stands : SaveStands new.store new.ids after
  pub left : IsSaveLeft new.store new.ids after step
  pub fewer : IsSaveProgress (steps_left before) (steps_left after) step

-- what a step does that is refused: all is as before
pub record SaveFails (old : Parts) (before : Saving) (new : Parts) (after : Saving) (fault : DrawFault) : Type 0 where
  pub cause : IsSaveCause old.store old.ids before fault
  pub save : after ≡ before
  pub store : new.store ≡ old.store
  pub ids : new.ids ≡ old.ids
  pub log : new.log ≡ old.log
