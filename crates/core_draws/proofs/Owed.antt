-- How many draws a write still owes after its next step.
use Rattle.std.proofs.Common.{arith, refl}
use Rattle.std.proofs.lemmas.List.{length-drop}
use Rattle.std.specs.Prelude.{Bool, List, None, Option, Some, [], drop, false, if◌then◌else◌, length, slice_get, true, ℕ, ◌+◌, ◌-◌, ◌<◌, ◌≡◌, ◌≤◌}
use Rattle.external_pointer.specs.declared.external.Pointer.{Pointer}
use Rattle.tuple_layout.specs.declared.cell.Cell.TheVariants.{Out}
use Rattle.tuple_layout.specs.declared.cell.Stored.{Stored}
use Rattle.toast_store.specs.Marks.{Marking}
use Rattle.toast_store.specs.PieceJobs.{is_laid, pieces_after, pointer_to}
use Rattle.toast_store.specs.Saves.{Drawing, Laying, Saving, Stage, pieces_of, toast_rel_of}
use Rattle.toast_store.specs.Walks.{Walking, is_over}
use Rattle.toast_store.specs.declared.piece_job.PieceStage.{PieceStage}
use Rattle.toast_store.specs.declared.save.SaveStep.TheVariants as told
use Rattle.write_steps.specs.Dropped.{dropped_of}
use Rattle.write_steps.specs.Standing.{IsWriteStage}
use Rattle.write_steps.specs.Writes.{Parts, column_at, mark_after, marked_on, marking_from, old_cells, saved_on, saving_from, stage_after, to_mark, to_save, with_cell}
use Rattle.write_steps.specs.declared.stage.OldRow.{OldRow}
use Rattle.write_steps.specs.declared.stage.Owner.{Owner}
use Rattle.write_steps.specs.declared.stage.WriteStage.{WriteStage}
use Rattle.core_state.proofs.Answered.{within}
use Rattle.core_draws.specs.Draws.{draws_left}
use Rattle.toast_store.specs.Saves as saves
use Rattle.write_steps.specs.declared.stage.WriteStage.TheVariants as stages

-- how many ids the next step draws
abbrev pub made_by : Stage → ℕ
made_by Drawing = 1
made_by (Laying value_id at) = 0

abbrev pub draws_made : WriteStage → ℕ
draws_made (stages.Saving old new plan at save) = made_by save.stage
draws_made (stages.Put old new plan) = 0
draws_made (stages.Remove old) = 0
draws_made (stages.Marking dropped at mark) = 0
draws_made stages.Over = 0

-- what is owed from a place in the plan on
from_place : (owner : Owner) (old : Option OldRow) (new : Stored) (plan : List ℕ) (at : ℕ) → draws_left (saving_from owner old new plan at) ≤ length (drop at plan)
from_place owner old new plan at = by (slice_get plan at)
  where
    by : (o : Option ℕ) → draws_left (to_save owner old new plan at o) ≤ length (drop at plan)
    by None = omega arith
    by (Some column) = omega arith

none_marking : (owner : Owner) (dropped : List Pointer) (at : ℕ) → draws_left (marking_from owner dropped at) ≡ 0
none_marking owner dropped at = by (slice_get dropped at)
  where
    by : (o : Option Pointer) → draws_left (to_mark owner dropped at o) ≡ 0
    by None = refl
    by (Some pointer) = refl

none_marked : (owner : Owner) (dropped : List Pointer) (at : ℕ) (mark : Marking) → draws_left (marked_on owner dropped at mark) ≡ 0
none_marked owner dropped at mark = by (is_over (Walking.stage (Marking.walk mark)))
  where
    by : (b : Bool) → draws_left (if b then marking_from owner dropped (at + 1) else stages.Marking dropped at mark) ≡ 0
    by true = none_marking owner dropped (at + 1)
    by false = refl

-- after a step of the pieces
laid_falls : (owner : Owner) (old : Option OldRow) (new : Stored) (plan : List ℕ) (at : ℕ) (save : Saving) (value_id : ℕ) (later : PieceStage) (pointer : Pointer) (b : Bool) → at < length plan
    → draws_left (saved_on owner old new plan at (record save { stage = Laying value_id later }) (if b then told.Done pointer else told.More)) + 0 ≤ length (drop at plan) - 1
laid_falls owner old new plan at save value_id later pointer true low =
    let rest = from_place owner old (with_cell new (column_at plan at) (Out pointer)) plan (at + 1) in
    omega (arith, rest, low, length-drop at plan, length-drop (at + 1) plan)
laid_falls owner old new plan at save value_id later pointer false low = omega arith

-- after a step of a save
save_falls : (parts : Parts) (owner : Owner) (old : Option OldRow) (new : Stored) (plan : List ℕ) (at : ℕ) (save : Saving) (stage : Stage) → at < length plan
    → draws_left (saved_on owner old new plan at (record save { stage = saves.stage_after parts.toast parts.ids save stage }) (saves.answer_at save (saves.stage_after parts.toast parts.ids save stage))) + made_by stage
    ≤ draws_left (stages.Saving old new plan at (record save { stage = stage }))
save_falls parts owner old new plan at save Drawing low = omega (arith, low, length-drop at plan)
save_falls parts owner old new plan at save (Laying value_id pieces_at) low =
    let later = pieces_after parts.toast.rel save.value pieces_at in
    laid_falls owner old new plan at save value_id later (pointer_to (pieces_of save value_id later) (toast_rel_of save.table)) (is_laid later) low

-- a draw takes one of what is owed, and no step adds to it
pub owed_falls : (parts : Parts) (owner : Owner) (stage : WriteStage) → IsWriteStage owner stage → draws_left (stage_after parts owner stage) + draws_made stage ≤ draws_left stage
owed_falls parts owner (stages.Saving old new plan at save) is = save_falls parts owner old new plan at save save.stage (within plan at (column_at plan at) is.here)
owed_falls parts owner (stages.Put old new plan) is = omega (arith, none_marking owner (dropped_of (old_cells old) new.cells) 0)
owed_falls parts owner (stages.Remove old) is = omega (arith, none_marking owner (dropped_of (old_cells (Some old)) []) 0)
owed_falls parts owner (stages.Marking dropped at mark) is = omega (arith, none_marked owner dropped at (mark_after parts mark))
owed_falls parts owner stages.Over is = omega arith
