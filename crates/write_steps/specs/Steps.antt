-- What a step of a write does, and why one is refused.
use Rattle.std.specs.Prelude.{◌≡◌, true, ⊤}
use Rattle.value_ids.specs.declared.fault.DrawFault.{DrawFault}
use Rattle.value_ids.specs.declared.fault.DrawFault.TheVariants.{Memory}
use Rattle.toast_store.specs.Stores.{Store}
use Rattle.toast_store.specs.Walks.{Walking, is_over}
use Rattle.toast_store.specs.Saves as saves
use Rattle.toast_store.specs.Marks.{IsMarked, Marking}
use Rattle.write_steps.specs.Writes.{IsToastAt, Parts, Writing, answer_at, ids_at, log_at, mark_after, rows_at, write_after}
use Rattle.write_steps.specs.Standing.{WriteStands}
use Rattle.write_steps.specs.declared.stage.WriteStage.{WriteStage}
use Rattle.write_steps.specs.declared.stage.WriteStage.TheVariants as stages
use Rattle.write_steps.specs.declared.stage.WriteStep.{WriteStep}
use Rattle.write_steps.specs.declared.stage.WriteStep.TheVariants.{More, Done}

-- a draw that is granted has the id that the pool gives
abbrev pub IsDrawnAt : Parts → WriteStage → Type 0
IsDrawnAt parts (stages.Saving old new plan at save) = saves.IsDrawn parts.toast parts.ids save save.stage (saves.stage_after parts.toast parts.ids save save.stage)
IsDrawnAt parts (stages.Put old new plan) = ⊤
IsDrawnAt parts (stages.Remove old) = ⊤
IsDrawnAt parts (stages.Marking dropped at mark) = ⊤
IsDrawnAt parts stages.Over = ⊤

-- a mark that is over has ended each chunk of its value
abbrev pub IsMarkedAt : Parts → Store → WriteStage → Type 0
IsMarkedAt parts after (stages.Saving old new plan at save) = ⊤
IsMarkedAt parts after (stages.Put old new plan) = ⊤
IsMarkedAt parts after (stages.Remove old) = ⊤
IsMarkedAt parts after (stages.Marking dropped at mark) = is_over (Walking.stage (Marking.walk (mark_after parts mark))) ≡ true → IsMarked after (mark_after parts mark)
IsMarkedAt parts after stages.Over = ⊤

-- a write that goes on stands in what the step left; one that is done is over
abbrev pub IsWriteLeft : Parts → Writing → WriteStep → Type 0
IsWriteLeft parts write More = WriteStands parts write
IsWriteLeft parts write Done = write.stage ≡ stages.Over

-- what a step does that is granted
pub record WriteSteps (old : Parts) (before : Writing) (new : Parts) (after : Writing) (step : WriteStep) : Type 0 where
  -- the answer
  pub answer : step ≡ answer_at after.stage
  -- what the write and each part are then
  pub write : after ≡ write_after old before
  pub rows : new.rows ≡ rows_at old.rows before.owner before.stage
  pub toast : IsToastAt old.toast new.toast before.stage
  pub ids : new.ids ≡ ids_at old.toast old.ids before.stage
  pub drawn : IsDrawnAt old before.stage
  pub log : new.log ≡ log_at old.log before.owner before.stage
  -- what the next step relies on, and what a mark that is over has done
  pub left : IsWriteLeft new after step
  pub marked : IsMarkedAt old new.toast before.stage

-- why a step is refused: for an id at a draw alone, where every id is in use
abbrev pub IsWriteCause : Parts → WriteStage → DrawFault → Type 0
IsWriteCause parts (stages.Saving old new plan at save) fault = saves.IsSaveCause parts.toast parts.ids save fault
IsWriteCause parts (stages.Put old new plan) fault = fault ≡ Memory
IsWriteCause parts (stages.Remove old) fault = fault ≡ Memory
IsWriteCause parts (stages.Marking dropped at mark) fault = fault ≡ Memory
IsWriteCause parts stages.Over fault = ⊥

-- what a step does that is refused: all is as before
pub record WriteFails (old : Parts) (before : Writing) (new : Parts) (after : Writing) (fault : DrawFault) : Type 0 where
  pub cause : IsWriteCause old before.stage fault
  pub write : after ≡ before
  pub parts : new ≡ old
