-- A core is sound after a step of a write's save or mark.
use Rattle.std.proofs.Common.{ℕ, ◌≡◌}
use Rattle.toast_store.specs.Stores.{Store}
use Rattle.write_steps.specs.Writes.{Writing}
use Rattle.write_steps.specs.declared.stage.Owner.{Owner}
use Rattle.write_steps.specs.declared.stage.WriteStage.{WriteStage}
use Rattle.core_state.specs.Events.{write_told}
use Rattle.core_state.specs.Facts.{IsSound}
use Rattle.core_state.specs.Lines.{after_write_last, after_write_step}
use Rattle.core_state.specs.State.{CoreState}
use Rattle.core_saves.proofs.Saved.{write_at}
use Rattle.core_saves.proofs.Steps.{last_taken, marking_taken, saving_taken}
use Rattle.core_saves.proofs.Taken.{sound_taken}
use Rattle.core_saves.specs.Made.{IsMarkingOne, IsSaving, IsWriteMade}
use Rattle.write_steps.specs.declared.stage.WriteStage.TheVariants as stages
use Rattle.write_steps.specs.declared.stage.WriteStep.TheVariants as writes

pub saves_keep_all : (c : CoreState) (s t : ℕ) (write : Writing) (toast : Store) → IsSaving write.stage → IsWriteMade c s t write toast → IsSound (after_write_step c s t write toast)
saves_keep_all c s t write toast is made = by write.owner write.stage is made
  where
    by : (owner : Owner) (stage : WriteStage) → IsSaving stage → IsWriteMade c s t (write_at owner stage) toast → IsSound (after_write_step c s t (write_at owner stage) toast)
    by owner (stages.Saving old new plan at save) is made = sound_taken c s t _ _ _ toast _ _ _ (saving_taken c s t owner old new plan at save toast made)
    by owner (stages.Put old new plan) is made = absurd is
    by owner (stages.Remove old) is made = absurd is
    by owner (stages.Marking dropped at mark) is made = absurd is
    by owner stages.Over is made = absurd is

pub marks_keep_all : (c : CoreState) (s t : ℕ) (write : Writing) (toast : Store) → IsMarkingOne write.stage → write_told c t write ≡ writes.More → IsWriteMade c s t write toast → IsSound (after_write_step c s t write toast)
marks_keep_all c s t write toast is goes made = by write.owner write.stage is goes made
  where
    by : (owner : Owner) (stage : WriteStage) → IsMarkingOne stage → write_told c t (write_at owner stage) ≡ writes.More → IsWriteMade c s t (write_at owner stage) toast → IsSound (after_write_step c s t (write_at owner stage) toast)
    by owner (stages.Saving old new plan at save) is goes made = absurd is
    by owner (stages.Put old new plan) is goes made = absurd is
    by owner (stages.Remove old) is goes made = absurd is
    by owner (stages.Marking dropped at mark) is goes made = sound_taken c s t _ _ _ toast _ _ _ (marking_taken c s t owner dropped at mark toast goes made)
    by owner stages.Over is goes made = absurd is

pub marks_last_all : (c : CoreState) (s t : ℕ) (write : Writing) (toast : Store) → IsMarkingOne write.stage → write_told c t write ≡ writes.Done → IsWriteMade c s t write toast → IsSound (after_write_last c s t write toast)
marks_last_all c s t write toast is done made = by write.owner write.stage is done made
  where
    by : (owner : Owner) (stage : WriteStage) → IsMarkingOne stage → write_told c t (write_at owner stage) ≡ writes.Done → IsWriteMade c s t (write_at owner stage) toast → IsSound (after_write_last c s t (write_at owner stage) toast)
    by owner (stages.Saving old new plan at save) is done made = absurd is
    by owner (stages.Put old new plan) is done made = absurd is
    by owner (stages.Remove old) is done made = absurd is
    by owner (stages.Marking dropped at mark) is done made = sound_taken c s t _ _ _ toast _ _ _ (last_taken c s t owner dropped at mark toast done made)
    by owner stages.Over is done made = absurd is
