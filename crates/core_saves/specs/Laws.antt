-- What a step of a save, and one of a mark, keeps of a core, does, and leaves to be done.
use Rattle.std.specs.Prelude.{ℕ, ◌≡◌, ◌<◌}
use Rattle.toast_store.specs.Stores.{Store}
use Rattle.write_steps.specs.Steps.{WriteSteps}
use Rattle.write_steps.specs.Writes.{Parts, Writing, write_after}
use Rattle.write_steps.specs.declared.stage.WriteStep.{WriteStep}
use Rattle.core_state.specs.Events.{left, write_told}
use Rattle.core_state.specs.Facts.{IsSound}
use Rattle.core_state.specs.Lines.{after_write_last, after_write_step, parts_at}
use Rattle.core_state.specs.Moves.{Stays}
use Rattle.core_state.specs.State.{CoreState}
use Rattle.core_saves.specs.Made.{IsMarkingOne, IsSaving, IsWriteMade, parts_made}
use Rattle.command_set.specs.declared.Reply.TheVariants as replies
use Rattle.core_state.specs.declared.advance.Advance.TheVariants as advances
use Rattle.write_steps.specs.declared.stage.WriteStep.TheVariants as writes

-- what a write's step has told of the parts that it left, it tells of those that the core's line makes
pub record StepsAreMade : Type 0 where
  pub made : (c : CoreState) (t : ℕ) (write : Writing) (later : Parts) (after : Writing) (step : WriteStep) → WriteSteps (parts_at c t) write later after step
      → WriteSteps (parts_at c t) write (parts_made c t write later.toast) (write_after (parts_at c t) write) (write_told c t write)

-- A draw of an id, a chunk with its log entry, an index entry. The core is sound after it
pub record SavesKeep : Type 0 where
  pub saved : (c : CoreState) (s t : ℕ) (write : Writing) (toast : Store) → IsSaving write.stage → IsWriteMade c s t write toast → IsSound (after_write_step c s t write toast)

-- it stands for the same states
pub record SavesStay : Type 0 where
  pub saved : (c : CoreState) (s t : ℕ) (write : Writing) (toast : Store) → IsSaving write.stage → IsWriteMade c s t write toast → Stays c s (after_write_step c s t write toast) advances.More

-- and less is left
pub record SavesFall : Type 0 where
  pub saved : (c : CoreState) (s t : ℕ) (write : Writing) (toast : Store) → IsSaving write.stage → IsWriteMade c s t write toast → left (after_write_step c s t write toast) s < left c s

-- A batch of a dropped value, an entry of one, or going on to the next dropped value; and the last of these, with which the write is over
pub record MarksKeep : Type 0 where
  pub goes : (c : CoreState) (s t : ℕ) (write : Writing) (toast : Store) → IsMarkingOne write.stage → write_told c t write ≡ writes.More → IsWriteMade c s t write toast → IsSound (after_write_step c s t write toast)
  pub last : (c : CoreState) (s t : ℕ) (write : Writing) (toast : Store) → IsMarkingOne write.stage → write_told c t write ≡ writes.Done → IsWriteMade c s t write toast → IsSound (after_write_last c s t write toast)

pub record MarksStay : Type 0 where
  pub goes : (c : CoreState) (s t : ℕ) (write : Writing) (toast : Store) → IsMarkingOne write.stage → write_told c t write ≡ writes.More → IsWriteMade c s t write toast → Stays c s (after_write_step c s t write toast) advances.More
  pub last : (c : CoreState) (s t : ℕ) (write : Writing) (toast : Store) → IsMarkingOne write.stage → write_told c t write ≡ writes.Done → IsWriteMade c s t write toast
      → Stays c s (after_write_last c s t write toast) (advances.Done replies.Okay)

-- and less is left
pub record MarksFall : Type 0 where
  pub goes : (c : CoreState) (s t : ℕ) (write : Writing) (toast : Store) → IsMarkingOne write.stage → write_told c t write ≡ writes.More → IsWriteMade c s t write toast → left (after_write_step c s t write toast) s < left c s
  pub last : (c : CoreState) (s t : ℕ) (write : Writing) (toast : Store) → IsMarkingOne write.stage → write_told c t write ≡ writes.Done → IsWriteMade c s t write toast → left (after_write_last c s t write toast) s < left c s
