-- What the version step of a write keeps of a core and does, with a field for each stage at which it is made.
-- The step is the last where no pointer of the old row is dropped; else the write goes on to mark their chunks. `write_on_by` says which, and `told_by_write` the answer.
use Rattle.std.specs.Prelude.{List, Option, ℕ, ◌<◌, ◌≡◌}
use Rattle.tuple_layout.specs.declared.cell.Stored.{Stored}
use Rattle.toast_store.specs.Stores.{Store}
use Rattle.write_steps.specs.Writes.{IsToastAt, Writing}
use Rattle.write_steps.specs.declared.stage.OldRow.{OldRow}
use Rattle.core_state.specs.Events.{left, told_by_write, write_on_by, write_told}
use Rattle.core_state.specs.Facts.{IsSound, PartsAreSound}
use Rattle.core_state.specs.Moves.{Stays}
use Rattle.core_state.specs.State.{CoreState, IsSession, seat_of, table_at}
use Rattle.core_state.specs.declared.seat.Job.TheVariants as jobs
use Rattle.write_steps.specs.declared.stage.WriteStage.TheVariants as stages

-- a session's write is next to make its version step, which leaves the values out of line
pub record IsAtVersion (c : CoreState) (s t : ℕ) (write : Writing) (toast : Store) : Type 0 where
  pub session : IsSession c.seats s
  pub job : (seat_of c s).job ≡ jobs.Writing t write
  pub left : IsToastAt (table_at c.tables t).toast toast write.stage

-- every core is sound after it
pub record VersionsKeep : Type 0 where
  -- an insert, which has no old row; an update; a move to another key
  pub put : (c : CoreState) (s t : ℕ) (write : Writing) (toast : Store) (old : Option OldRow) (new : Stored) (plan : List ℕ) → IsAtVersion c s t write toast → write.stage ≡ stages.Put old new plan → PartsAreSound c → IsSound c
      → IsSound (write_on_by c s t write toast (write_told c t write))
  -- a delete
  pub removed : (c : CoreState) (s t : ℕ) (write : Writing) (toast : Store) (old : OldRow) → IsAtVersion c s t write toast → write.stage ≡ stages.Remove old → PartsAreSound c → IsSound c
      → IsSound (write_on_by c s t write toast (write_told c t write))

-- it stands for the states for which it stood: the change was counted as made from the command's moment on
pub record VersionsMove : Type 0 where
  pub put : (c : CoreState) (s t : ℕ) (write : Writing) (toast : Store) (old : Option OldRow) (new : Stored) (plan : List ℕ) → IsAtVersion c s t write toast → write.stage ≡ stages.Put old new plan → PartsAreSound c → IsSound c
      → Stays c s (write_on_by c s t write toast (write_told c t write)) (told_by_write (write_told c t write))
  pub removed : (c : CoreState) (s t : ℕ) (write : Writing) (toast : Store) (old : OldRow) → IsAtVersion c s t write toast → write.stage ≡ stages.Remove old → PartsAreSound c → IsSound c
      → Stays c s (write_on_by c s t write toast (write_told c t write)) (told_by_write (write_told c t write))

-- the step itself is one of those that were left; the marks that follow are those that were counted
pub record VersionsFall : Type 0 where
  pub put : (c : CoreState) (s t : ℕ) (write : Writing) (toast : Store) (old : Option OldRow) (new : Stored) (plan : List ℕ) → IsAtVersion c s t write toast → write.stage ≡ stages.Put old new plan → IsSound c
      → left (write_on_by c s t write toast (write_told c t write)) s < left c s
  pub removed : (c : CoreState) (s t : ℕ) (write : Writing) (toast : Store) (old : OldRow) → IsAtVersion c s t write toast → write.stage ≡ stages.Remove old → IsSound c
      → left (write_on_by c s t write toast (write_told c t write)) s < left c s
