-- A granted step of a write, as a core's laws take it.
use Rattle.std.specs.Prelude.{ℕ, ⊤, ◌≡◌}
use Rattle.toast_store.specs.Stores.{IsStore, Store}
use Rattle.write_steps.specs.Steps.{WriteSteps}
use Rattle.write_steps.specs.Writes.{Parts, Writing, ids_at, log_at, parts_of, rows_at, write_after}
use Rattle.write_steps.specs.declared.stage.WriteStage.{WriteStage}
use Rattle.core_state.specs.Events.{write_told}
use Rattle.core_state.specs.Facts.{IsSound, PartsAreSound}
use Rattle.core_state.specs.Lines.{parts_at}
use Rattle.core_state.specs.State.{CoreState, IsSession, seat_of, table_at}
use Rattle.core_state.specs.declared.seat.Job.TheVariants as jobs
use Rattle.write_steps.specs.declared.stage.WriteStage.TheVariants as stages

-- the parts that a step of a write leaves, whose store is this
abbrev pub parts_made : CoreState → ℕ → Writing → Store → Parts
parts_made c t write toast = parts_of (rows_at (table_at c.tables t).rows write.owner write.stage) toast (ids_at (table_at c.tables t).toast c.ids write.stage) (log_at c.log write.owner write.stage)

-- the session's write of a table has made a step that was granted, in a sound core; it has left this store
pub record IsWriteMade (c : CoreState) (s t : ℕ) (write : Writing) (toast : Store) : Type 0 where
  pub session : IsSession c.seats s
  pub sound : IsSound c
  pub parts : PartsAreSound c
  pub job : (seat_of c s).job ≡ jobs.Writing t write
  pub steps : WriteSteps (parts_at c t) write (parts_made c t write toast) (write_after (parts_at c t) write) (write_told c t write)
  pub store : IsStore toast

-- a value is being saved
abbrev pub IsSaving : WriteStage → Type 0
IsSaving (stages.Saving old new plan at save) = ⊤
IsSaving (stages.Put old new plan) = ⊥
IsSaving (stages.Remove old) = ⊥
IsSaving (stages.Marking dropped at mark) = ⊥
IsSaving stages.Over = ⊥

-- a dropped value is being marked
abbrev pub IsMarkingOne : WriteStage → Type 0
IsMarkingOne (stages.Saving old new plan at save) = ⊥
IsMarkingOne (stages.Put old new plan) = ⊥
IsMarkingOne (stages.Remove old) = ⊥
IsMarkingOne (stages.Marking dropped at mark) = ⊤
IsMarkingOne stages.Over = ⊥
