-- A step of what a session has under way past its moment, over the parts that it is lent.
use Rattle.std.specs.Prelude.{IsSome, Option, option_to_list, ℕ, ◌≡◌}
use Rattle.snapshot_registry.specs.Snapshots.{Snaps}
use Rattle.value_ids.specs.Ids.{Pool}
use Rattle.value_ids.specs.declared.fault.DrawFault.{DrawFault}
use Rattle.change_log.specs.Logs.{LogState}
use Rattle.table_state.specs.declared.table.Table.{Table}
use Rattle.read_steps.specs.Reads.{CanRead, Leaves, Reading, answer_of, read_after, reply_of, store_read}
use Rattle.read_steps.specs.Sound.{IsReadStage}
use Rattle.read_steps.specs.declared.stage.ReadStep.{ReadStep}
use Rattle.write_steps.specs.Standing.{WriteStands}
use Rattle.write_steps.specs.Steps.{IsWriteCause, WriteSteps}
use Rattle.write_steps.specs.Writes.{Parts, Writing, parts_of}
use Rattle.write_steps.specs.declared.stage.WriteStep.{WriteStep}
use Rattle.core_state.specs.Events.{told_by_read, told_by_write}
use Rattle.core_state.specs.Facts.{IsTableMade}
use Rattle.core_state.specs.Lines.{ids_released, once_released}
use Rattle.core_state.specs.declared.advance.Advance.{Advance}
use Rattle.core_state.specs.declared.seat.Job.{Job}
use Rattle.core_state.specs.declared.seat.Seat.{Seat}
use Rattle.core_parts.specs.Ends.{CanRelease}
use Rattle.core_state.specs.declared.seat.Job.TheVariants as jobs
use Rattle.value_ids.specs.declared.fault.DrawFault.TheVariants as faults
use Rattle.read_steps.specs.declared.stage.ReadStep.TheVariants as reads
use Rattle.write_steps.specs.declared.stage.WriteStep.TheVariants as writes

-- the parts of a core that such a step may change, with the session's seat and the table that its job works on
pub record Lent : Type 0 where
  pub seat : Seat
  pub table : Table
  pub ids : Pool
  pub snaps : Snaps
  pub log : LogState

abbrev pub lent_of : Seat → Table → Pool → Snaps → LogState → Lent
lent_of seat table ids snaps log = record { seat = seat; table = table; ids = ids; snaps = snaps; log = log }

-- what a write works on
abbrev pub parts_lent : Lent → Parts
parts_lent lent = parts_of lent.table.rows lent.table.toast lent.ids lent.log

-- ---- what lets it

pub record CanReadOn (lent : Lent) (snapshot : Option ℕ) (read : Reading) : Type 0 where
  pub can : CanRead lent.table.toast read
  pub comes : IsSome (reply_of lent.table.toast read)
  pub releases : CanRelease lent.snaps (option_to_list snapshot)

abbrev pub CanGoOn : Lent → Job → Type 0
CanGoOn lent jobs.Idle = ⊥
CanGoOn lent (jobs.Submitted command) = ⊥
CanGoOn lent (jobs.Reading t snapshot read) = CanReadOn lent snapshot read
CanGoOn lent (jobs.Writing t write) = WriteStands (parts_lent lent) write

-- ---- a step of a read

abbrev pub table_read : Table → Reading → Table
table_read table read = record table { toast = store_read table.toast read }

abbrev pub read_by : Lent → ℕ → Option ℕ → Reading → ReadStep → Lent
read_by lent t snapshot read reads.More = record lent {
  seat = record lent.seat { job = jobs.Reading t snapshot (read_after lent.table.toast read) };
  table = table_read lent.table read;
}
read_by lent t snapshot read (reads.Done reply) = record lent {
  seat = record lent.seat { job = jobs.Idle };
  table = table_read lent.table read;
  snaps = once_released lent.snaps (option_to_list snapshot);
}

-- the reply of the step, what it leaves, and what the type of the read told of it before
pub record ReadsOn (old : Lent) (t : ℕ) (snapshot : Option ℕ) (read : Reading) (new : Lent) (advance : Advance) : Type 0 where
  pub is : new ≡ read_by old t snapshot read (answer_of old.table.toast read)
  pub told : advance ≡ told_by_read (answer_of old.table.toast read)
  pub stage : IsReadStage read.session read.stage
  pub leaves : Leaves old.table.toast read (store_read old.table.toast read) (read_after old.table.toast read) (answer_of old.table.toast read)

-- ---- a step of a write

-- the parts after a step of a write that leaves these: where it was the last one, the ids in hand are given up
abbrev pub write_by : Lent → ℕ → ℕ → Writing → Parts → WriteStep → Lent
write_by lent s t write parts writes.More = record lent {
  seat = record lent.seat { job = jobs.Writing t write };
  table = record { rows = parts.rows; toast = parts.toast };
  ids = parts.ids;
  log = parts.log;
}
write_by lent s t write parts writes.Done = record lent {
  seat = record lent.seat { job = jobs.Idle };
  table = record { rows = parts.rows; toast = parts.toast };
  ids = ids_released parts.ids s;
  log = parts.log;
}

-- what the job's step leaves, and answers
pub record WritesOn (old : Lent) (s t : ℕ) (write : Writing) (new : Lent) (advance : Advance) : Type 0 where
  pub parts : Parts
  pub after : Writing
  pub step : WriteStep
  pub steps : WriteSteps (parts_lent old) write parts after step
  pub is : new ≡ write_by old s t after parts step
  pub told : advance ≡ told_by_write step

-- ---- by the job

abbrev pub GoesOn : Lent → ℕ → Job → Lent → Advance → Type 0
GoesOn old s jobs.Idle new advance = ⊥
GoesOn old s (jobs.Submitted command) new advance = ⊥
GoesOn old s (jobs.Reading t snapshot read) new advance = ReadsOn old t snapshot read new advance
GoesOn old s (jobs.Writing t write) new advance = WritesOn old s t write new advance

-- why a step is refused
abbrev pub IsStepCause : Lent → Job → DrawFault → Type 0
IsStepCause old jobs.Idle fault = ⊥
IsStepCause old (jobs.Submitted command) fault = ⊥
IsStepCause old (jobs.Reading t snapshot read) fault = fault ≡ faults.Memory
IsStepCause old (jobs.Writing t write) fault = IsWriteCause (parts_lent old) write.stage fault

-- a step that is made; the table is then one by its parts' types
pub record Steps (old : Lent) (s : ℕ) (new : Lent) (advance : Advance) : Type 0 where
  pub goes : GoesOn old s old.seat.job new advance
  pub made : IsTableMade new.table

-- a step that is refused: all is as before
pub record StepFails (old : Lent) (new : Lent) (fault : DrawFault) : Type 0 where
  pub cause : IsStepCause old old.seat.job fault
  pub same : new ≡ old
