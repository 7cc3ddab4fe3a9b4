-- One event of a session: the line of the table of events that is due, and what it answers.
use Rattle.std.specs.Option.{option_map_or}
use Rattle.std.specs.Prelude.{List, None, Option, Some, if◌then◌else◌, suc, true, ℕ, ℤ, ◌≡◌}
use Rattle.value_ids.specs.declared.fault.DrawFault.TheVariants.{NoValueId}
use Rattle.toast_store.specs.Stores.{Store}
use Rattle.command_set.specs.Answers.{table_of}
use Rattle.command_set.specs.Replies.{fails, is_granted}
use Rattle.command_set.specs.declared.Command.{Command}
use Rattle.command_set.specs.declared.Reply.{Reply}
use Rattle.table_state.specs.declared.table.Table.{Table}
use Rattle.read_steps.specs.Reads.{Reading, answer_of, cell_of, held_read, needs_store, read_left}
use Rattle.read_steps.specs.declared.stage.ReadStep.{ReadStep}
use Rattle.read_steps.specs.declared.wanted.Held.{Held}
use Rattle.write_steps.specs.Steps.{IsDrawnAt, IsWriteCause}
use Rattle.write_steps.specs.Writes.{IsToastAt, Writing, answer_at, write_after}
use Rattle.write_steps.specs.declared.stage.WriteStep.{WriteStep}
use Rattle.core_state.specs.Begun.{begun, held_in, held_size, inserted_row, keys_claimed, part_wanted, row_read, span_of, updated_row, write_begun}
use Rattle.core_state.specs.Coming.{write_left}
use Rattle.core_state.specs.Lines.{after_close, after_commit_of, after_failing, after_fetch_begun, after_giving_up, after_looking, after_open, after_over, after_read_begun, after_read_last, after_read_step, after_write_begun, after_write_last, after_write_step, failed_state, parts_at}
use Rattle.core_state.specs.State.{CoreState, handle_of, is_open, is_past_moment, seat_of, table_at}
use Rattle.core_state.specs.Views.{row_seen}
use Rattle.core_state.specs.declared.advance.Advance.{Advance}
use Rattle.core_state.specs.declared.seat.Handle.{Handle}
use Rattle.core_state.specs.declared.seat.Job.{Job}
use Rattle.core_state.specs.declared.seat.State.{State}
use Rattle.command_set.specs.declared.Command.TheVariants as commands
use Rattle.command_set.specs.declared.Reply.TheVariants as replies
use Rattle.core_state.specs.declared.advance.Advance.TheVariants as advances
use Rattle.core_state.specs.declared.seat.Job.TheVariants as jobs
use Rattle.core_state.specs.declared.seat.State.TheVariants as states
use Rattle.read_steps.specs.declared.stage.ReadStep.TheVariants as reads
use Rattle.read_steps.specs.declared.wanted.Wanted.TheVariants as wanteds
use Rattle.write_steps.specs.declared.stage.WriteStep.TheVariants as writes

-- the lines that may fall at a command's moment
pub data MomentLine : Type 0 where
  -- a command of one step that changes only what its session is in, or a refusal that changes nothing
  Over : State → MomentLine
  -- a command that has used this table, and is over by what it found
  Looked : ℕ → MomentLine
  Committed : MomentLine
  -- a transaction ends without a commit, and its session is then in this: a rollback, or a failing end
  GivenUp : State → MomentLine
  ReadBegun : ℕ → Reading → MomentLine
  FetchBegun : ℕ → Reading → MomentLine
  WriteBegun : ℕ → List ℤ → Writing → MomentLine
  Opened : ℕ → ℕ → Held → MomentLine
  Closed : Handle → MomentLine

-- the core after one of them
abbrev pub at_moment : MomentLine → CoreState → ℕ → CoreState
at_moment (Over state) c s = after_over c s state
at_moment (Looked t) c s = after_looking c s t
at_moment Committed c s = after_commit_of c s
at_moment (GivenUp state) c s = after_giving_up c s state
at_moment (ReadBegun t read) c s = after_read_begun c s t read
at_moment (FetchBegun t read) c s = after_fetch_begun c s t read
at_moment (WriteBegun t keys write) c s = after_write_begun c s t keys write
at_moment (Opened t name held) c s = after_open c s t name held
at_moment (Closed handle) c s = after_close c s handle

-- a read that was begun; one that wants nothing of the store is over with its answer
abbrev pub line_reading : ℕ → Reading → MomentLine
line_reading t read = if needs_store read then ReadBegun t read else Looked t

-- the same of a read of a kept value, which uses no table
abbrev pub line_fetching : State → ℕ → Reading → MomentLine
line_fetching state t read = if needs_store read then FetchBegun t read else Over state

-- the line of a granted command, by what it finds; upkeep is not among the commands yet
abbrev pub line_granted : CoreState → ℕ → Command → MomentLine
line_granted c s (commands.Begin level) = Over (states.Open level None None)
line_granted c s commands.Commit = Committed
line_granted c s commands.Rollback = if is_open (seat_of c s).state then GivenUp states.Outside else Over states.Outside
line_granted c s (commands.Get t key) = option_map_or (λ old. line_reading t (row_read s wanteds.Row old)) (row_seen c s t key) (Looked t)
line_granted c s (commands.Part t key column offset len) = option_map_or (λ old. line_reading t (row_read s (part_wanted old column offset len) old)) (row_seen c s t key) (Looked t)
line_granted c s (commands.Open name t key column) = option_map_or (λ old. Opened t name (held_in (cell_of old.stored.cells column))) (row_seen c s t key) (Looked t)
line_granted c s (commands.Fetch name offset len) =
    let state = (seat_of c s).state in
    option_map_or (λ handle. line_fetching state handle.table (held_read handle.held (span_of (held_size handle.held) offset len) s)) (handle_of (seat_of c s).handles name) (Over state)
line_granted c s (commands.Close name) = option_map_or Closed (handle_of (seat_of c s).handles name) (Over (seat_of c s).state)
line_granted c s (commands.Insert t key row) = WriteBegun t (keys_claimed (commands.Insert t key row)) (write_begun c s t None (Some (inserted_row key row)))
line_granted c s (commands.Update t key sets) = option_map_or (λ old. WriteBegun t (keys_claimed (commands.Update t key sets)) (write_begun c s t (Some old) (Some (updated_row old.stored key sets)))) (row_seen c s t key) (Looked t)
line_granted c s (commands.Rekey t from to sets) = option_map_or (λ old. WriteBegun t (keys_claimed (commands.Rekey t from to sets)) (write_begun c s t (Some old) (Some (updated_row old.stored to sets)))) (row_seen c s t from) (Looked t)
line_granted c s (commands.Delete t key) = option_map_or (λ old. WriteBegun t (keys_claimed (commands.Delete t key)) (write_begun c s t (Some old) None)) (row_seen c s t key) (Looked t)
line_granted c s command = Over (seat_of c s).state

-- the line of a refusal that fails nothing: one that has looked into a table uses it, and a commit of a failed transaction leaves it
abbrev pub line_spared : State → Option ℕ → Reply → MomentLine
line_spared state table replies.RolledBack = Over states.Outside
line_spared state (Some t) replies.Absent = Looked t
line_spared state (Some t) replies.Null = Looked t
line_spared state table reply = Over state

-- and of any other: the transaction fails, if one is open
abbrev pub line_refused : State → Option ℕ → Reply → MomentLine
line_refused state table reply = if fails reply then GivenUp (failed_state state) else line_spared state table reply

-- the line of a command's moment, by the reply that it answers there
abbrev pub line_due : CoreState → ℕ → Command → Reply → MomentLine
line_due c s command reply = if is_granted reply then line_granted c s command else line_refused (seat_of c s).state (table_of command) reply

-- a moment: a command that goes on does so past it, and one that answers is over
abbrev pub IsMoment : CoreState → ℕ → Command → CoreState → Advance → Type 0
IsMoment old s command new advances.Idle = ⊥
IsMoment old s command new advances.More = (new ≡ at_moment (line_granted old s command) old s) × (is_past_moment (seat_of new s).job ≡ true)
IsMoment old s command new (advances.Done reply) = (new ≡ at_moment (line_due old s command reply) old s) × ((seat_of new s).job ≡ jobs.Idle)

-- ---- a step of a read

abbrev pub read_on_by : CoreState → ℕ → ℕ → Option ℕ → Reading → ReadStep → CoreState
read_on_by c s t snapshot read reads.More = after_read_step c s t snapshot read
read_on_by c s t snapshot read (reads.Done reply) = after_read_last c s t snapshot read

abbrev pub told_by_read : ReadStep → Advance
told_by_read reads.More = advances.More
told_by_read (reads.Done reply) = advances.Done reply

abbrev pub read_told : CoreState → ℕ → Reading → ReadStep
read_told c t read = answer_of (table_at c.tables t).toast read

-- ---- a step of a write

abbrev pub write_on_by : CoreState → ℕ → ℕ → Writing → Store → WriteStep → CoreState
write_on_by c s t write toast writes.More = after_write_step c s t write toast
write_on_by c s t write toast writes.Done = after_write_last c s t write toast

abbrev pub told_by_write : WriteStep → Advance
told_by_write writes.More = advances.More
told_by_write writes.Done = advances.Done replies.Okay

abbrev pub write_told : CoreState → ℕ → Writing → WriteStep
write_told c t write = answer_at (Writing.stage (write_after (parts_at c t) write))

-- a step that is granted; it leaves a store that the write's stage allows
pub record IsWriteOn (old : CoreState) (s t : ℕ) (write : Writing) (new : CoreState) (advance : Advance) : Type 0 where
  pub toast : Store
  pub left : IsToastAt (table_at old.tables t).toast toast write.stage
  pub is : new ≡ write_on_by old s t write toast (write_told old t write)
  pub told : advance ≡ told_by_write (write_told old t write)
  -- a draw finds a free id
  pub drawn : IsDrawnAt (parts_at old t) write.stage

-- a draw that is refused, since every id is in use, fails the transaction
pub record IsDrawRefused (old : CoreState) (s t : ℕ) (write : Writing) (new : CoreState) : Type 0 where
  pub in_use : ℕ
  pub cause : IsWriteCause (parts_at old t) write.stage (NoValueId in_use)
  pub is : new ≡ after_failing old s

abbrev pub IsWriteDue : CoreState → ℕ → ℕ → Writing → CoreState → Advance → Type 0
IsWriteDue old s t write new (advances.Done replies.NoValueId) = IsDrawRefused old s t write new
IsWriteDue old s t write new advance = IsWriteOn old s t write new advance

-- ---- an event

-- the line that is due by what is under way, and its answer
abbrev pub IsDue : Job → CoreState → ℕ → CoreState → Advance → Type 0
IsDue jobs.Idle old s new advance = (new ≡ old) × (advance ≡ advances.Idle)
IsDue (jobs.Submitted command) old s new advance = IsMoment old s command new advance
IsDue (jobs.Reading t snapshot read) old s new advance = (new ≡ read_on_by old s t snapshot read (read_told old t read)) × (advance ≡ told_by_read (read_told old t read))
IsDue (jobs.Writing t write) old s new advance = IsWriteDue old s t write new advance

pub record Event (old : CoreState) (s : ℕ) (new : CoreState) (advance : Advance) : Type 0 where
  pub is : IsDue (seat_of old s).job old s new advance

-- ---- what is left

-- at most so many steps are left of a job, if no other session makes an event
abbrev pub job_left : List Table → Job → ℕ
job_left tables jobs.Idle = 0
job_left tables (jobs.Submitted command) = 0
job_left tables (jobs.Reading t snapshot read) = read_left (table_at tables t).toast.index.entries read
job_left tables (jobs.Writing t write) = write_left (table_at tables t).toast.index.entries write

-- the same of a command that is submitted: its moment, and the job that is begun then
abbrev pub left_by : CoreState → ℕ → Job → ℕ
left_by c s jobs.Idle = 0
left_by c s (jobs.Submitted command) = suc (job_left c.tables (begun c s command))
left_by c s (jobs.Reading t snapshot read) = job_left c.tables (jobs.Reading t snapshot read)
left_by c s (jobs.Writing t write) = job_left c.tables (jobs.Writing t write)

-- the same of a session
abbrev pub left : CoreState → ℕ → ℕ
left c s = left_by c s (seat_of c s).job
