-- What each line of a read keeps and does, with a field for each case.
use Rattle.std.specs.Prelude.{List, Option, Some, slice_get, true, ℕ, ℤ, ⊤, ◌<◌, ◌≡◌}
use Rattle.toast_store.specs.Stores.{Store}
use Rattle.read_steps.specs.Reads.{Leaves, Reading, answer_of, read_after, store_read}
use Rattle.read_steps.specs.Sound.{IsReadStage}
use Rattle.command_set.specs.Replies.{is_granted}
use Rattle.command_set.specs.declared.Command.{Command}
use Rattle.command_set.specs.declared.Reply.{Reply}
use Rattle.core_looks.specs.Due.{reply_due}
use Rattle.core_state.specs.Begun.{begun}
use Rattle.core_state.specs.Events.{at_moment, left, line_due, line_granted, read_on_by, read_told, told_by_read, write_on_by}
use Rattle.core_state.specs.Facts.{IsSound, PartsAreSound}
use Rattle.core_state.specs.Lines.{after_failing, after_submit}
use Rattle.core_state.specs.Moves.{Runs, Stays}
use Rattle.core_state.specs.State.{CoreState, IsSession, seat_of, table_at}
use Rattle.core_state.specs.declared.advance.Advance.{Advance}
use Rattle.core_state.specs.declared.seat.Job.{Job}
use Rattle.core_state.specs.declared.seat.Seat.{Seat}
use Rattle.write_steps.specs.Writes.{Writing}
use Rattle.write_steps.specs.declared.stage.WriteStep.{WriteStep}
use Rattle.command_set.specs.declared.Command.TheVariants as commands
use Rattle.core_state.specs.declared.advance.Advance.TheVariants as advances
use Rattle.core_state.specs.declared.seat.Job.TheVariants as jobs

-- what the contract of a read's step says that the step leaves
abbrev pub LeavesRead : Store → Reading → Type 0
LeavesRead toast read = Leaves toast read (store_read toast read) (read_after toast read) (answer_of toast read)

-- what a granted command's moment answers, by the job that it begins: it goes on, or is over with this reply
abbrev pub advance_by : Job → Reply → Advance
advance_by jobs.Idle reply = advances.Done reply
advance_by (jobs.Submitted command) reply = advances.Done reply
advance_by (jobs.Reading t snapshot read) reply = advances.More
advance_by (jobs.Writing t write) reply = advances.More

-- the core after a granted command's moment, and its answer
abbrev pub once_granted : CoreState → ℕ → Command → CoreState
once_granted c s command = at_moment (line_granted c s command) c s

abbrev pub told_then : CoreState → ℕ → Command → Advance
told_then c s command = advance_by (begun c s command) (reply_due c s command)

-- a granted moment of a command: the core stays sound, the plain store answers the same, and what is left falls
pub record Begins (command : Command) : Type 0 where
  pub sound : (c : CoreState) (s : ℕ) → IsSession c.seats s → (seat_of c s).job ≡ jobs.Submitted command → is_granted (reply_due c s command) ≡ true → PartsAreSound c → IsSound c → IsSound (once_granted c s command)
  pub runs : (c : CoreState) (s : ℕ) → IsSession c.seats s → (seat_of c s).job ≡ jobs.Submitted command → is_granted (reply_due c s command) ≡ true → PartsAreSound c → IsSound c → Runs c s command (once_granted c s command) (told_then c s command)
  pub falls : (c : CoreState) (s : ℕ) → IsSession c.seats s → (seat_of c s).job ≡ jobs.Submitted command → is_granted (reply_due c s command) ≡ true → left (once_granted c s command) s < left c s

-- the moment with which a read begins, or is over where it needs nothing of the store
pub record ReadsBegin : Type 0 where
  pub row : (t : ℕ) (key : ℤ) → Begins (commands.Get t key)
  pub part : (t : ℕ) (key : ℤ) (column : ℕ) (offset len : ℤ) → Begins (commands.Part t key column offset len)

-- the moments with which a handle is opened and closed, and that with which a fetch of its value begins, or is over where it needs nothing of the store
pub record HandlesBegin : Type 0 where
  pub opening : (name t : ℕ) (key : ℤ) (column : ℕ) → Begins (commands.Open name t key column)
  pub fetch : (name : ℕ) (offset len : ℤ) → Begins (commands.Fetch name offset len)
  pub closing : (name : ℕ) → Begins (commands.Close name)

-- a step of a read: a batch, or an entry of one; the last one answers the reply of the read's moment
pub record ReadStepsKeep : Type 0 where
  pub sound : (c : CoreState) (s t : ℕ) (snapshot : Option ℕ) (read : Reading) → IsSession c.seats s → (seat_of c s).job ≡ jobs.Reading t snapshot read → LeavesRead (table_at c.tables t).toast read → PartsAreSound c → IsSound c
      → IsSound (read_on_by c s t snapshot read (read_told c t read))
  pub stays : (c : CoreState) (s t : ℕ) (snapshot : Option ℕ) (read : Reading) → IsSession c.seats s → (seat_of c s).job ≡ jobs.Reading t snapshot read → LeavesRead (table_at c.tables t).toast read → IsSound c
      → Stays c s (read_on_by c s t snapshot read (read_told c t read)) (told_by_read (read_told c t read))
  -- IsReadStage: what the type of a read tells of it. A batch with no entry left has no step that could be taken
  pub falls : (c : CoreState) (s t : ℕ) (snapshot : Option ℕ) (read : Reading) → IsSession c.seats s → (seat_of c s).job ≡ jobs.Reading t snapshot read → IsReadStage read.session read.stage → LeavesRead (table_at c.tables t).toast read → IsSound c
      → left (read_on_by c s t snapshot read (read_told c t read)) s < left c s

-- ---- the reads of all sessions

-- what the type of a job tells of a read under way
abbrev pub IsJobMade : Job → Type 0
IsJobMade jobs.Idle = ⊤
IsJobMade (jobs.Submitted command) = ⊤
IsJobMade (jobs.Reading t snapshot read) = IsReadStage read.session read.stage
IsJobMade (jobs.Writing t write) = ⊤

pub record ReadsAreMade (seats : List Seat) : Type 0 where
  pub each : (i : ℕ) (seat : Seat) → slice_get seats i ≡ Some seat → IsJobMade seat.job

-- that stays through each line, whatever it is due by
pub record MadeStays : Type 0 where
  pub submitted : (c : CoreState) (s : ℕ) (command : Command) → ReadsAreMade c.seats → ReadsAreMade (after_submit c s command).seats
  pub moment : (c : CoreState) (s : ℕ) (command : Command) (reply : Reply) → (seat_of c s).job ≡ jobs.Submitted command → ReadsAreMade c.seats → ReadsAreMade (at_moment (line_due c s command reply) c s).seats
  pub read : (c : CoreState) (s t : ℕ) (snapshot : Option ℕ) (read : Reading) → IsSession c.seats s → (seat_of c s).job ≡ jobs.Reading t snapshot read → ReadsAreMade c.seats → ReadsAreMade (read_on_by c s t snapshot read (read_told c t read)).seats
  pub write : (c : CoreState) (s t : ℕ) (write : Writing) (toast : Store) (step : WriteStep) → ReadsAreMade c.seats → ReadsAreMade (write_on_by c s t write toast step).seats
  pub failing : (c : CoreState) (s : ℕ) → ReadsAreMade c.seats → ReadsAreMade (after_failing c s).seats
