-- What each line of the table of events keeps and does, with a field for each case.
use Rattle.std.specs.Prelude.{None, false, true, ℕ, ◌≡◌, ◌≢◌, ◌<◌}
use Rattle.command_set.specs.Journals.{is_data}
use Rattle.command_set.specs.declared.Command.{Command}
use Rattle.command_set.specs.declared.Level.{Level}
use Rattle.core_state.specs.Commands.{IsFitting}
use Rattle.core_state.specs.Events.{left}
use Rattle.core_state.specs.Facts.{IsSound}
use Rattle.core_state.specs.Lines.{after_commit_of, after_failing, after_giving_up, after_over, after_submit}
use Rattle.core_state.specs.Moves.{Falls, Runs, StandsOn}
use Rattle.core_state.specs.State.{CoreState, IsBare, IsSession, is_open, schemas_of, seat_of}
use Rattle.core_state.specs.declared.seat.State.{State}
use Rattle.command_set.specs.declared.Command.TheVariants as commands
use Rattle.command_set.specs.declared.Reply.TheVariants as replies
use Rattle.core_state.specs.declared.advance.Advance.TheVariants as advances
use Rattle.core_state.specs.declared.seat.Job.TheVariants as jobs
use Rattle.core_state.specs.declared.seat.State.TheVariants as states

-- a command is submitted
pub record SubmitKeeps : Type 0 where
  pub sound : (c : CoreState) (s : ℕ) (command : Command) → IsSession c.seats s → (seat_of c s).job ≡ jobs.Idle → IsFitting (schemas_of c.tables) command → IsSound c → IsSound (after_submit c s command)
  pub stands : (c : CoreState) (s : ℕ) (command : Command) → IsSession c.seats s → (seat_of c s).job ≡ jobs.Idle → StandsOn c (after_submit c s command)

-- a moment with which a command is over that has changed nothing but what its session is in
pub record OverKeeps : Type 0 where
  -- a refusal that changes nothing
  pub refused : (c : CoreState) (s : ℕ) (command : Command) → IsSession c.seats s → (seat_of c s).job ≡ jobs.Submitted command → IsSound c → IsSound (after_over c s (seat_of c s).state)
  -- a session begins, or leaves its failed transaction
  pub turned : (c : CoreState) (s : ℕ) (command : Command) (state : State) → IsSession c.seats s → (seat_of c s).job ≡ jobs.Submitted command → is_open (seat_of c s).state ≡ false → IsBare state → IsSound c → IsSound (after_over c s state)

pub record OverRuns : Type 0 where
  -- a data command in no transaction, or in a failed one
  pub data_outside : (c : CoreState) (s : ℕ) (command : Command) → IsSession c.seats s → (seat_of c s).job ≡ jobs.Submitted command → is_data command ≡ true → (seat_of c s).state ≡ states.Outside
      → Runs c s command (after_over c s (seat_of c s).state) (advances.Done replies.Outside)
  pub data_failed : (c : CoreState) (s : ℕ) (command : Command) → IsSession c.seats s → (seat_of c s).job ≡ jobs.Submitted command → is_data command ≡ true → (seat_of c s).state ≡ states.Failed
      → Runs c s command (after_over c s (seat_of c s).state) (advances.Done replies.Failed)
  -- a commit or a rollback in no transaction, and a begin in one
  pub commit_outside : (c : CoreState) (s : ℕ) → IsSession c.seats s → (seat_of c s).job ≡ jobs.Submitted commands.Commit → (seat_of c s).state ≡ states.Outside
      → Runs c s commands.Commit (after_over c s (seat_of c s).state) (advances.Done replies.Outside)
  pub rollback_outside : (c : CoreState) (s : ℕ) → IsSession c.seats s → (seat_of c s).job ≡ jobs.Submitted commands.Rollback → (seat_of c s).state ≡ states.Outside
      → Runs c s commands.Rollback (after_over c s (seat_of c s).state) (advances.Done replies.Outside)
  pub begin_inside : (c : CoreState) (s : ℕ) (level : Level) → IsSession c.seats s → (seat_of c s).job ≡ jobs.Submitted (commands.Begin level) → (seat_of c s).state ≢ states.Outside
      → Runs c s (commands.Begin level) (after_over c s (seat_of c s).state) (advances.Done replies.Inside)
  -- a transaction begins
  pub begin : (c : CoreState) (s : ℕ) (level : Level) → IsSession c.seats s → (seat_of c s).job ≡ jobs.Submitted (commands.Begin level) → (seat_of c s).state ≡ states.Outside → IsSound c
      → Runs c s (commands.Begin level) (after_over c s (states.Open level None None)) (advances.Done replies.Okay)
  -- a failed one is left
  pub commit_failed : (c : CoreState) (s : ℕ) → IsSession c.seats s → (seat_of c s).job ≡ jobs.Submitted commands.Commit → (seat_of c s).state ≡ states.Failed
      → Runs c s commands.Commit (after_over c s states.Outside) (advances.Done replies.RolledBack)
  pub rollback_failed : (c : CoreState) (s : ℕ) → IsSession c.seats s → (seat_of c s).job ≡ jobs.Submitted commands.Rollback → (seat_of c s).state ≡ states.Failed
      → Runs c s commands.Rollback (after_over c s states.Outside) (advances.Done replies.Okay)

-- a transaction ends: it commits, or is rolled back, or fails
pub record EndsKeep : Type 0 where
  pub committed : (c : CoreState) (s : ℕ) → IsSession c.seats s → IsSound c → IsSound (after_commit_of c s)
  pub given_up : (c : CoreState) (s : ℕ) (state : State) → IsSession c.seats s → IsSound c → IsBare state → IsSound (after_giving_up c s state)
  pub failed : (c : CoreState) (s : ℕ) → IsSession c.seats s → IsSound c → IsSound (after_failing c s)

-- and stands for what the plain store is then
pub record EndsStand : Type 0 where
  pub failed : (c : CoreState) (s : ℕ) → IsSession c.seats s → IsSound c → Falls c s (after_failing c s)
  pub rolled_back : (c : CoreState) (s : ℕ) → IsSession c.seats s → IsSound c → (seat_of c s).job ≡ jobs.Submitted commands.Rollback → (seat_of c s).state ≢ states.Outside
      → Runs c s commands.Rollback (after_giving_up c s states.Outside) (advances.Done replies.Okay)

-- what is left falls with a moment that ends its command
pub record LeftFalls : Type 0 where
  pub over : (c new : CoreState) (s : ℕ) (command : Command) → (seat_of c s).job ≡ jobs.Submitted command → (seat_of new s).job ≡ jobs.Idle → left new s < left c s
