-- What an advance promises of the plain store's states for which a core stands.
use Rattle.std.specs.Prelude.{Bool, List, Option, Some, false, length, slice_get, slice_set, true, ℕ, ◌-◌, ◌<◌, ◌≡◌, ◌≢◌}
use Rattle.command_set.specs.Answers.{answer, with_failure}
use Rattle.command_set.specs.Journals.{is_data, takes_no_memory}
use Rattle.command_set.specs.Replies.{is_granted}
use Rattle.command_set.specs.declared.Command.{Command}
use Rattle.command_set.specs.declared.Reply.{Reply}
use Rattle.command_set.specs.declared.state.Plain.{Plain}
use Rattle.core_state.specs.Stands.{Stands}
use Rattle.core_state.specs.State.{CoreState, is_past_moment, schemas_of, seat_of}
use Rattle.core_state.specs.declared.advance.Advance.{Advance}
use Rattle.core_state.specs.declared.advance.Under.{Under}
use Rattle.core_state.specs.declared.seat.Job.{Job}
use Rattle.command_set.specs.declared.Reply.TheVariants as replies
use Rattle.core_state.specs.declared.advance.Advance.TheVariants as advances
use Rattle.core_state.specs.declared.advance.Under.TheVariants as under
use Rattle.core_state.specs.declared.seat.Job.TheVariants as jobs

-- what the moment of a command says of its reply: that is it, and the command is over; or it is granted, and the command, a data command, goes on
abbrev pub Says : Command → Job → Advance → Reply → Type 0
Says command job advances.Idle reply = ⊥
Says command job advances.More reply = (is_data command ≡ true) × (is_granted reply ≡ true) × (is_past_moment job ≡ true)
Says command job (advances.Done said) reply = (said ≡ reply) × (job ≡ jobs.Idle)

-- the moment of a command: the core stands for the state after the plain store's answer, and its reply is that answer's
abbrev pub Runs : CoreState → ℕ → Command → CoreState → Advance → Type 0
Runs old s command new advance = (m : Plain) (replies : List (Option Reply)) → s - 1 < length replies → Stands old m replies →
    Stands new (answer (schemas_of old.tables) m s command).after (slice_set replies (s - 1) (Some (answer (schemas_of old.tables) m s command).reply))
    × Says command (seat_of new s).job advance (answer (schemas_of old.tables) m s command).reply

-- a command that ends early, for want of memory or of an id: the core stands for the state in which the session's open transaction has failed
pub record Falls (old : CoreState) (s : ℕ) (new : CoreState) : Type 0 where
  pub stands : (m : Plain) (replies : List (Option Reply)) → Stands old m replies → Stands new (with_failure m s) replies
  pub over : (seat_of new s).job ≡ jobs.Idle

-- a later step of a command: it goes on, or it ends with the reply of its moment
abbrev pub Ends : ℕ → Job → Advance → List (Option Reply) → Type 0
Ends i job advances.Idle replies = ⊥
Ends i job advances.More replies = is_past_moment job ≡ true
Ends i job (advances.Done said) replies = (slice_get replies i ≡ Some (Some said)) × (job ≡ jobs.Idle)

-- it leaves the same state
abbrev pub Stays : CoreState → ℕ → CoreState → Advance → Type 0
Stays old s new advance = (m : Plain) (replies : List (Option Reply)) → Stands old m replies → Stands new m replies × Ends (s - 1) (seat_of new s).job advance replies

-- unless it is refused an id
abbrev pub Goes : CoreState → ℕ → CoreState → Advance → Type 0
Goes old s new (advances.Done replies.NoValueId) = Falls old s new
Goes old s new advance = Stays old s new advance

-- what an advance does by what is under way
abbrev pub MovedBy : Job → CoreState → ℕ → CoreState → Advance → Type 0
MovedBy jobs.Idle old s new advance = (advance ≡ advances.Idle) × (new ≡ old)
MovedBy (jobs.Submitted command) old s new advance = Runs old s command new advance
MovedBy (jobs.Reading table snapshot read) old s new advance = Stays old s new advance
MovedBy (jobs.Writing table write) old s new advance = Goes old s new advance

pub record Moved (old : CoreState) (s : ℕ) (new : CoreState) (advance : Advance) : Type 0 where
  pub by : MovedBy (seat_of old s).job old s new advance

-- both cores stand for the same states
pub record StandsOn (old new : CoreState) : Type 0 where
  pub stands : (m : Plain) (replies : List (Option Reply)) → Stands old m replies → Stands new m replies

-- whether a command takes no memory once it is submitted, or nothing is under way
abbrev pub wants_none : Job → Bool
wants_none jobs.Idle = true
wants_none (jobs.Submitted command) = takes_no_memory command
wants_none (jobs.Reading table snapshot read) = false
wants_none (jobs.Writing table write) = false

-- the number of tables, their schemas, and the other sessions are as they were
pub record OthersStay (old : CoreState) (s : ℕ) (new : CoreState) : Type 0 where
  pub schemas : schemas_of new.tables ≡ schemas_of old.tables
  pub count : length new.seats ≡ length old.seats
  pub each : (i : ℕ) → i ≢ s - 1 → slice_get new.seats i ≡ slice_get old.seats i

-- what a job is, to one who asks whether its session is busy
abbrev pub under_of : Job → Under
under_of jobs.Idle = under.Nothing
under_of (jobs.Submitted command) = under.Data
under_of (jobs.Reading table snapshot read) = under.Data
under_of (jobs.Writing table write) = under.Data
