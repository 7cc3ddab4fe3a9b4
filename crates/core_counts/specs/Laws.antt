-- What each event leaves of the turns that a command still takes at least, with a field for each case.
use Rattle.std.specs.Prelude.{List, Option, suc, true, ℕ, ◌≡◌, ◌≢◌, ◌≤◌}
use Rattle.command_set.specs.Replies.{is_granted}
use Rattle.command_set.specs.declared.Command.{Command}
use Rattle.command_set.specs.declared.Reply.{Reply}
use Rattle.command_set.specs.declared.state.Plain.{Plain}
use Rattle.core_state.specs.Events.{Event}
use Rattle.core_state.specs.Lines.{after_failing, after_submit}
use Rattle.core_state.specs.Stands.{Stands}
use Rattle.core_state.specs.State.{CoreState, IsSession, is_past_moment, seat_of}
use Rattle.core_state.specs.declared.advance.Advance.{Advance}
use Rattle.core_looks.specs.Due.{reply_due}
use Rattle.core_events.specs.Laws.{IsSoundAt}
use Rattle.core_counts.specs.Counts.{least_turns}
use Rattle.core_counts.specs.Least.{AreShort, job_least}
use Rattle.command_set.specs.declared.Reply.TheVariants as replies
use Rattle.core_state.specs.declared.advance.Advance.TheVariants as advances
use Rattle.core_state.specs.declared.seat.Job.TheVariants as jobs

-- a command that none of its refusals holds back, in a core that stands for a state of the plain store
pub record IsGrantedIn (c : CoreState) (s : ℕ) (command : Command) (m : Plain) : Type 0 where
  pub at : IsSoundAt c s
  pub short : AreShort c.seats
  pub is : (seat_of c s).job ≡ jobs.Submitted command
  pub granted : is_granted (reply_due c s command) ≡ true
  pub told : List (Option Reply)
  pub stands : Stands c m told

-- the moment of a granted command is its first turn, whether it goes on or is over
pub record CountsBegin : Type 0 where
  pub more : (c : CoreState) (s : ℕ) (command : Command) (m : Plain) (new : CoreState) → IsGrantedIn c s command m → Event c s new advances.More → least_turns m s command ≤ suc (job_least (seat_of new s).job)
  pub over : (c : CoreState) (s : ℕ) (command : Command) (m : Plain) (new : CoreState) (reply : Reply) → IsGrantedIn c s command m → is_granted reply ≡ true → Event c s new (advances.Done reply) → least_turns m s command ≤ 1

-- a later event
pub record CountsFall : Type 0 where
  pub more : (c : CoreState) (s : ℕ) (new : CoreState) → IsSoundAt c s → is_past_moment (seat_of c s).job ≡ true → Event c s new advances.More → job_least (seat_of c s).job ≤ suc (job_least (seat_of new s).job)
  pub over : (c : CoreState) (s : ℕ) (new : CoreState) (reply : Reply) → IsSoundAt c s → is_past_moment (seat_of c s).job ≡ true → reply ≢ replies.NoValueId → Event c s new (advances.Done reply) → job_least (seat_of c s).job ≤ 1

-- what open handles keep in line
pub record ShortStays : Type 0 where
  pub submitted : (c : CoreState) (s : ℕ) (command : Command) → IsSession c.seats s → AreShort c.seats → AreShort (after_submit c s command).seats
  pub event : (c : CoreState) (s : ℕ) (new : CoreState) (advance : Advance) → IsSoundAt c s → AreShort c.seats → Event c s new advance → AreShort new.seats
  pub failing : (c : CoreState) (s : ℕ) → AreShort c.seats → AreShort (after_failing c s).seats
