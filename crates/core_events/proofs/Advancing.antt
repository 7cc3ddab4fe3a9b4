-- An advance: the core is sound after it, the line that was due is made, it does what it promises of the plain store's states, and what is left falls.
use Rattle.std.proofs.Common.{refl, subst, sym}
use Rattle.std.specs.Prelude.{ℕ, ◌<◌, ◌≡◌, ◌≢◌}
use Rattle.core_state.specs.Events.{Event, left}
use Rattle.core_state.specs.Facts.{IsSound, PartsAreSound}
use Rattle.core_state.specs.Moves.{Moved}
use Rattle.core_state.specs.State.{CoreState, IsSession, job_table, seat_of}
use Rattle.core_state.specs.declared.advance.Advance.{Advance}
use Rattle.core_state.specs.declared.seat.Job.{Job}
use Rattle.core_events.proofs.Coming.{Comes, read_comes, write_comes}
use Rattle.core_events.proofs.Granted.{moment_comes}
use Rattle.core_events.specs.Advanced.{IsAdvanced, IsAdvancedBy}
use Rattle.core_parts.specs.Later.{StepsBy}
use Rattle.core_state.specs.declared.seat.Job.TheVariants as jobs

advanced_comes : (c : CoreState) (s : ℕ) (new : CoreState) (advance : Advance) → IsSession c.seats s → IsSound c → PartsAreSound c → IsAdvanced c s new advance → Comes (seat_of c s).job c s new advance
advanced_comes c s new advance there sound parts made = at (seat_of c s).job refl made.by
  where
    at : (job : Job) → (seat_of c s).job ≡ job → IsAdvancedBy job c s new advance → Comes job c s new advance
    at jobs.Idle is step =
        let same = subst (λ (j : Job). StepsBy (job_table j) c s new advance) is step.by in
        record {
          sound = subst IsSound (sym same.0) sound;
          due = (same.0, same.1);
          moved = (same.1, same.0);
          falls = λ works. absurd (works refl);
        }
    at (jobs.Submitted command) is moment = moment_comes c s command new advance there sound parts is moment
    at (jobs.Reading t snapshot read) is step = read_comes c s t snapshot read new advance there sound parts is (subst (λ (j : Job). StepsBy (job_table j) c s new advance) is step.by)
    at (jobs.Writing t write) is step = write_comes c s t write new advance there sound parts is (subst (λ (j : Job). StepsBy (job_table j) c s new advance) is step.by)

pub advanced_sound : (c : CoreState) (s : ℕ) (new : CoreState) (advance : Advance) → IsSession c.seats s → IsSound c → PartsAreSound c → IsAdvanced c s new advance → IsSound new
advanced_sound c s new advance there sound parts made = (advanced_comes c s new advance there sound parts made).sound

pub advanced_event : (c : CoreState) (s : ℕ) (new : CoreState) (advance : Advance) → IsSession c.seats s → IsSound c → PartsAreSound c → IsAdvanced c s new advance → Event c s new advance
advanced_event c s new advance there sound parts made = record { is = (advanced_comes c s new advance there sound parts made).due }

pub advanced_moved : (c : CoreState) (s : ℕ) (new : CoreState) (advance : Advance) → IsSession c.seats s → IsSound c → PartsAreSound c → IsAdvanced c s new advance → Moved c s new advance
advanced_moved c s new advance there sound parts made = record { by = (advanced_comes c s new advance there sound parts made).moved }

pub advanced_falls : (c : CoreState) (s : ℕ) (new : CoreState) (advance : Advance) → IsSession c.seats s → IsSound c → PartsAreSound c → (seat_of c s).job ≢ jobs.Idle → IsAdvanced c s new advance → left new s < left c s
advanced_falls c s new advance there sound parts works made = (advanced_comes c s new advance there sound parts made).falls works
