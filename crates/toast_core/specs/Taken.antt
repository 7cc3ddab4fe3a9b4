-- What is due of a session, and what is left of a core where it finds no memory.
use Rattle.std.specs.Prelude.{ℕ, ◌≡◌}
use Rattle.core_parts.specs.Moments.{IsCutShort, idled}
use Rattle.core_state.specs.State.{CoreState, seat_of}
use Rattle.core_state.specs.declared.seat.Job.{Job}
use Rattle.core_state.specs.declared.seat.Seat.{Seat}
use Rattle.toast_core.specs.declared.events.Due.{Due}
use Rattle.core_state.specs.declared.seat.Job.TheVariants as jobs
use Rattle.toast_core.specs.declared.events.Due.TheVariants as dues

-- the moment of a command that is submitted, or the next step of one past it
abbrev pub due_of : Job → Due
due_of jobs.Idle = dues.Nothing
due_of (jobs.Submitted command) = dues.Moment command
due_of (jobs.Reading table snapshot read) = dues.Step
due_of (jobs.Writing table write) = dues.Step

-- what is left of the job once a command that is submitted is taken out
abbrev pub job_left : Job → Job
job_left jobs.Idle = jobs.Idle
job_left (jobs.Submitted command) = jobs.Idle
job_left (jobs.Reading table snapshot read) = jobs.Reading table snapshot read
job_left (jobs.Writing table write) = jobs.Writing table write

abbrev pub once_taken : Seat → Seat
once_taken seat = record seat { job = job_left seat.job }

-- at the moment of a command its session may have asked for locks, and its transaction taken its copy; else nothing has changed
abbrev pub IsCutAt : Job → CoreState → ℕ → CoreState → Type 0
IsCutAt jobs.Idle c s new = ⊥
IsCutAt (jobs.Submitted command) c s new = IsCutShort (idled c s) s new
IsCutAt (jobs.Reading table snapshot read) c s new = new ≡ c
IsCutAt (jobs.Writing table write) c s new = new ≡ c

pub record IsCut (c : CoreState) (s : ℕ) (new : CoreState) : Type 0 where
  pub by : IsCutAt (seat_of c s).job c s new
