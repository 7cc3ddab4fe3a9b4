-- What a session is when its command's moment comes.
use Rattle.std.specs.Prelude.{ℕ, ◌≡◌}
use Rattle.core_state.specs.Facts.{IsSound, PartsAreSound}
use Rattle.core_state.specs.State.{CoreState, IsSession, IsTableOf, seat_of}
use Rattle.core_state.specs.declared.seat.Job.TheVariants as jobs

-- the core is sound, and the session's command has been taken out of its job
pub record IsReady (c : CoreState) (s : ℕ) : Type 0 where
  pub there : IsSession c.seats s
  pub idle : (seat_of c s).job ≡ jobs.Idle
  pub sound : IsSound c
  pub parts : PartsAreSound c

-- a session looks into one of a sound core's tables
pub record CanLook (c : CoreState) (s t : ℕ) : Type 0 where
  pub there : IsSession c.seats s
  pub of_table : IsTableOf c.tables t
  pub sound : IsSound c
  pub parts : PartsAreSound c
