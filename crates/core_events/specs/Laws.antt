-- What an advance of a session keeps of a sound core, and what it does in terms of the plain store.
use Rattle.std.specs.Prelude.{ℕ, ◌<◌, ◌≢◌}
use Rattle.core_state.specs.Events.{Event, left}
use Rattle.core_state.specs.Facts.{IsSound, PartsAreSound}
use Rattle.core_state.specs.Moves.{Falls, Moved, OthersStay}
use Rattle.core_state.specs.State.{CoreState, IsSession, seat_of}
use Rattle.core_state.specs.declared.advance.Advance.{Advance}
use Rattle.core_events.specs.Advanced.{FailsBy, IsAdvanced}
use Rattle.core_state.specs.declared.seat.Job.TheVariants as jobs

-- one of a sound core's sessions
pub record IsSoundAt (c : CoreState) (s : ℕ) : Type 0 where
  pub there : IsSession c.seats s
  pub sound : IsSound c
  pub parts : PartsAreSound c

-- a core is sound after an advance, and no other session's seat or answer has changed
pub record AdvancesKeep : Type 0 where
  pub sound : (c : CoreState) (s : ℕ) (new : CoreState) (advance : Advance) → IsSoundAt c s → IsAdvanced c s new advance → IsSound new
  pub others : (c : CoreState) (s : ℕ) (new : CoreState) (advance : Advance) → IsSoundAt c s → IsAdvanced c s new advance → OthersStay c s new

-- it is one event, it moves the plain store as its command does, and less is then left of it
pub record AdvancesRun : Type 0 where
  pub event : (c : CoreState) (s : ℕ) (new : CoreState) (advance : Advance) → IsSoundAt c s → IsAdvanced c s new advance → Event c s new advance
  pub moved : (c : CoreState) (s : ℕ) (new : CoreState) (advance : Advance) → IsSoundAt c s → IsAdvanced c s new advance → Moved c s new advance
  pub falls : (c : CoreState) (s : ℕ) (new : CoreState) (advance : Advance) → IsSoundAt c s → (seat_of c s).job ≢ jobs.Idle → IsAdvanced c s new advance → left new s < left c s

-- where memory is wanting, the core is sound, only this session's transaction has failed, in the plain store too
pub record FailuresKeep : Type 0 where
  pub sound : (c : CoreState) (s : ℕ) (new : CoreState) → IsSoundAt c s → FailsBy c s new → IsSound new
  pub others : (c : CoreState) (s : ℕ) (new : CoreState) → IsSoundAt c s → FailsBy c s new → OthersStay c s new
  pub falls : (c : CoreState) (s : ℕ) (new : CoreState) → IsSoundAt c s → FailsBy c s new → Falls c s new
