-- What the events of a core make of the ids in use for a table and of the draws that are owed for it.
use Rattle.std.specs.Prelude.{List, ℕ, ◌+◌, ◌≡◌, ◌≤◌}
use Rattle.tuple_layout.specs.Schemas.{TableSchema}
use Rattle.value_ids.specs.Ids.{Pool, id_count}
use Rattle.command_set.specs.declared.Command.{Command}
use Rattle.write_steps.specs.Writes.{Writing}
use Rattle.core_state.specs.Events.{Event}
use Rattle.core_state.specs.Lines.{after_submit}
use Rattle.core_state.specs.Moves.{OthersStay}
use Rattle.core_state.specs.State.{CoreState, seat_of}
use Rattle.core_state.specs.declared.advance.Advance.{Advance}
use Rattle.core_parts.specs.First.{first_core}
use Rattle.core_events.specs.Advanced.{FailsBy}
use Rattle.core_events.specs.Laws.{IsSoundAt}
use Rattle.core_draws.specs.Draws.{draws_begun, draws_counted}
use Rattle.command_set.specs.declared.Reply.TheVariants as replies
use Rattle.core_state.specs.declared.advance.Advance.TheVariants as advances
use Rattle.core_state.specs.declared.seat.Job.TheVariants as jobs

-- the range of ids is as it was
pub record SameRange (old new : Pool) : Type 0 where
  pub low : new.low ≡ old.low
  pub high : new.high ≡ old.high

-- at most so many begin, and the range of ids is as it was
pub record DrawsMost (old new : CoreState) (t begun : ℕ) : Type 0 where
  pub most : draws_counted new t ≤ draws_counted old t + begun
  pub range : SameRange old.ids new.ids

-- No event adds to the ids in use for a table and the draws that are owed for it, but the moment of a write, which adds the draws that the write is to make
pub record DrawsKeep : Type 0 where
  pub first : (schemas : List TableSchema) (low high sessions t : ℕ) → draws_counted (first_core schemas low high sessions) t ≡ 0
  pub submitted : (c : CoreState) (s : ℕ) (command : Command) (t : ℕ) → IsSoundAt c s → DrawsMost c (after_submit c s command) t 0
  pub advanced : (c : CoreState) (s : ℕ) (new : CoreState) (advance : Advance) (t : ℕ) → IsSoundAt c s → OthersStay c s new → Event c s new advance → DrawsMost c new t (draws_begun (seat_of c s).job (seat_of new s).job t)
  pub failed : (c : CoreState) (s : ℕ) (new : CoreState) (t : ℕ) → IsSoundAt c s → OthersStay c s new → FailsBy c s new → DrawsMost c new t 0

-- A draw is refused only where these are at least as many as there are ids
pub record DrawsRefused : Type 0 where
  pub refused : (c : CoreState) (s : ℕ) (new : CoreState) (t : ℕ) (write : Writing) → IsSoundAt c s → (seat_of c s).job ≡ jobs.Writing t write → Event c s new (advances.Done replies.NoValueId) → id_count c.ids ≤ draws_counted c t
