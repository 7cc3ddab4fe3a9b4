-- What the moments of reads need of a core, and make of it.
use Rattle.std.specs.Prelude.{IsSome, None, Option, Some, true, ℕ, ℤ, ◌≡◌}
use Rattle.toast_store.specs.Stores.{Store}
use Rattle.command_set.specs.declared.Reply.{Reply}
use Rattle.read_steps.specs.Reads.{CanRead, Reading, needs_store, reply_of}
use Rattle.write_steps.specs.declared.stage.OldRow.{OldRow}
use Rattle.core_state.specs.Events.{at_moment, line_reading}
use Rattle.core_state.specs.State.{CoreState, IsTableOf, is_open, seat_of, table_at}
use Rattle.core_state.specs.Views.{row_seen}
use Rattle.core_state.specs.declared.advance.Advance.{Advance}
use Rattle.core_state.specs.declared.seat.State.{State}
use Rattle.core_parts.specs.Moments.{IsMade, told_at}
use Rattle.core_sights.specs.Ready.{IsReady}
use Rattle.core_reading.specs.Spans.{HasColumn}
use Rattle.command_set.specs.declared.Command.TheVariants as commands
use Rattle.command_set.specs.declared.Reply.TheVariants as replies
use Rattle.core_state.specs.declared.seat.State.TheVariants as states

-- the refusal of a data command whose session has no open transaction
abbrev pub first_refusal : State → Option Reply
first_refusal states.Outside = Some replies.Outside
first_refusal states.Failed = Some replies.Failed
first_refusal (states.Open level xid snapshot) = None

-- a session is at a moment, in an open transaction, on one of the tables
pub record IsInside (c : CoreState) (s t : ℕ) : Type 0 where
  pub ready : IsReady c s
  pub inside : is_open (seat_of c s).state ≡ true
  pub of_table : IsTableOf c.tables t

-- ---- a read begins

-- it may make its first step, and comes to a reply
pub record CanBegin (toast : Store) (read : Reading) : Type 0 where
  pub can : CanRead toast read
  pub comes : IsSome (reply_of toast read)

-- it goes on from its moment, or is over with the reply that it comes to
pub record BeginsRead (c : CoreState) (s t : ℕ) (read : Reading) (new : CoreState) (advance : Advance) : Type 0 where
  pub is : new ≡ at_moment (line_reading t read) c s
  pub told : (reply : Reply) → reply_of (table_at c.tables t).toast read ≡ Some reply → advance ≡ told_at (needs_store read) reply

-- ---- a part of a column

-- the row is one that the session sees, and has the column
pub record HasFound (c : CoreState) (s t : ℕ) (old : OldRow) (column : ℕ) : Type 0 where
  pub inside : IsInside c s t
  pub key : ℤ
  pub seen : row_seen c s t key ≡ Some old
  pub has : HasColumn old.stored column

-- the moment of a part of it is made
pub record MakesPart (c : CoreState) (s t : ℕ) (old : OldRow) (column : ℕ) (offset len : ℤ) (new : CoreState) (advance : Advance) : Type 0 where
  pub made : (key : ℤ) → row_seen c s t key ≡ Some old → IsMade c s (commands.Part t key column offset len) new advance
