-- What a command's moment makes of a core in which its session has nothing under way, since the command is taken out; and what is left where it is refused for want of memory.
use Rattle.std.specs.Prelude.{Bool, false, true, ℕ, ◌≡◌, ◌⊎◌}
use Rattle.lock_table.specs.Locks.{after_end}
use Rattle.command_set.specs.declared.Command.{Command}
use Rattle.command_set.specs.declared.Reply.{Reply}
use Rattle.core_state.specs.Events.{at_moment, line_due}
use Rattle.core_state.specs.Lines.{after_over}
use Rattle.core_state.specs.State.{CoreState, is_past_moment, seat_of}
use Rattle.core_state.specs.declared.advance.Advance.{Advance}
use Rattle.core_looks.specs.Due.{reply_due}
use Rattle.core_parts.specs.Takes.{with_copy}
use Rattle.core_state.specs.declared.advance.Advance.TheVariants as advances

-- what a moment answers, by whether its command goes on
abbrev pub told_at : Bool → Reply → Advance
told_at true reply = advances.More
told_at false reply = advances.Done reply

-- the line that is due is made, and it is answered that the command goes on, or the reply
pub record IsMade (c : CoreState) (s : ℕ) (command : Command) (new : CoreState) (advance : Advance) : Type 0 where
  pub is : new ≡ at_moment (line_due c s command (reply_due c s command)) c s
  pub told : advance ≡ told_at (is_past_moment (seat_of new s).job) (reply_due c s command)

-- a session has asked for locks, and nothing else has changed
pub record HasAsked (c : CoreState) (s : ℕ) (new : CoreState) : Type 0 where
  pub is : new ≡ record c { locks = new.locks }
  pub locks : after_end new.locks s ≡ after_end c.locks s

-- a session's command is taken out
abbrev pub idled : CoreState → ℕ → CoreState
idled c s = after_over c s (seat_of c s).state

-- where a moment is refused, its session may have asked for locks, and its transaction may have taken its copy
abbrev pub IsCutShort : CoreState → ℕ → CoreState → Type 0
IsCutShort c s new = HasAsked c s new ⊎ HasAsked (with_copy c s) s new
