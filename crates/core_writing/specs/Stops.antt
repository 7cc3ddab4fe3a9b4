-- Why a write does not begin, and what is left then.
use Rattle.std.specs.Prelude.{Err, Ok, Option, Result, Some, alloc_error, true, ℕ, ⊤, ◌≡◌}
use Rattle.std.specs.declared.alloc.AllocError.{AllocError}
use Rattle.command_set.specs.Replies.{fails}
use Rattle.command_set.specs.declared.Command.{Command}
use Rattle.command_set.specs.declared.Reply.{Reply}
use Rattle.core_state.specs.Lines.{after_failing}
use Rattle.core_state.specs.State.{CoreState}
use Rattle.core_state.specs.declared.advance.Advance.{Advance}
use Rattle.core_looks.specs.Due.{reply_due}
use Rattle.core_parts.specs.Moments.{HasAsked, IsCutShort}
use Rattle.core_writing.specs.declared.stop.Stop.{Stop}
use Rattle.core_state.specs.declared.advance.Advance.TheVariants as advances
use Rattle.core_writing.specs.declared.stop.Stop.TheVariants as stops

-- for want of memory, or by a refusal that holds and fails the transaction
abbrev pub IsStopBy : Option Reply → Stop → Type 0
IsStopBy due stops.Memory = ⊤
IsStopBy due (stops.Refused reply) = (due ≡ Some reply) × (fails reply ≡ true)

-- the write of a command is refused by the reply that is due, which fails its transaction, and its session has only asked for locks
pub record IsRefused (c : CoreState) (s : ℕ) (command : Command) (new : CoreState) (reply : Reply) : Type 0 where
  pub asked : HasAsked c s new
  pub due : reply_due c s command ≡ reply
  pub fails_it : fails reply ≡ true

-- the write of a command does not begin: for want of memory, with what may be left then, or since it is refused
abbrev pub IsStopped : CoreState → ℕ → Command → CoreState → Stop → Type 0
IsStopped c s command new stops.Memory = IsCutShort c s new
IsStopped c s command new (stops.Refused reply) = IsRefused c s command new reply

-- what is answered where a write has begun, or has not: a refusal fails the transaction, and else all stays
abbrev pub IsAnswered : CoreState → ℕ → Result (Unit {0}) Stop → CoreState → Result Advance AllocError → Type 0
IsAnswered c s (Ok t) new answered = (new ≡ c) × (answered ≡ Ok advances.More)
IsAnswered c s (Err stops.Memory) new answered = (new ≡ c) × (answered ≡ Err alloc_error)
IsAnswered c s (Err (stops.Refused reply)) new answered = (new ≡ after_failing c s) × (answered ≡ Ok (advances.Done reply))
