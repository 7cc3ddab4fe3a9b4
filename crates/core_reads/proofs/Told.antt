-- What the plain store answers to a granted command: the reply that is due, and its effect on the state in which the command has used its table.
use Rattle.std.proofs.Common.{ap, subst, ◌∙◌}
use Rattle.std.specs.Prelude.{Bool, List, Option, if◌then◌else◌, true, ℕ, ◌≡◌}
use Rattle.command_set.specs.Answers.{answer, effect, once_used, refused, table_of}
use Rattle.command_set.specs.Plain.{session_of}
use Rattle.command_set.specs.Replies as plain_replies
use Rattle.command_set.specs.Replies.{is_granted, transaction_of}
use Rattle.command_set.specs.declared.Command.{Command}
use Rattle.command_set.specs.declared.Reply.{Reply}
use Rattle.command_set.specs.declared.state.Plain.{Plain}
use Rattle.core_looks.proofs.Replies.{reply_is}
use Rattle.core_looks.specs.Due.{reply_due}
use Rattle.core_state.proofs.Answered.{answer_is, answered}
use Rattle.core_state.specs.Facts.{IsSound, PartsAreSound}
use Rattle.core_state.specs.Stands.{Stands}
use Rattle.core_state.specs.State.{CoreState, IsSession, schemas_of, seat_of}
use Rattle.core_state.specs.declared.seat.Job.TheVariants as jobs

pub granted_answer : (c : CoreState) (s : ℕ) (command : Command) (m in_use : Plain) (told : List (Option Reply)) → IsSession c.seats s → (seat_of c s).job ≡ jobs.Submitted command → is_granted (reply_due c s command) ≡ true → PartsAreSound c → IsSound c → Stands c m told
    → once_used m s (session_of m s) (table_of command) ≡ in_use → answer (schemas_of c.tables) m s command ≡ answered (reply_due c s command) (effect in_use s (transaction_of (session_of in_use s)) command)
granted_answer c s command m in_use told there is granted parts sound stands used =
    let said = subst (λ (n : Plain). plain_replies.reply_of (schemas_of c.tables) n s command ≡ reply_due c s command) used (reply_is c s command m told there sound parts is stands) in
    answer_is (schemas_of c.tables) m in_use s command (reply_due c s command) used said
    ∙ ap (answered (reply_due c s command)) (ap (λ (b : Bool). if b then effect in_use s (transaction_of (session_of in_use s)) command else refused in_use s (reply_due c s command)) granted)
