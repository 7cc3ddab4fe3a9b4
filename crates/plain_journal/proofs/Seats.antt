-- No entry changes how many sessions there are.
use Rattle.std.proofs.Common.{◌≡◌, ℕ, ◌-◌, List, Option, Some, None, Bool, true, false, length, refl, ◌∙◌}
use Rattle.std.specs.Prelude.{is_some, if◌then◌else◌, map as mapped}
use Rattle.std.proofs.lemmas.List.{length-map, length-set}
use Rattle.tuple_layout.specs.Schemas.{TableSchema}
use Rattle.command_set.specs.declared.Command.{Command}
use Rattle.command_set.specs.declared.Command.TheVariants as commands
use Rattle.command_set.specs.declared.JournalEntry.{JournalEntry}
use Rattle.command_set.specs.declared.Kind.{Kind}
use Rattle.command_set.specs.declared.Kind.TheVariants as kinds
use Rattle.command_set.specs.declared.Reply.{Reply}
use Rattle.command_set.specs.declared.Reply.TheVariants as replies
use Rattle.command_set.specs.declared.Script.{Script}
use Rattle.command_set.specs.declared.journal.Run.{Run}
use Rattle.command_set.specs.declared.state.Plain.{Plain}
use Rattle.command_set.specs.declared.state.Session.{Session}
use Rattle.command_set.specs.declared.state.Session.TheVariants as sessions
use Rattle.command_set.specs.declared.state.Transaction.{Transaction}
use Rattle.command_set.specs.Plain.{session_of, with_session}
use Rattle.command_set.specs.Replies.{fails, is_granted, reply_of, rewriter_of, transaction_of}
use Rattle.command_set.specs.Answers.{answer, effect, once_used, refused, settled, table_of, told_by, with_failure, with_use}
use Rattle.std.specs.Option.{option_map, option_map_or}
use Rattle.command_set.specs.Journals.{after_entry, after_moment, came_of, command_at, cut_short, moment_at, runs_upkeep, without_upkeep}

-- how many sessions a state has
abbrev pub seats : Plain → ℕ
seats m = length m.sessions

-- one session in place of another
with_session_seats : (m : Plain) (s : ℕ) (session : Session) → seats (with_session m s session) ≡ seats m
with_session_seats m s session = length-set m.sessions (s - 1) session

either : (b : Bool) (m n : Plain) (k : ℕ) → seats m ≡ k → seats n ≡ k → seats (if b then m else n) ≡ k
either true m n k e f = e
either false m n k e f = f

used_seats : (m : Plain) (s : ℕ) (session : Session) (table : Option ℕ) → seats (once_used m s session table) ≡ seats m
used_seats m s sessions.Outside table = refl
used_seats m s sessions.Failed table = refl
used_seats m s (sessions.Open t) None = refl
used_seats m s (sessions.Open t) (Some table) = either (is_some (rewriter_of m s table)) m (with_session m s (sessions.Open (with_use m t table))) (seats m) refl (with_session_seats m s (sessions.Open (with_use m t table)))

effect_seats : (m : Plain) (s : ℕ) (t : Transaction) (command : Command) → seats (effect m s t command) ≡ seats m
effect_seats m s t (commands.Begin level) = length-set m.sessions (s - 1) _
effect_seats m s t commands.Commit = length-set (mapped (told_by (transaction_of (session_of m s)).changes) m.sessions) (s - 1) sessions.Outside ∙ length-map m.sessions (told_by (transaction_of (session_of m s)).changes)
effect_seats m s t commands.Rollback = length-set m.sessions (s - 1) _
effect_seats m s t (commands.Get table key) = refl
effect_seats m s t (commands.Part table key column offset len) = refl
effect_seats m s t (commands.Open handle table key column) = length-set m.sessions (s - 1) _
effect_seats m s t (commands.Fetch handle offset len) = refl
effect_seats m s t (commands.Close handle) = length-set m.sessions (s - 1) _
effect_seats m s t (commands.Insert table key row) = length-set m.sessions (s - 1) _
effect_seats m s t (commands.Update table key sets) = length-set m.sessions (s - 1) _
effect_seats m s t (commands.Delete table key) = length-set m.sessions (s - 1) _
effect_seats m s t (commands.Rekey table from to sets) = length-set m.sessions (s - 1) _
effect_seats m s t (commands.VacuumMain table) = refl
effect_seats m s t (commands.VacuumToast table) = refl
effect_seats m s t (commands.Rewrite table) = refl

failure_seats : (m : Plain) (s : ℕ) → seats (with_failure m s) ≡ seats m
failure_seats m s = length-set m.sessions (s - 1) _

refused_seats : (m : Plain) (s : ℕ) (reply : Reply) → seats (refused m s reply) ≡ seats m
refused_seats m s replies.RolledBack = with_session_seats m s sessions.Outside
refused_seats m s reply = either (fails reply) (with_failure m s) m (seats m) (failure_seats m s) refl

settled_seats : (m : Plain) (s : ℕ) (command : Command) (reply : Reply) → seats (settled m s command reply) ≡ seats m
settled_seats m s command reply = either (is_granted reply) (effect m s (transaction_of (session_of m s)) command) (refused m s reply) (seats m) (effect_seats m s (transaction_of (session_of m s)) command) (refused_seats m s reply)

-- an answer leaves as many sessions
pub answer_seats : (schemas : List TableSchema) (m : Plain) (s : ℕ) (command : Command) → seats (answer schemas m s command).after ≡ seats m
answer_seats schemas m s command =
    let in_use = once_used m s (session_of m s) (table_of command) in
    settled_seats in_use s command (reply_of schemas in_use s command) ∙ used_seats m s (session_of m s) (table_of command)

cut_seats : (m : Plain) (s : ℕ) → seats (cut_short m s) ≡ seats m
cut_seats m s = either (runs_upkeep m s) (without_upkeep m s) (with_failure m s) (seats m) refl (failure_seats m s)

came_seats : (script : Script) (m : Plain) (s : ℕ) (command : Command) (kind : Kind) → seats (came_of script m s command kind).after ≡ seats m
came_seats script m s command kinds.Run = answer_seats script.schemas m s command
came_seats script m s command kinds.End = refl
came_seats script m s command kinds.NoValueId = cut_seats m s
came_seats script m s command kinds.Memory = cut_seats m s

-- an entry leaves as many sessions
pub entry_seats : (script : Script) (run : Run) (e : JournalEntry) → seats (after_entry script run e).plain ≡ seats run.plain
entry_seats script run e = by (command_at script e.session e.number)
  where
    by : (o : Option Command) → seats (option_map_or (after_moment run) (option_map (λ command. moment_at run.plain e command (came_of script run.plain e.session command e.kind)) o) run).plain ≡ seats run.plain
    by None = refl
    by (Some command) = came_seats script run.plain e.session command e.kind
