-- The plain store's answer to a command: its reply, and the state after it.
use Rattle.std.specs.Prelude.{ℕ, List, [], ◌∷◌, ◌++◌, Option, Some, None, map as mapped, is_some, if◌then◌else◌}
use Rattle.std.specs.Option.{unwrap_or}
use Rattle.std.specs.FinMap as map
use Rattle.tuple_layout.specs.Schemas.{TableSchema}
use Rattle.tuple_layout.specs.Places.{Rows}
use Rattle.command_set.specs.Changes.{place, fold_changes, keys_of}
use Rattle.command_set.specs.declared.state.Change.{Change}
use Rattle.command_set.specs.declared.state.Change.TheVariants.{Insert, Update, Move, Remove}
use Rattle.command_set.specs.Plain.{session_of, with_session, view_of, row_at, value_at, row_with}
use Rattle.command_set.specs.declared.state.Plain.{Plain}
use Rattle.command_set.specs.declared.state.Transaction.{Transaction}
use Rattle.command_set.specs.declared.state.Session.{Session}
use Rattle.command_set.specs.declared.state.Session.TheVariants.{Outside, Failed, Open}
use Rattle.command_set.specs.declared.state.Upkeep.{Upkeep}
use Rattle.command_set.specs.declared.state.Upkeep.TheVariants.{Main, Toast, Rewrite}
use Rattle.command_set.specs.Replies.{transaction_of, new_transaction, rewriter_of, reply_of, is_granted, fails}
use Rattle.command_set.specs.declared.state.Answered.{Answered}
use Rattle.command_set.specs.declared.Level.{Level}
use Rattle.command_set.specs.declared.Level.TheVariants as levels
use Rattle.command_set.specs.declared.Command.{Command}
use Rattle.command_set.specs.declared.Command.TheVariants as commands
use Rattle.command_set.specs.declared.Reply.{Reply}
use Rattle.command_set.specs.declared.Reply.TheVariants as replies

-- the table of a data command that has one
abbrev pub table_of : Command → Option ℕ
table_of (commands.Get table key) = Some table
table_of (commands.Part table key column offset len) = Some table
table_of (commands.Open handle table key column) = Some table
table_of (commands.Insert table key row) = Some table
table_of (commands.Update table key sets) = Some table
table_of (commands.Delete table key) = Some table
table_of (commands.Rekey table from to sets) = Some table
table_of command = None

-- a transaction with its copy taken: a repeatable read transaction without one takes a copy of the committed rows, and no place has been changed since
abbrev pub with_copy : Rows → Transaction → Level → Option Rows → Transaction
with_copy latest t levels.Rc base = t
with_copy latest t levels.Rr None = record t { base = Some latest; since = [] }
with_copy latest t levels.Rr (Some base) = t

-- a transaction that uses a table, with its copy taken
abbrev pub with_use : Plain → Transaction → ℕ → Transaction
with_use m t table = let copied = with_copy m.latest t t.level t.base in record copied { used = copied.used ++ table ∷ [] }

-- the state once a data command has used its table: an open transaction that is not locked uses it and takes its copy, all else stays
abbrev pub once_used : Plain → ℕ → Session → Option ℕ → Plain
once_used m s (Open t) (Some table) = if is_some (rewriter_of m s table) then m else with_session m s (Open (with_use m t table))
once_used m s session table = m

-- the state with a session's transaction in place of what it was
abbrev pub with_transaction : Plain → ℕ → Transaction → Plain
with_transaction m s t = with_session m s (Open t)

-- the transaction with one change more
abbrev pub with_change : Transaction → Change → Transaction
with_change t change = record t { changes = t.changes ++ change ∷ [] }

-- what another session is after a commit of these changes: an open transaction with a copy remembers them
abbrev pub told_by : List Change → Session → Session
told_by changes Outside = Outside
told_by changes Failed = Failed
told_by changes (Open t) = Open (if is_some t.base then record t { since = t.since ++ keys_of changes } else t)

-- the state after a commit: the changes are made on the committed rows, each other session is told, and the session is outside
abbrev pub committed : Plain → ℕ → Plain
committed m s =
    let changes = (transaction_of (session_of m s)).changes in
    with_session (record m { latest = fold_changes changes m.latest; sessions = mapped (told_by changes) m.sessions }) s Outside

-- the state with a session's upkeep added
abbrev pub with_upkeep : Plain → ℕ → ℕ → Upkeep → Plain
with_upkeep m s table kind = record m { upkeep = m.upkeep ++ (record { session = s; table = table; kind = kind }) ∷ [] }

-- the state after a granted command, once its table is used, where t is the session's transaction
abbrev pub effect : Plain → ℕ → Transaction → Command → Plain
effect m s t (commands.Begin level) = with_transaction m s (new_transaction level)
effect m s t commands.Commit = committed m s
effect m s t commands.Rollback = with_session m s Outside
effect m s t (commands.Get table key) = m
effect m s t (commands.Part table key column offset len) = m
effect m s t (commands.Open handle table key column) =
    let bytes = unwrap_or (value_at (row_at (view_of m t) (place table key)) column) [] in
    with_transaction m s (record t { handles = map.insert t.handles handle bytes })
effect m s t (commands.Fetch handle offset len) = m
effect m s t (commands.Close handle) = with_transaction m s (record t { handles = map.remove t.handles handle })
effect m s t (commands.Insert table key row) = with_transaction m s (with_change t (Insert table key row))
effect m s t (commands.Update table key sets) =
    with_transaction m s (with_change t (Update table key (row_with (row_at (view_of m t) (place table key)) sets)))
effect m s t (commands.Delete table key) = with_transaction m s (with_change t (Remove table key))
effect m s t (commands.Rekey table from to sets) =
    with_transaction m s (with_change t (Move table from to (row_with (row_at (view_of m t) (place table from)) sets)))
effect m s t (commands.VacuumMain table) = with_upkeep m s table Main
effect m s t (commands.VacuumToast table) = with_upkeep m s table Toast
effect m s t (commands.Rewrite table) = with_upkeep m s table Rewrite

-- a session after its transaction has failed, if it has one open
abbrev pub failed_session : Session → Session
failed_session Outside = Outside
failed_session Failed = Failed
failed_session (Open t) = Failed

-- the state with a session's open transaction failed: its changes, copy, uses and handles are gone
abbrev pub with_failure : Plain → ℕ → Plain
with_failure m s = with_session m s (failed_session (session_of m s))

-- the state after a refusal: a commit of a failed transaction leaves it, some refusals fail the transaction, the others change nothing
abbrev pub refused : Plain → ℕ → Reply → Plain
refused m s replies.RolledBack = with_session m s Outside
refused m s reply = if fails reply then with_failure m s else m

-- the state after a command with this reply, once its table is used
abbrev pub settled : Plain → ℕ → Command → Reply → Plain
settled m s command reply =
    if is_granted reply then effect m s (transaction_of (session_of m s)) command else refused m s reply

-- the plain store's answer to session s: each command at one moment
abbrev pub answer : List TableSchema → Plain → ℕ → Command → Answered
answer schemas m s command =
    let in_use = once_used m s (session_of m s) (table_of command) in
    let reply = reply_of schemas in_use s command in
    record { reply = reply; after = settled in_use s command reply }
