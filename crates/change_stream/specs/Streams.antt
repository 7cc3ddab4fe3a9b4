-- The change stream of a journal, told by its moments: what each commit sends.
use Rattle.std.specs.Prelude.{ℕ, ◌-◌, Bool, true, false, List, [], ◌∷◌, ◌++◌, Option, Some, None, length, take, drop, map as mapped, slice_set, replicate, ◌==◌, ◌&&◌, is_none, if◌then◌else◌}
use Rattle.std.specs.List.{filter, enumerate_from}
use Rattle.std.specs.Option.{option_map_or, option_or, unwrap_or}
use Rattle.std.specs.FinMap as map
use Rattle.tuple_layout.specs.declared.Place.{Place}
use Rattle.tuple_layout.specs.Places.{Row, same_place}
use Rattle.tuple_toaster.specs.Pushed.{is_among}
use Rattle.command_set.specs.declared.Command.{Command}
use Rattle.command_set.specs.declared.Command.TheVariants as commands
use Rattle.command_set.specs.declared.JournalEntry.{JournalEntry}
use Rattle.command_set.specs.declared.Kind.{Kind}
use Rattle.command_set.specs.declared.Kind.TheVariants as kinds
use Rattle.command_set.specs.declared.Script.{Script}
use Rattle.command_set.specs.declared.Set.{Set}
use Rattle.command_set.specs.declared.state.Change.{Change}
use Rattle.command_set.specs.declared.state.Change.TheVariants as changes
use Rattle.command_set.specs.declared.state.Plain.{Plain}
use Rattle.command_set.specs.Changes.{place}
use Rattle.command_set.specs.Plain.{nth, session_of, value_set}
use Rattle.command_set.specs.Replies.{is_granted, open_transaction, schema_of}
use Rattle.command_set.specs.Journals.{Moment, is_run, moments}
use Rattle.stream_wire.specs.Transactions as wire
use Rattle.stream_wire.specs.declared.message.Message.{Message}
use Rattle.stream_wire.specs.declared.message.Message.TheVariants as messages
use Rattle.stream_wire.specs.declared.message.Sent.{Sent}
use Rattle.stream_wire.specs.declared.message.Sent.TheVariants as sent
use Rattle.change_stream.specs.declared.written.Written.{Written}
use Rattle.change_stream.specs.Sets.{out_beside}

-- what is told beside the plain store: the columns of each place's committed row that are out of line, each session's changes, and the transactions that are sent
pub record Stream : Type 0 where
  pub outs : Place → List ℕ
  pub written : List (List Written)
  pub sent : List (List Written)

-- before the first entry
abbrev pub first_stream : ℕ → Stream
first_stream sessions = record { outs = λ p. []; written = replicate sessions []; sent = [] }

-- the changes of a session, each with its columns
abbrev pub written_of : Stream → ℕ → List Written
written_of st s = unwrap_or (nth st.written s) []

-- the row that a change puts, with its place
abbrev pub put_by : Change → Option (Place × Row)
put_by (changes.Insert t k row) = Some (place t k, row)
put_by (changes.Update t k row) = Some (place t k, row)
put_by (changes.Move t from to row) = Some (place t to, row)
put_by (changes.Remove t k) = None

-- whether a change puts a row at a place
abbrev pub puts_at : Change → Place → Bool
puts_at change p = option_map_or (λ put. same_place p put.0) (put_by change) false

-- the columns that the last of these changes which puts a row at a place leaves out of line there
abbrev pub last_out : List Written → Place → Option (List ℕ)
last_out [] p = None
last_out (w ∷ ws) p = option_or (last_out ws p) (if puts_at w.change p then Some w.out else None)

-- the columns that are out of line at a place after these changes
abbrev pub outs_with : (Place → List ℕ) → List Written → Place → List ℕ
outs_with outs ws p = unwrap_or (last_out ws p) (outs p)

-- the columns that an update does not set
abbrev pub unset : List Set → List ℕ → List ℕ
unset sets columns = filter (λ column. is_none (value_set sets column)) columns

-- the columns that a command's change keeps out of line, by those that are out of line at each place for its session
abbrev pub kept_by : Command → (Place → List ℕ) → List ℕ
kept_by (commands.Update table key sets) outs = unset sets (outs (place table key))
kept_by (commands.Rekey table from to sets) outs = unset sets (outs (place table from))
kept_by command outs = []

-- a change with its columns, where it keeps these
abbrev pub written_as : Script → Change → List ℕ → Written
written_as script change kept = record {
  change = change;
  kept = kept;
  out = option_map_or (λ put. out_beside (schema_of script.schemas put.0.table).storages put.1 kept) (put_by change) [];
}

-- the changes of a session's open transaction
abbrev pub changes_of : Plain → ℕ → List Change
changes_of m s = option_map_or (λ t. t.changes) (open_transaction (session_of m s)) []

-- a session's changes after a moment: those that are left of the ones before, and the one that the moment made
abbrev pub written_after : Script → Stream → Moment → List Written
written_after script st x =
    let ws = written_of st x.entry.session in
    let left = changes_of x.after x.entry.session in
    let kept = kept_by x.command (outs_with st.outs ws) in
    take (length left) ws ++ mapped (λ change. written_as script change kept) (drop (length ws) left)

-- whether a command is a commit
abbrev pub is_commit : Command → Bool
is_commit commands.Commit = true
is_commit command = false

-- whether a moment is a granted commit
abbrev pub commits : Moment → Bool
commits x = is_run x.entry.kind && (is_commit x.command && is_granted x.reply)

-- whether a command rewrites a table
abbrev pub is_rewrite_of : ℕ → Command → Bool
is_rewrite_of table (commands.Rewrite t) = t == table
is_rewrite_of table command = false

-- whether an entry tells of upkeep's end
abbrev pub is_end : Kind → Bool
is_end kinds.End = true
is_end kind = false

-- whether a moment is the end of a table's rewrite
abbrev pub rewrites : Moment → ℕ → Bool
rewrites x table = is_end x.entry.kind && is_rewrite_of table x.command

-- the columns that are out of line after a moment: a commit carries those of its changes over, and the end of a rewrite chooses anew for each committed row of its table
abbrev pub outs_after : Script → Stream → Moment → Place → List ℕ
outs_after script st x p =
    if commits x then outs_with st.outs (written_of st x.entry.session) p
    else if rewrites x p.table then option_map_or (λ row. out_beside (schema_of script.schemas p.table).storages row []) (map.get x.after.latest p) []
    else st.outs p

-- the transactions that are sent after a commit: one more, if it has a change
abbrev pub with_sent : List (List Written) → List Written → List (List Written)
with_sent transactions [] = transactions
with_sent transactions (w ∷ ws) = transactions ++ (w ∷ ws) ∷ []

-- what is told after one moment more
abbrev pub stream_after : Script → Stream → Moment → Stream
stream_after script st x = record {
  outs = outs_after script st x;
  written = slice_set st.written (x.entry.session - 1) (written_after script st x);
  sent = if commits x then with_sent st.sent (written_of st x.entry.session) else st.sent;
}

-- what is told after these moments
abbrev pub stream_through : Script → Stream → List Moment → Stream
stream_through script st [] = st
stream_through script st (x ∷ xs) = stream_through script (stream_after script st x) xs

-- a value as it is sent
abbrev pub sent_value : Option (List ℕ) → Sent
sent_value None = sent.Null
sent_value (Some bytes) = sent.Value bytes

-- a row's columns as they are sent: those that are kept out of line as unchanged, the others with their values
abbrev pub sent_row : List ℕ → Row → List Sent
sent_row kept row = mapped (λ (column, value). if is_among kept column then sent.Unchanged else sent_value value) (enumerate_from 1 row)

-- a change as it is sent
abbrev pub message_by : Change → List ℕ → Message
message_by (changes.Insert t k row) kept = messages.Insert t k (sent_row kept row)
message_by (changes.Update t k row) kept = messages.Update t k (sent_row kept row)
message_by (changes.Move t from to row) kept = messages.Move t from to (sent_row kept row)
message_by (changes.Remove t k) kept = messages.Delete t k

abbrev pub message_of : Written → Message
message_of w = message_by w.change w.kept

-- a transaction as it is sent, with its number
abbrev pub transaction : ℕ × List Written → List Message
transaction (number, ws) = wire.transaction (number, mapped message_of ws)

-- the changes of each transaction as they are sent
abbrev pub sent_changes : List (List Written) → List (List Message)
sent_changes transactions = mapped (λ ws. mapped message_of ws) transactions

-- transactions in order, numbered from 1
abbrev pub messages_of : List (List Written) → List Message
messages_of transactions = wire.messages_of (sent_changes transactions)

-- the transactions that a journal sends
abbrev pub transactions : Script → List JournalEntry → List (List Written)
transactions script journal = (stream_through script (first_stream (length script.sessions)) (moments script journal)).sent

-- the messages that a journal sends
abbrev pub stream : Script → List JournalEntry → List Message
stream script journal = messages_of (transactions script journal)
