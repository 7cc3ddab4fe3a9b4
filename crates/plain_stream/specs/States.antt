-- What the program keeps, as the stream's definitions see it.
use Rattle.std.specs.Prelude.{ℕ, Bool, List, [], ◌∷◌, ◌++◌, ◌==◌, drop, length, take, map as mapped, if◌then◌else◌}
use Rattle.std.specs.Option.{option_map_or}
use Rattle.std.specs.FinMap as map
use Rattle.tuple_layout.specs.declared.Place.{Place}
use Rattle.tuple_layout.specs.Places.{Rows, same_place}
use Rattle.tuple_layout.specs.Schemas.{TableSchema}
use Rattle.command_set.specs.declared.Command.{Command}
use Rattle.command_set.specs.declared.Command.TheVariants as commands
use Rattle.command_set.specs.declared.JournalEntry.{JournalEntry}
use Rattle.command_set.specs.declared.Kind.{Kind}
use Rattle.command_set.specs.declared.Kind.TheVariants as kinds
use Rattle.command_set.specs.declared.journal.Run.{Run}
use Rattle.command_set.specs.declared.state.Answered.{Answered}
use Rattle.command_set.specs.declared.Script.{Script}
use Rattle.command_set.specs.declared.state.Change.{Change}
use Rattle.command_set.specs.declared.state.Plain.{Plain}
use Rattle.command_set.specs.Journals.{Moment, moment_at}
use Rattle.command_set.specs.Replies.{schema_of}
use Rattle.change_stream.specs.declared.written.Written.{Written}
use Rattle.change_stream.specs.Sets.{out_beside}
use Rattle.change_stream.specs.Streams.{Stream, put_by, written_as}
use Rattle.plain_stream.specs.declared.commits.Streamed.{Streamed}
use Rattle.plain_stream.specs.declared.outs.OutEdit.{OutEdit}
use Rattle.plain_stream.specs.declared.outs.OutEdit.TheVariants.{Put, Rewritten}

-- whether an edit tells of a place
abbrev pub tells : OutEdit → Place → Bool
tells (Put q columns) p = same_place p q
tells (Rewritten table rows) p = table == p.table

-- the columns that an edit leaves out of line at a place of which it tells
abbrev pub outs_by : List TableSchema → OutEdit → Place → List ℕ
outs_by schemas (Put q columns) p = columns
outs_by schemas (Rewritten table rows) p = option_map_or (λ row. out_beside (schema_of schemas p.table).storages row []) (map.get rows p) []

-- the columns that are out of line at a place, by edits, the newest first
abbrev pub outs_in : List TableSchema → List OutEdit → Place → List ℕ
outs_in schemas [] p = []
outs_in schemas (edit ∷ edits) p = if tells edit p then outs_by schemas edit p else outs_in schemas edits p

-- the edits after one of these changes is committed, and after all of them
abbrev pub with_put : Written → List OutEdit → List OutEdit
with_put w edits = option_map_or (λ put. Put put.0 w.out ∷ edits) (put_by w.change) edits

abbrev pub with_puts : List Written → List OutEdit → List OutEdit
with_puts [] edits = edits
with_puts (w ∷ ws) edits = with_puts ws (with_put w edits)

-- the edits after a command's upkeep has ended, with these rows committed
abbrev pub with_ended : Command → Rows → List OutEdit → List OutEdit
with_ended (commands.Rewrite table) rows edits = Rewritten table rows ∷ edits
with_ended command rows edits = edits

-- the edits after an entry of this kind that commits nothing
abbrev pub with_kind : Kind → Command → Rows → List OutEdit → List OutEdit
with_kind kinds.End command rows edits = with_ended command rows edits
with_kind kind command rows edits = edits

-- a session's changes that are left of those before, and behind them those that are new, which keep these columns
abbrev pub next_written : Script → List ℕ → List Written → List Change → List Written
next_written script kept ws left = take (length left) ws ++ mapped (λ change. written_as script change kept) (drop (length ws) left)

-- what the program keeps beside the plain store
abbrev pub stream_in : List TableSchema → Streamed → Stream
stream_in schemas st = record { outs = outs_in schemas st.outs.items; written = st.written.items; sent = st.sent }

-- a run in a state, of which no clause here looks at more
abbrev pub run_at : Plain → Run
run_at m = record { plain = m; told = []; lines = [] }

-- the moment of what came of an entry's command; the stream does not look at the state before it
abbrev pub moment_with : JournalEntry → Command → Answered → Moment
moment_with e command came = moment_at came.after e command came
