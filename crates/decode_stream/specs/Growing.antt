-- How a log decodes entry by entry: what one entry more makes of what the entries before it tell.
use Rattle.std.specs.Prelude.{◌≡◌, ℕ, ℤ, ◌&&◌, ◌==◌, if◌then◌else◌, List, [], ◌∷◌, ◌++◌, map, filter, filter_map, Option, Some, None, is_none}
use Rattle.std.specs.List.{cons_option}
use Rattle.std.specs.Option.{option_or}
use Rattle.std.specs.Ordering.{int_eq}
use Rattle.tuple_layout.specs.declared.cell.Cell.{Cell}
use Rattle.change_log.specs.declared.entry.LogEntry.{LogEntry}
use Rattle.change_log.specs.declared.entry.LogEntry.TheVariants.{Chunk, Insert, Update, Delete, Commit, Abort}
use Rattle.stream_wire.specs.declared.message.Message.{Message}
use Rattle.stream_wire.specs.declared.message.Message.TheVariants as messages
use Rattle.decode_stream.specs.declared.fault.DecodeFault.{DecodeFault}
use Rattle.decode_stream.specs.Decoding.{Found, xid_of, open_entries, gathered, changes_of, column_of, cell_fault, first, order_fault, unless_none, first_fault, commits}
use Rattle.decode_stream.specs.States.{DecoderState, Decodes, Fits}
use Rattle.decode_stream.specs.Steps.{more_of}

-- what is known of the entries so far: of each xid's open transaction the changes and the values gathered since the last of them; the changes of the transactions that committed; the first fault
pub record Progress : Type 0 where
  pub changes : ℕ → List Message
  pub values : ℕ → Found
  pub sent : List (List Message)
  pub fault : Option DecodeFault

-- nothing is gathered
abbrev pub none_found : Found
none_found table value_id = None

-- of no entries
abbrev pub no_progress : Progress
no_progress = record { changes = λ xid. []; values = λ xid. none_found; sent = []; fault = None }

-- of a log
abbrev pub progress_of : List LogEntry → Progress
progress_of log = record {
  changes = λ xid. changes_of (open_entries xid log);
  values = λ xid. gathered (open_entries xid log);
  sent = commits log;
  fault = first_fault log;
}

-- the same with another value for one xid
abbrev pub with_at : {X : Type 0} → ℕ → X → (ℕ → X) → ℕ → X
with_at xid x at q = if xid == q then x else at q

-- a chunk more of a value
abbrev pub with_chunk : ℕ → ℕ → List ℕ → Found → Found
with_chunk table value_id bytes found t v = if (table == t) && (value_id == v) then Some (more_of (found t v) bytes) else found t v

-- a transaction has gathered a chunk
abbrev pub with_gathered : ℕ → ℕ → ℕ → List ℕ → Progress → Progress
with_gathered xid table value_id bytes p = record p { values = with_at xid (with_chunk table value_id bytes (p.values xid)) p.values }

-- a transaction has changed a row, and what it gathered is dropped
abbrev pub with_change : ℕ → Message → Progress → Progress
with_change xid message p = record p {
  changes = with_at xid (p.changes xid ++ message ∷ []) p.changes;
  values = with_at xid none_found p.values;
}

-- a transaction has ended, and all of it is dropped
abbrev pub with_end : ℕ → Progress → Progress
with_end xid p = record p {
  changes = with_at xid [] p.changes;
  values = with_at xid none_found p.values;
}

-- a transaction has committed: it is sent, if it has a change and there was no fault
abbrev pub with_commit : ℕ → Progress → Progress
with_commit xid p = record p { sent = if is_none p.fault then p.sent ++ cons_option (unless_none (p.changes xid)) [] else p.sent }

-- a fault, which counts if it is the first
abbrev pub with_fault : Option DecodeFault → Progress → Progress
with_fault fault p = record p { fault = option_or p.fault fault }

-- the fault of a row: that of the first cell that has one
abbrev pub row_fault : Found → ℕ → List Cell → Option DecodeFault
row_fault found table row = first (filter_map (cell_fault found table) row)

-- what is sent of an update: one that keeps its key is no move
abbrev pub update_of : Found → ℕ → ℤ → ℤ → List Cell → Message
update_of found table from to row = if int_eq from to then messages.Update table from (map (column_of found table) row) else messages.Move table from to (map (column_of found table) row)

-- what one entry more makes of it
abbrev pub progress_after : Progress → LogEntry → Progress
progress_after p (Chunk xid table value_id seq bytes) = with_fault (order_fault (p.values xid table value_id) seq) (with_gathered xid table value_id bytes p)
progress_after p (Insert xid table key row) = with_fault (row_fault (p.values xid) table row) (with_change xid (messages.Insert table key (map (column_of (p.values xid) table) row)) p)
progress_after p (Update xid table from to row) = with_fault (row_fault (p.values xid) table row) (with_change xid (update_of (p.values xid) table from to row) p)
progress_after p (Delete xid table key) = with_change xid (messages.Delete table key) p
progress_after p (Commit xid) = with_end xid (with_commit xid p)
progress_after p (Abort xid) = with_end xid p

-- the entries of an xid
abbrev pub own_entries : ℕ → List LogEntry → List LogEntry
own_entries xid log = filter (λ entry. xid_of entry == xid) log

-- xs begins with front
abbrev pub BeginsWith : {X : Type 0} → List X → List X → Type 0
BeginsWith {X} xs front = (more : List X) × (xs ≡ front ++ more)

-- an entry is within its ranges after a log
abbrev pub FitsAfter : List LogEntry → LogEntry → Type 0
FitsAfter log e = Fits (gathered (open_entries (xid_of e) log)) e

-- an entry is within its ranges after the entries that a decoder was fed
abbrev pub FitsFed : DecoderState → LogEntry → Type 0
FitsFed state e = (log : List LogEntry) × Decodes state log × FitsAfter log e
