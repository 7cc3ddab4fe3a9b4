-- The transactions that a log decodes to. PostgreSQL documentation, "Logical Decoding Concepts"; chunks as in reorderbuffer.c: in order (ReorderBufferToastAppendChunk), put together (ReorderBufferToastReplace), dropped (ReorderBufferToastReset).
use Rattle.std.specs.Prelude.{ℕ, ◌+◌, Bool, true, false, not, ◌&&◌, ◌==◌, if◌then◌else◌, List, [], ◌∷◌, ◌++◌, map, reverse, length, slice_get, filter, filter_map, flat_map, take_while, Option, Some, None, Result, Ok, Err, is_none}
use Rattle.std.specs.Ordering.{int_eq}
use Rattle.change_log.specs.declared.entry.LogEntry.{LogEntry}
use Rattle.change_log.specs.declared.entry.LogEntry.TheVariants.{Chunk, Insert, Update, Delete, Commit, Abort}
use Rattle.tuple_layout.specs.declared.cell.Cell.{Cell}
use Rattle.tuple_layout.specs.declared.cell.Cell.TheVariants as cells
use Rattle.stream_wire.specs.declared.message.Sent.{Sent as Column}
use Rattle.stream_wire.specs.declared.message.Sent.TheVariants as columns
use Rattle.stream_wire.specs.declared.message.Message.{Message}
use Rattle.stream_wire.specs.declared.message.Message.TheVariants as messages
use Rattle.decode_stream.specs.declared.fault.DecodeFault.{DecodeFault}
use Rattle.decode_stream.specs.declared.fault.DecodeFault.TheVariants.{ChunkOrder, SizeOf}

-- a transaction that is sent
pub record TransactionState : Type 0 where
  pub number : ℕ
  pub changes : List Message

-- a value as far as it is gathered: how many chunks, and their bytes
pub record GatheredValue : Type 0 where
  pub chunks : ℕ
  pub bytes : List ℕ

-- the values that are gathered, by table and value id
abbrev pub Found : Type 0
Found = ℕ → ℕ → Option GatheredValue

-- the transaction that an entry belongs to
abbrev pub xid_of : LogEntry → ℕ
xid_of (Chunk xid table value_id seq bytes) = xid
xid_of (Insert xid table key cells) = xid
xid_of (Update xid table from to cells) = xid
xid_of (Delete xid table key) = xid
xid_of (Commit xid) = xid
xid_of (Abort xid) = xid

-- an entry ends its transaction
abbrev pub is_end : LogEntry → Bool
is_end (Commit xid) = true
is_end (Abort xid) = true
is_end entry = false

-- an entry changes a row
abbrev pub is_change : LogEntry → Bool
is_change (Insert xid table key cells) = true
is_change (Update xid table from to cells) = true
is_change (Delete xid table key) = true
is_change entry = false

-- an entry is a chunk of this value
abbrev pub is_chunk_of : ℕ → ℕ → LogEntry → Bool
is_chunk_of table value_id (Chunk xid t v seq bytes) = (t == table) && (v == value_id)
is_chunk_of table value_id entry = false

-- the bytes of a chunk
abbrev pub chunk_bytes : LogEntry → List ℕ
chunk_bytes (Chunk xid table value_id seq bytes) = bytes
chunk_bytes entry = []

-- each item of xs with the items before it, where `before` stands before all
abbrev pub fronts_after : {X : Type 0} → List X → List X → List (List X × X)
fronts_after before [] = []
fronts_after before (x ∷ xs) = (before, x) ∷ fronts_after (before ++ x ∷ []) xs

-- each item of a list with the items before it
unfoldable pub with_fronts : {X : Type 0} → List X → List (List X × X)
with_fronts xs = fronts_after [] xs

-- the items behind the last one that passes a test
unfoldable pub behind_last : {X : Type 0} → (X → Bool) → List X → List X
behind_last test xs = reverse (take_while (λ x. not (test x)) (reverse xs))

-- the entries of an open transaction: those of its xid, behind the last that ended one of that xid
unfoldable pub open_entries : ℕ → List LogEntry → List LogEntry
open_entries xid log = behind_last is_end (filter (λ entry. xid_of entry == xid) log)

-- the value of chunks, if there are any
abbrev pub value_of : List LogEntry → Option GatheredValue
value_of [] = None
value_of (chunk ∷ chunks) = Some (record { chunks = length (chunk ∷ chunks); bytes = flat_map chunk_bytes (chunk ∷ chunks) })

-- the values gathered by a transaction's entries: from its chunks behind its last change of a row
unfoldable pub gathered : List LogEntry → Found
gathered own table value_id = value_of (filter (is_chunk_of table value_id) (behind_last is_change own))

-- what is sent of a value out of line: all of it where it was gathered
abbrev pub sent_value : Option GatheredValue → Column
sent_value None = columns.Unchanged
sent_value (Some value) = columns.Value value.bytes

-- what is sent of a cell
abbrev pub column_of : Found → ℕ → Cell → Column
column_of found table cells.Null = columns.Null
column_of found table (cells.Inline value) = columns.Value value
column_of found table (cells.Out p) = sent_value (found table p.value_id)

-- the change that is sent of an entry: an update that keeps its key is no move
abbrev pub change_of : Found → LogEntry → Option Message
change_of found (Insert xid table key cells) = Some (messages.Insert table key (map (column_of found table) cells))
change_of found (Update xid table from to cells) =
    let columns = map (column_of found table) cells in
    Some (if int_eq from to then messages.Update table from columns else messages.Move table from to columns)
change_of found (Delete xid table key) = Some (messages.Delete table key)
change_of found entry = None

-- the changes of a transaction's entries
unfoldable pub changes_of : List LogEntry → List Message
changes_of own = filter_map (λ p. change_of (gathered p.0) p.1) (with_fronts own)

-- how many chunks of a value are gathered: the place of the next one
abbrev pub count_of : Option GatheredValue → ℕ
count_of None = 0
count_of (Some value) = value.chunks

-- the fault of a chunk that is not the next one of its value
abbrev pub order_fault : Option GatheredValue → ℕ → Option DecodeFault
order_fault value seq = if seq == count_of value then None else Some (ChunkOrder seq (count_of value))

-- the fault of a gathered value that has not the size that its pointer says
abbrev pub size_fault : Option GatheredValue → ℕ → Option DecodeFault
size_fault None size = None
size_fault (Some value) size = if length value.bytes == size then None else Some (SizeOf (length value.bytes) size)

-- the fault of a cell: that of the value that it points to
abbrev pub cell_fault : Found → ℕ → Cell → Option DecodeFault
cell_fault found table (cells.Out p) = size_fault (found table p.value_id) p.size
cell_fault found table cell = None

-- the first of a list
abbrev pub first : {X : Type 0} → List X → Option X
first xs = slice_get xs 0

-- the fault of an entry
abbrev pub fault_of : Found → LogEntry → Option DecodeFault
fault_of found (Chunk xid table value_id seq bytes) = order_fault (found table value_id) seq
fault_of found (Insert xid table key cells) = first (filter_map (cell_fault found table) cells)
fault_of found (Update xid table from to cells) = first (filter_map (cell_fault found table) cells)
fault_of found entry = None

-- changes, if there are any
abbrev pub unless_none : List Message → Option (List Message)
unless_none [] = None
unless_none (change ∷ changes) = Some (change ∷ changes)

-- the changes that an entry commits, of the entries of its transaction before it; none is no transaction
abbrev pub committed : List LogEntry → LogEntry → Option (List Message)
committed own (Commit xid) = unless_none (changes_of own)
committed own entry = None

-- an entry's fault, after the log before it
abbrev pub fault_at : List LogEntry × LogEntry → Option DecodeFault
fault_at p = fault_of (gathered (open_entries (xid_of p.1) p.0)) p.1

-- what an entry commits, after the log before it
abbrev pub commit_at : List LogEntry × LogEntry → Option (List Message)
commit_at p = committed (open_entries (xid_of p.1) p.0) p.1

-- the first fault of a log
unfoldable pub first_fault : List LogEntry → Option DecodeFault
first_fault log = first (filter_map fault_at (with_fronts log))

-- the changes of the transactions that commit before the first fault, in the order of their commits
unfoldable pub commits : List LogEntry → List (List Message)
commits log = filter_map commit_at (take_while (λ p. is_none (fault_at p)) (with_fronts log))

-- lists of changes as transactions, with their numbers from n on
abbrev pub numbered : ℕ → List (List Message) → List TransactionState
numbered n [] = []
numbered n (changes ∷ rest) = record { number = n; changes = changes } ∷ numbered (n + 1) rest

-- transactions, or a fault in their place
abbrev pub decoded : Option DecodeFault → List TransactionState → Result (List TransactionState) DecodeFault
decoded None sent = Ok sent
decoded (Some fault) sent = Err fault

-- the transactions of a log, or its first fault
abbrev pub decode : List LogEntry → Result (List TransactionState) DecodeFault
decode log = decoded (first_fault log) (numbered 1 (commits log))
