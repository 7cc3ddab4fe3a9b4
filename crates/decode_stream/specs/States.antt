-- A decoder as contracts see it, and the log for which it stands.
use Rattle.std.specs.Prelude.{◌≡◌, ℕ, ◌+◌, ◌<◌, ◌≤◌, ◌^◌, Bool, ◌&&◌, ◌==◌, nat_eq, List, [], ◌∷◌, ◌++◌, length, Option, Some, None, Result, Ok, Err}
use Rattle.std.specs.List.{All}
use Rattle.std.specs.Map.{lookup}
use Rattle.change_log.specs.declared.entry.LogEntry.{LogEntry}
use Rattle.change_log.specs.declared.entry.LogEntry.TheVariants.{Chunk, Insert, Update, Delete}
use Rattle.tuple_layout.specs.declared.cell.Cell.{Cell}
use Rattle.tuple_layout.specs.declared.cell.Cell.TheVariants as cells
use Rattle.stream_wire.specs.Spelling.{IsTable}
use Rattle.stream_wire.specs.declared.message.Message.{Message}
use Rattle.decode_stream.specs.declared.fault.DecodeFault.{DecodeFault}
use Rattle.decode_stream.specs.declared.fault.DecodeFault.TheVariants.{Memory}
use Rattle.decode_stream.specs.declared.gathered.ValueName.{ValueName}
use Rattle.decode_stream.specs.Decoding.{TransactionState, GatheredValue, Found, xid_of, gathered, open_entries, changes_of, first_fault, commits, commit_at, decode}

-- the values that are gathered, by their names
abbrev pub Values : Type 0
Values = List (ValueName × GatheredValue)

-- the name of a table's value id
abbrev pub value_name : ℕ → ℕ → ValueName
value_name table value_id = record { table = table; value_id = value_id }

-- two names are one
abbrev pub same_name : ValueName → ValueName → Bool
same_name a b = (a.table == b.table) && (a.value_id == b.value_id)

-- what is gathered of a table's value id
abbrev pub found_in : Values → Found
found_in values table value_id = lookup (same_name (value_name table value_id)) values

-- with a chunk more a value's numbers fit 32 bits
abbrev pub HasRoom : Option GatheredValue → List ℕ → Type 0
HasRoom None bytes = length bytes < 2 ^ 32
HasRoom (Some value) bytes = (value.chunks + 1 < 2 ^ 32) × (length value.bytes + length bytes < 2 ^ 32)

-- a cell whose value or size a message can tell
abbrev pub IsShortCell : Cell → Type 0
IsShortCell cells.Null = Unit {0}
IsShortCell (cells.Inline value) = length value ≤ 65536
IsShortCell (cells.Out p) = p.size ≤ 65536

-- 1 to 8 such cells
abbrev pub AreCells : List Cell → Type 0
AreCells row = (1 ≤ length row) × (length row ≤ 8) × All IsShortCell row

-- an entry that can be decoded after what was gathered for its transaction
abbrev pub Fits : Found → LogEntry → Type 0
Fits found (Chunk xid table value_id seq bytes) = IsTable table × HasRoom (found table value_id) bytes
Fits found (Insert xid table key row) = IsTable table × AreCells row
Fits found (Update xid table from to row) = IsTable table × AreCells row
Fits found (Delete xid table key) = IsTable table
Fits found entry = Unit {0}

-- an open transaction: its changes so far, and the values gathered since the last
pub record OpenState : Type 0 where
  pub changes : List Message
  pub values : Values

-- the open transactions, by their xids
abbrev pub OpenList : Type 0
OpenList = List (ℕ × OpenState)

-- the open transaction of an xid
abbrev pub open_at : OpenList → ℕ → Option OpenState
open_at table xid = lookup (nat_eq xid) table

-- the values gathered for a transaction, if it is open
abbrev pub found_of : Option OpenState → Found
found_of None table value_id = None
found_of (Some state) table value_id = found_in state.values table value_id

-- the open transactions, how many transactions were given, and the first fault
pub record DecoderState : Type 0 where
  pub table : OpenList
  pub given : ℕ
  pub fault : Option DecodeFault

-- an open transaction has what these entries of it make
pub record IsOpen (state : OpenState) (own : List LogEntry) : Type 0 where
  pub changes : state.changes ≡ changes_of own
  pub values : (table value_id : ℕ) → found_in state.values table value_id ≡ gathered own table value_id

-- a transaction that is not in the table has no entries since its last end
abbrev pub IsOpenAt : Option OpenState → List LogEntry → Type 0
IsOpenAt None own = own ≡ []
IsOpenAt (Some state) own = IsOpen state own

-- the open transactions are those of a log
abbrev pub AreOpen : OpenList → List LogEntry → Type 0
AreOpen table log = (xid : ℕ) → IsOpenAt (open_at table xid) (open_entries xid log)

-- a decoder that was fed these entries
pub record Decodes (state : DecoderState) (log : List LogEntry) : Type 0 where
  pub fault : state.fault ≡ first_fault log
  pub given : state.given ≡ length (commits log)
  pub table : first_fault log ≡ None → AreOpen state.table log

-- a transaction with the next number, if an entry commits changes
abbrev pub next_of : ℕ → Option (List Message) → Option TransactionState
next_of given None = None
next_of given (Some changes) = Some (record { number = given + 1; changes = changes })

-- what feeding an entry after a log answers: the transaction that it commits, or the first fault; and the decoder was then fed it too
abbrev pub Feeds : List LogEntry → LogEntry → DecoderState → Result (Option TransactionState) DecodeFault → Type 0
Feeds log e new (Ok given) = (first_fault (log ++ e ∷ []) ≡ None) × (given ≡ next_of (length (commits log)) (commit_at (log, e))) × Decodes new (log ++ e ∷ [])
Feeds log e new (Err Memory) = Unit {0}
Feeds log e new (Err fault) = (first_fault (log ++ e ∷ []) ≡ Some fault) × Decodes new (log ++ e ∷ [])

-- want of memory leaves all as it was
abbrev pub Stays : {X : Type 0} → DecoderState → DecoderState → Result X DecodeFault → Type 0
Stays old new (Ok x) = Unit {0}
Stays old new (Err Memory) = new ≡ old
Stays old new (Err fault) = Unit {0}

-- the entries of a log can be decoded, and give fewer than 2 ^ 32 - 1 transactions
pub record IsDecodable (log : List LogEntry) : Type 0 where
  pub count : length (commits log) + 1 < 2 ^ 32
  pub fits : (before : List LogEntry) (e : LogEntry) (rest : List LogEntry) → log ≡ before ++ e ∷ rest → Fits (gathered (open_entries (xid_of e) before)) e

-- what decoding a log answers: its transactions, or its first fault
abbrev pub IsDecoded : List LogEntry → Result (List TransactionState) DecodeFault → Type 0
IsDecoded log (Ok sent) = decode log ≡ Ok sent
IsDecoded log (Err Memory) = Unit {0}
IsDecoded log (Err fault) = decode log ≡ Err fault
