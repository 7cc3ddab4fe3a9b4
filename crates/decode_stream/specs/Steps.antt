-- What one step of decoding makes of what is kept; what the private functions' clauses cite.
use Rattle.std.specs.Prelude.{◌≡◌, ℕ, ℤ, ◌+◌, cond, nat_eq, if◌then◌else◌, List, [], ◌∷◌, ◌++◌, Option, Some, None, Result, Ok, Err}
use Rattle.std.specs.Ordering.{int_eq}
use Rattle.change_log.specs.declared.entry.LogEntry.{LogEntry}
use Rattle.stream_wire.specs.declared.message.Message.{Message}
use Rattle.stream_wire.specs.declared.message.Message.TheVariants as messages
use Rattle.stream_wire.specs.declared.message.Sent.{Sent as Column}
use Rattle.decode_stream.specs.declared.fault.DecodeFault.{DecodeFault}
use Rattle.decode_stream.specs.declared.fault.DecodeFault.TheVariants.{Memory}
use Rattle.decode_stream.specs.declared.gathered.ValueName.{ValueName}
use Rattle.decode_stream.specs.Decoding.{TransactionState, GatheredValue, unless_none, first_fault, commits, numbered}
use Rattle.decode_stream.specs.States.{OpenState, OpenList, DecoderState, IsOpen, Decodes, open_at, same_name}

-- a value with one chunk more
abbrev pub more_of : Option GatheredValue → List ℕ → GatheredValue
more_of None bytes = record { chunks = 1; bytes = bytes }
more_of (Some value) bytes = record { chunks = value.chunks + 1; bytes = value.bytes ++ bytes }

-- a value is put at a name, and each other name has what it had
abbrev pub IsPut : (ValueName → Option GatheredValue) → (ValueName → Option GatheredValue) → ValueName → GatheredValue → Type 0
IsPut old new name value = (q : ValueName) → new q ≡ cond (same_name name q) (Some value) (old q)

-- the value at a name has one chunk more, and each other name has what it had
abbrev pub IsGathered : (ValueName → Option GatheredValue) → (ValueName → Option GatheredValue) → ValueName → List ℕ → Type 0
IsGathered old new name bytes = IsPut old new name (more_of (old name) bytes)

-- the message of an update, which tells both keys where they differ
abbrev pub update_message : ℕ → ℤ → ℤ → List Column → Message
update_message table from to columns = if int_eq from to then messages.Update table from columns else messages.Move table from to columns

-- what ending a transaction gives: its changes, if it has any
abbrev pub ended : Option OpenState → Option (List Message)
ended None = None
ended (Some state) = unless_none state.changes

-- a transaction with one entry is put into a table
abbrev pub Starts : OpenList → OpenList → ℕ → LogEntry → Type 0
Starts old new xid e = (state : OpenState) × IsOpen state (e ∷ []) × ((q : ℕ) → open_at new q ≡ (if nat_eq xid q then Some state else open_at old q))

-- a result tells the first fault, or that there is none; want of memory tells nothing
abbrev pub Tells : {X : Type 0} → Option DecodeFault → Result X DecodeFault → Type 0
Tells fault (Ok x) = fault ≡ None
Tells fault (Err Memory) = Unit {0}
Tells fault (Err other) = fault ≡ Some other

-- how many transactions are given after what an entry commits
abbrev pub given_after : ℕ → Option (List Message) → ℕ
given_after given None = given
given_after given (Some changes) = given + 1

-- the fault that a decoder keeps: any but want of memory
abbrev pub lasting : DecodeFault → Option DecodeFault
lasting Memory = None
lasting fault = Some fault

-- a decoder was fed a log without a fault, and these are its transactions
pub record IsSent (state : DecoderState) (transactions : List TransactionState) (log : List LogEntry) : Type 0 where
  pub decodes : Decodes state log
  pub sound : first_fault log ≡ None
  pub sent : transactions ≡ numbered 1 (commits log)

-- whatever log was fed, and its transactions sent, an entry goes the same way behind it
abbrev pub Sends : DecoderState → List TransactionState → DecoderState → List TransactionState → LogEntry → Type 0
Sends old sent new sent' e = (log : List LogEntry) → IsSent old sent log → IsSent new sent' (log ++ e ∷ [])
