-- What holds of each log that grows, whatever is in it.
use Rattle.std.specs.Prelude.{◌≡◌, ◌↔◌, ℕ, ◌+◌, ◌<◌, ◌≤◌, ◌^◌, false, true, List, [], ◌∷◌, ◌++◌, length, Some, None}
use Rattle.std.specs.List.{All}
use Rattle.tuple_layout.specs.declared.cell.Cell.{Cell}
use Rattle.change_log.specs.declared.entry.LogEntry.{LogEntry}
use Rattle.stream_wire.specs.declared.message.Message.{Message}
use Rattle.stream_wire.specs.Transactions as wire
use Rattle.decode_stream.specs.declared.fault.DecodeFault.{DecodeFault}
use Rattle.decode_stream.specs.Decoding.{TransactionState, Found, is_end, open_entries, cell_fault, first_fault, commits, numbered}
use Rattle.decode_stream.specs.States.{IsDecodable}
use Rattle.decode_stream.specs.Growing.{BeginsWith, FitsAfter, no_progress, own_entries, progress_after, progress_of, row_fault}
use Rattle.decode_stream.specs.Messages.{all_messages, messages_of}

-- what is known of a log is made entry by entry
pub record GrowsByEntries : Type 0 where
  pub none : progress_of [] ≡ no_progress
  pub more : (log : List LogEntry) (e : LogEntry) → progress_of (log ++ e ∷ []) ≡ progress_after (progress_of log) e

-- what was sent and found stays: a log's transactions begin with those of each of its fronts, and a front's fault is the log's, behind which nothing is sent
pub record FrontsStay : Type 0 where
  pub sent : (log rest : List LogEntry) → BeginsWith (commits (log ++ rest)) (commits log)
  pub fault : (log rest : List LogEntry) (fault : DecodeFault) → first_fault log ≡ Some fault → first_fault (log ++ rest) ≡ Some fault
  pub after : (log rest : List LogEntry) (fault : DecodeFault) → first_fault log ≡ Some fault → commits (log ++ rest) ≡ commits log

-- what may be decoded stays so with an entry that is within its ranges, as long as the transactions are few enough; and it was so before
pub record DecodableGrows : Type 0 where
  pub none : IsDecodable []
  pub more : (log : List LogEntry) (e : LogEntry) → IsDecodable log → FitsAfter log e → length (commits (log ++ e ∷ [])) + 1 < 2 ^ 32 → IsDecodable (log ++ e ∷ [])
  pub less : (log : List LogEntry) (e : LogEntry) → IsDecodable (log ++ e ∷ []) → IsDecodable log
  pub last : (log : List LogEntry) (e : LogEntry) → IsDecodable (log ++ e ∷ []) → FitsAfter log e
  pub count : (log : List LogEntry) (e : LogEntry) → length (commits (log ++ e ∷ [])) ≤ length (commits log) + 1

-- the entries of an open transaction are all of its xid, while none of them ends it; after its end there are none
pub record OpenEntries : Type 0 where
  pub running : (xid : ℕ) (log : List LogEntry) → All (λ entry. is_end entry ≡ false) (own_entries xid log) → open_entries xid log ≡ own_entries xid log
  pub ended : (xid : ℕ) (log own : List LogEntry) (e : LogEntry) → own_entries xid log ≡ own ++ e ∷ [] → is_end e ≡ true → open_entries xid log ≡ []

-- a row has no fault exactly where no cell has one
abbrev pub FaultIsOfACell : Type 0
FaultIsOfACell = (found : Found) (table : ℕ) (row : List Cell) → (row_fault found table row ≡ None) ↔ All (λ cell. cell_fault found table cell ≡ None) row

-- each transaction's messages come behind those before it; and numbered from 1 they are the messages of these lists of changes
pub record MessagesGrow : Type 0 where
  pub none : all_messages [] ≡ []
  pub more : (before : List TransactionState) (next : TransactionState) → all_messages (before ++ next ∷ []) ≡ all_messages before ++ messages_of next
  pub numbered : (lists : List (List Message)) → all_messages (numbered 1 lists) ≡ wire.messages_of lists
