-- A log that is decoded by several workers, each the transactions of its xids; what the private functions' clauses cite.
use Rattle.std.specs.Prelude.{◌≡◌, ◌≢◌, ◌≤◌, ◌<◌, ◌+◌, ◌%◌, ℕ, Bool, true, false, ◌==◌, nat_eq, List, [], ◌∷◌, ◌++◌, take, filter, slice_get, slice_index_or, Option, Some, None, IsSome, Result, Ok, Err, IfOk, MatchBool}
use Rattle.std.specs.List.{All}
use Rattle.std.specs.Map.{lookup}
use Rattle.stream_wire.specs.Spelling.{IsInRange}
use Rattle.stream_wire.specs.declared.message.Message.{Message}
use Rattle.change_log.specs.declared.entry.LogEntry.{LogEntry}
use Rattle.decode_stream.specs.declared.fault.DecodeFault.{DecodeFault}
use Rattle.decode_stream.specs.Decoding.{xid_of, fault_at, commit_at, first_fault, commits, numbered, TransactionState}
use Rattle.decode_stream.specs.States.{OpenList, AreOpen}
use Rattle.decode_stream.specs.Steps.{Tells}

-- what an entry tells: the changes that it commits, or its fault
abbrev pub Told : Type 0
Told = Result (List Message) DecodeFault

-- what entries tell, by their places in the log
abbrev pub ToldList : Type 0
ToldList = List (ℕ × Told)

-- what is told of the entry at a place
abbrev pub told_at : ToldList → ℕ → Option Told
told_at told n = lookup (nat_eq n) told

-- the worker of an entry: the xids go round
abbrev pub worker_at : ℕ → LogEntry → ℕ
worker_at workers e = xid_of e % workers

-- an entry is a worker's own
abbrev pub is_own : ℕ → ℕ → LogEntry → Bool
is_own workers worker e = worker_at workers e == worker

-- changes that can be sent
abbrev pub AreGiven : List Message → Type 0
AreGiven changes = (changes ≢ []) × All IsInRange changes

-- what is told of an entry after a log is what it has and commits there
abbrev pub IsTold : Option Told → List LogEntry × LogEntry → Type 0
IsTold None p = (fault_at p ≡ None) × (commit_at p ≡ None)
IsTold (Some (Ok changes)) p = (fault_at p ≡ None) × (commit_at p ≡ Some changes) × AreGiven changes
IsTold (Some (Err fault)) p = fault_at p ≡ Some fault

-- a worker's part of a log from place n on: what its entries tell, up to the log's first fault
abbrev pub IsPartFrom : ℕ → List LogEntry → ℕ → ℕ → ToldList → Type 0
IsPartFrom n log workers worker told =
    (m : ℕ) (e : LogEntry) → n ≤ m → slice_get log m ≡ Some e → first_fault (take m log) ≡ None → is_own workers worker e ≡ true → IsTold (told_at told m) (take m log, e)

-- a worker's part of a log
abbrev pub IsPart : List LogEntry → ℕ → ℕ → ToldList → Type 0
IsPart log workers worker told = IsPartFrom 0 log workers worker told

-- a worker that has come to place n
pub record Works (log : List LogEntry) (workers worker n : ℕ) (table : OpenList) (told : ToldList) : Type 0 where
  pub open_ones : AreOpen table (filter (is_own workers worker) (take n log))
  pub so_far : (m : ℕ) (e : LogEntry) → m < n → slice_get log m ≡ Some e → first_fault (take m log) ≡ None → is_own workers worker e ≡ true → IsTold (told_at told m) (take m log, e)
  pub free : (m : ℕ) → n ≤ m → told_at told m ≡ None

-- each worker's part, from place n on
abbrev pub ArePartsFrom : ℕ → List LogEntry → ℕ → List ToldList → Type 0
ArePartsFrom n log workers parts = (worker : ℕ) (d : ToldList) → worker < workers → IsPartFrom n log workers worker (slice_index_or parts worker d)

-- the parts tell of every place but n what they told
abbrev pub StayBut : ℕ → List ToldList → List ToldList → Type 0
StayBut n old new =
    (worker : ℕ) (d : ToldList) (q : ℕ) → nat_eq n q ≡ false → told_at (slice_index_or new worker d) q ≡ told_at (slice_index_or old worker d) q

-- behind a log without a fault, whose transactions were sent, what is told of an entry is sent
abbrev pub SendsTold : Option Told → List TransactionState → List TransactionState → Type 0
SendsTold told sent sent' =
    (log : List LogEntry) (e : LogEntry) → IsTold told (log, e) → first_fault log ≡ None → sent ≡ numbered 1 (commits log) → sent' ≡ numbered 1 (commits (log ++ e ∷ []))

-- behind a log without a fault, an answer tells the first fault up to an entry by what is told of it
abbrev pub TellsTold : {X : Type 0} → Option Told → Result X DecodeFault → Type 0
TellsTold told answer = (log : List LogEntry) (e : LogEntry) → IsTold told (log, e) → first_fault log ≡ None → Tells (first_fault (log ++ e ∷ [])) answer

-- the first results, so many, are these values
abbrev pub AreWhole : {X E : Type 0} → ℕ → List (Result X E) → List X → Type 0
AreWhole {X} {E} count results values = (i : ℕ) (d : Result X E) (f : X) → i < count → slice_index_or results i d ≡ Ok (slice_index_or values i f)

-- each worker's result is its part, where there was memory for it
abbrev pub ArePartsIfOk : {E : Type 0} → List LogEntry → ℕ → List (Result ToldList E) → Type 0
ArePartsIfOk {E} log workers results = (worker : ℕ) (d : Result ToldList E) → worker < workers → IfOk (slice_index_or results worker d) (IsPart log workers worker)

-- whatever log has made a table's open transactions, an entry behind it makes these
abbrev pub TakesIn : OpenList → OpenList → LogEntry → Type 0
TakesIn old new e = (log : List LogEntry) → AreOpen old log → AreOpen new (log ++ e ∷ [])

-- whatever log has made a table's open transactions, an entry behind it has a fault
abbrev pub IsFaulty : OpenList → LogEntry → Type 0
IsFaulty table e = (log : List LogEntry) → AreOpen table log → IsSome (fault_at (log, e))

-- a worker that has come to place n, where this entry is, has come to the next if it goes on; else its part is whole
abbrev pub Visits : ℕ × ℕ → ℕ → LogEntry → OpenList → ToldList → OpenList → ToldList → Bool → Type 0
Visits share n e table told table' told' goes =
    (log : List LogEntry) → slice_get log n ≡ Some e → Works log share.0 share.1 n table told →
    MatchBool goes (Works log share.0 share.1 (n + 1) table' told') (IsPart log share.0 share.1 told')
