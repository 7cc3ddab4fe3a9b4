-- What a message of the change stream does to a replica.
use Rattle.std.specs.Prelude.{◌≡◌, ◌≢◌, ℕ, ◌+◌, ◌-◌, ◌^◌, min, Bool, true, false, List, [], ◌∷◌, map, length, Option, Some, None, Result, Ok, Err, ◌==◌, if◌then◌else◌, position}
use Rattle.std.specs.FinMap as finite
use Rattle.tuple_layout.specs.declared.Place.{Place}
use Rattle.tuple_layout.specs.Places.{Row, Rows}
use Rattle.stream_wire.specs.declared.message.Sent.{Sent}
use Rattle.stream_wire.specs.declared.message.Sent.TheVariants.{Null, Unchanged, Value}
use Rattle.stream_wire.specs.declared.message.Message.{Message}
use Rattle.stream_wire.specs.declared.message.Message.TheVariants as messages
use Rattle.replica_map.specs.declared.fault.ApplyFault.{ApplyFault}
use Rattle.replica_map.specs.declared.fault.ApplyFault.TheVariants.{NoSuchKey, KeyThere, WrongColumns, NoOldValue, Memory}
use Rattle.replica_map.specs.States.{ReplicaState, place, rows_of}

-- a column's value after it is sent: an unchanged column keeps the old one
abbrev pub sent_value : Option (List ℕ) → Sent → Option (List ℕ)
sent_value old Null = None
sent_value old Unchanged = old
sent_value old (Value value) = Some value

-- a row after as many columns are sent
abbrev pub row_with : Row → List Sent → Row
row_with [] columns = []
row_with (old ∷ olds) [] = old ∷ olds
row_with (old ∷ olds) (column ∷ columns) = sent_value old column ∷ row_with olds columns

-- a row that was not there
abbrev pub new_row : List Sent → Row
new_row columns = map (sent_value None) columns

-- whether a column is sent as unchanged
abbrev pub is_unchanged : Sent → Bool
is_unchanged Null = false
is_unchanged Unchanged = true
is_unchanged (Value value) = false

-- the rows after an insert, by what is at its place and by the first unchanged column, from 0
abbrev pub inserted : Rows → Place → List Sent → Option Row → Option ℕ → Result Rows ApplyFault
inserted rows p columns (Some row) unchanged = Err (KeyThere p.key)
inserted rows p columns None (Some n) = Err (NoOldValue (n + 1))
inserted rows p columns None None = Ok (finite.insert rows p (new_row columns))

-- the rows after an update, by what is at its place
abbrev pub updated : Rows → Place → List Sent → Option Row → Result Rows ApplyFault
updated rows p columns None = Err (NoSuchKey p.key)
updated rows p columns (Some row) =
    if length columns == length row then Ok (finite.insert rows p (row_with row columns))
    else Err (WrongColumns (length columns) (length row))

-- the rows after a move from p to q, by what is at p and at q
abbrev pub moved : Rows → Place → Place → List Sent → Option Row → Option Row → Result Rows ApplyFault
moved rows p q columns None there = Err (NoSuchKey p.key)
moved rows p q columns (Some row) (Some other) = Err (KeyThere q.key)
moved rows p q columns (Some row) None =
    if length columns == length row then Ok (finite.insert (finite.remove rows p) q (row_with row columns))
    else Err (WrongColumns (length columns) (length row))

-- the columns of an update do not fit a row
abbrev pub IsRefused : Row → List Sent → ApplyFault → Type 0
IsRefused row columns Memory = Unit {0}
IsRefused row columns fault = (length columns ≢ length row) × (fault ≡ WrongColumns (length columns) (length row))

-- the rows after a delete, by what is at its place
abbrev pub deleted : Rows → Place → Option Row → Result Rows ApplyFault
deleted rows p None = Err (NoSuchKey p.key)
deleted rows p (Some row) = Ok (finite.remove rows p)

-- the rows after a message, or the first fault that it has
abbrev pub apply_message : Rows → Message → Result Rows ApplyFault
apply_message rows (messages.Begin number) = Ok rows
apply_message rows (messages.Insert table key columns) =
    let p = place table key in
    inserted rows p columns (finite.get rows p) (position is_unchanged columns)
apply_message rows (messages.Update table key columns) =
    let p = place table key in
    updated rows p columns (finite.get rows p)
apply_message rows (messages.Move table from to columns) =
    let p = place table from in
    let q = place table to in
    moved rows p q columns (finite.get rows p) (finite.get rows q)
apply_message rows (messages.Delete table key) =
    let p = place table key in
    deleted rows p (finite.get rows p)
apply_message rows (messages.Commit number) = Ok rows

-- what comes after rows, or the fault
abbrev pub and_then : (Rows → Result Rows ApplyFault) → Result Rows ApplyFault → Result Rows ApplyFault
and_then next (Ok rows) = next rows
and_then next (Err fault) = Err fault

-- the rows after messages in order, from these rows on, or the first fault
abbrev pub apply_all : Rows → List Message → Result Rows ApplyFault
apply_all rows [] = Ok rows
apply_all rows (m ∷ ms) = and_then (λ after. apply_all after ms) (apply_message rows m)

-- the rows after a stream of messages, over no rows
abbrev pub apply_stream : List Message → Result Rows ApplyFault
apply_stream ms = apply_all finite.empty ms

-- what came of a message on rows: they are what it makes of them, or they stay and it had this fault; want of memory says no more
abbrev pub Settles : Rows → Result Rows ApplyFault → Rows → Result (Unit {0}) ApplyFault → Type 0
Settles old step new (Ok t) = step ≡ Ok new
Settles old step new (Err Memory) = new ≡ old
Settles old step new (Err fault) = (step ≡ Err fault) × (new ≡ old)

-- the same of the entries that hold the rows
abbrev pub IsStep : List (Place × Row) → Message → List (Place × Row) → Result (Unit {0}) ApplyFault → Type 0
IsStep old m new result = Settles (rows_of old) (apply_message (rows_of old) m) (rows_of new) result

-- the count of messages after one more that was applied; at its last value it stays
abbrev pub count_after : ℕ → Result (Unit {0}) ApplyFault → ℕ
count_after taken (Ok t) = min (taken + 1) (2 ^ 64 - 1)
count_after taken (Err fault) = taken

-- one message: it is applied and taken, or the replica stays
pub record Applies (old : ReplicaState) (m : Message) (new : ReplicaState) (result : Result (Unit {0}) ApplyFault) : Type 0 where
  pub rows : Settles old.rows (apply_message old.rows m) new.rows result
  pub taken : new.taken ≡ count_after old.taken result
