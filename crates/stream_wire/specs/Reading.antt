-- Reading a message from left to right: its fields, and the bytes after each.
use Rattle.std.specs.Prelude.{◌≡◌, ℕ, zero, suc, ◌-◌, ◌^◌, ℤ, List, [], ◌∷◌, length, take, drop, Option, Some, None, Result, Ok, Err, nat_lt, ◌==◌, ◌||◌, if◌then◌else◌}
use Rattle.std.specs.Int.{Width, w16, w32, w64, byte_len, from_be_bytes, cast_signed}
use Rattle.stream_wire.specs.declared.message.Message.{Message}
use Rattle.stream_wire.specs.declared.message.Message.TheVariants.{Begin, Insert, Update, Move, Delete, Commit}
use Rattle.stream_wire.specs.declared.message.Sent.{Sent}
use Rattle.stream_wire.specs.declared.message.Sent.TheVariants.{Null, Unchanged, Value}
use Rattle.stream_wire.specs.declared.read.Refused.{Refused}
use Rattle.stream_wire.specs.declared.read.Refused.TheVariants.{NoMessage, Memory}

infixl 10 ◌>>=◌
abbrev pub ◌>>=◌ : {A B : Type 0} → Option A → (A → Option B) → Option B
(Some x) >>= f = f x
None >>= f = None

-- nothing is read where reading gives nothing; want of memory says nothing
abbrev pub Fails : {Y : Type 0} → Refused → Option Y → Type 0
Fails Memory read = Unit {0}
Fails NoMessage read = read ≡ None

-- what a function returned, seen by view, is what reading gives
abbrev pub Gives : {X Y : Type 0} → (X → Y) → Result X Refused → Option Y → Type 0
Gives view (Ok x) read = read ≡ Some (view x)
Gives view (Err e) read = Fails e read

-- a number of a width
abbrev pub number_at : Width → List ℕ → Option (ℕ × List ℕ)
number_at w bytes = if nat_lt (length bytes) (byte_len w) then None else Some (from_be_bytes w (take (byte_len w) bytes), drop (byte_len w) bytes)

-- a number from low to high
unfoldable pub ranged_at : Width → ℕ → ℕ → List ℕ → Option (ℕ × List ℕ)
ranged_at w low high bytes = do
  n ← number_at w bytes
  if nat_lt n.0 low || nat_lt high n.0 then None else Some n

unfoldable pub key_at : List ℕ → Option (ℤ × List ℕ)
key_at bytes = do
  n ← number_at w64 bytes
  Some (cast_signed w64 n.0, n.1)

unfoldable pub value_at : List ℕ → Option (Sent × List ℕ)
value_at bytes = do
  n ← ranged_at w32 0 65536 bytes
  if nat_lt (length n.1) n.0 then None else Some (Value (take n.0 n.1), drop n.0 n.1)

unfoldable pub column_at : List ℕ → Option (Sent × List ℕ)
column_at [] = None
column_at (b ∷ rest) =
    if b == 0x6e then Some (Null, rest)
    else if b == 0x75 then Some (Unchanged, rest)
    else if b == 0x62 then value_at rest
    else None

unfoldable pub columns_at : ℕ → List ℕ → Option (List Sent × List ℕ)
columns_at zero bytes = Some ([], bytes)
columns_at (suc n) bytes = do
  first ← column_at bytes
  others ← columns_at n first.1
  Some (first.0 ∷ others.0, others.1)

-- the count, and so many columns
unfoldable pub row_at : List ℕ → Option (List Sent × List ℕ)
row_at bytes = do
  count ← ranged_at w16 1 8 bytes
  columns_at count.0 count.1

-- a transaction's number, of which a message is made
unfoldable pub numbered_at : (ℕ → Message) → List ℕ → Option (Message × List ℕ)
numbered_at make bytes = do
  number ← ranged_at w32 1 (2 ^ 32 - 1) bytes
  Some (make number.0, number.1)

-- a table, a key and columns, of which a message is made
unfoldable pub change_at : (ℕ → ℤ → List Sent → Message) → List ℕ → Option (Message × List ℕ)
change_at make bytes = do
  table ← ranged_at w16 1 16 bytes
  key ← key_at table.1
  columns ← row_at key.1
  Some (make table.0 key.0 columns.0, columns.1)

unfoldable pub move_at : List ℕ → Option (Message × List ℕ)
move_at bytes = do
  table ← ranged_at w16 1 16 bytes
  from ← key_at table.1
  to ← key_at from.1
  columns ← row_at to.1
  Some (Move table.0 from.0 to.0 columns.0, columns.1)

unfoldable pub delete_at : List ℕ → Option (Message × List ℕ)
delete_at bytes = do
  table ← ranged_at w16 1 16 bytes
  key ← key_at table.1
  Some (Delete table.0 key.0, key.1)

unfoldable pub message_at : List ℕ → Option (Message × List ℕ)
message_at [] = None
message_at (b ∷ rest) =
    if b == 0x42 then numbered_at Begin rest
    else if b == 0x49 then change_at Insert rest
    else if b == 0x55 then change_at Update rest
    else if b == 0x4b then move_at rest
    else if b == 0x44 then delete_at rest
    else if b == 0x43 then numbered_at Commit rest
    else None
