-- The bytes of a message. PostgreSQL documentation, "Logical Replication Message Formats".
use Rattle.std.specs.Prelude.{◌≡◌, ℕ, ℤ, ◌≤◌, ◌<◌, ◌^◌, List, [], ◌∷◌, ◌++◌, length, take}
use Rattle.std.specs.List.{flat_map, All}
use Rattle.std.specs.Int.{w16, w32, w64, to_be_bytes, cast_unsigned}
use Rattle.std.specs.Int.RustNames.{FitsSigned}
use Rattle.stream_wire.specs.declared.message.Message.{Message}
use Rattle.stream_wire.specs.declared.message.Message.TheVariants.{Begin, Insert, Update, Move, Delete, Commit}
use Rattle.stream_wire.specs.declared.message.Sent.{Sent}
use Rattle.stream_wire.specs.declared.message.Sent.TheVariants.{Null, Unchanged, Value}

-- a key: eight bytes in two's complement, the high one first
abbrev pub key_bytes : ℤ → List ℕ
key_bytes key = to_be_bytes w64 (cast_unsigned w64 key)

-- a column: `n`, or `u`, or `b` with the length in four bytes and the value
abbrev pub column_bytes : Sent → List ℕ
column_bytes Null = 0x6e ∷ []
column_bytes Unchanged = 0x75 ∷ []
column_bytes (Value value) = 0x62 ∷ to_be_bytes w32 (length value) ++ value

-- the count of the columns in two bytes, and each column
abbrev pub columns_bytes : List Sent → List ℕ
columns_bytes columns = to_be_bytes w16 (length columns) ++ flat_map column_bytes columns

-- the bytes of a message: `B`, `I`, `U`, `K`, `D` or `C`, and its fields in order
unfoldable pub spelling : Message → List ℕ
spelling (Begin number) = 0x42 ∷ to_be_bytes w32 number
spelling (Insert table key columns) = 0x49 ∷ to_be_bytes w16 table ++ (key_bytes key ++ columns_bytes columns)
spelling (Update table key columns) = 0x55 ∷ to_be_bytes w16 table ++ (key_bytes key ++ columns_bytes columns)
spelling (Move table from to columns) = 0x4b ∷ to_be_bytes w16 table ++ (key_bytes from ++ (key_bytes to ++ columns_bytes columns))
spelling (Delete table key) = 0x44 ∷ to_be_bytes w16 table ++ key_bytes key
spelling (Commit number) = 0x43 ∷ to_be_bytes w32 number

-- tables are 1 to 16
abbrev pub IsTable : ℕ → Type 0
IsTable table = (1 ≤ table) × (table ≤ 16)

-- a value has at most 65,536 bytes
abbrev pub IsShort : Sent → Type 0
IsShort Null = Unit {0}
IsShort Unchanged = Unit {0}
IsShort (Value value) = length value ≤ 65536

-- a row has 1 to 8 columns, with short values
abbrev pub AreColumns : List Sent → Type 0
AreColumns columns = (1 ≤ length columns) × (length columns ≤ 8) × All IsShort columns

-- a message is within its ranges
abbrev pub IsInRange : Message → Type 0
IsInRange (Begin number) = 1 ≤ number
IsInRange (Insert table key columns) = IsTable table × AreColumns columns
IsInRange (Update table key columns) = IsTable table × AreColumns columns
IsInRange (Move table from to columns) = IsTable table × AreColumns columns
IsInRange (Delete table key) = IsTable table
IsInRange (Commit number) = 1 ≤ number

-- each number fits its field, as those of a message in the program do
abbrev pub Fits : Message → Type 0
Fits (Begin number) = number < 2 ^ 32
Fits (Insert table key columns) = FitsSigned w64 key
Fits (Update table key columns) = FitsSigned w64 key
Fits (Move table from to columns) = FitsSigned w64 from × FitsSigned w64 to
Fits (Delete table key) = FitsSigned w64 key
Fits (Commit number) = number < 2 ^ 32

-- what has a spelling
abbrev pub HasSpelling : Message → Type 0
HasSpelling m = IsInRange m × Fits m

-- the bytes begin with a message, which takes n of them
pub record BeginsWith (bytes : List ℕ) (m : Message) (n : ℕ) : Type 0 where
  pub fits : HasSpelling m
  pub front : take n bytes ≡ spelling m
  pub len : n ≡ length (spelling m)
