-- The bytes of a datum. PostgreSQL documentation, "Database Physical Storage", "TOAST".
use Rattle.std.specs.Prelude.{◌≡◌, ◌≤◌, ◌<◌, ℕ, ◌+◌, ◌*◌, ◌^◌, List, ◌∷◌, ◌++◌, length, take, slice_index}
use Rattle.std.specs.Int.{w32, to_le_bytes}
use Rattle.varlena_form.specs.declared.datum.Form.{Form}
use Rattle.varlena_form.specs.declared.datum.Form.TheVariants.{Short, Plain, Compressed, External}

-- a datum without where it lies in memory: its form and payload, of an external one all of its bytes
pub data Datum : Type 0 where
  short : List ℕ → Datum
  plain : List ℕ → Datum
  compressed : List ℕ → Datum
  external : List ℕ → Datum

-- the datum that the program holds as a form
abbrev pub datum : Form → Datum
datum (Short payload) = short payload.now
datum (Plain payload) = plain payload.now
datum (Compressed payload) = compressed payload.now
datum (External bytes) = external bytes.now

-- one byte and the payload: the byte's low bit is set, and the others are the length, that byte counted
unfoldable pub short_form : List ℕ → List ℕ
short_form payload = (2 * (length payload + 1) + 1) ∷ payload

-- four bytes, the low one first, and the payload: the two low bits are 00, and the others are the length,
-- those four bytes counted
unfoldable pub plain_form : List ℕ → List ℕ
plain_form payload = to_le_bytes w32 (4 * (length payload + 4)) ++ payload

-- the same with 10 as the two low bits: the payload is compressed
unfoldable pub compressed_form : List ℕ → List ℕ
compressed_form payload = to_le_bytes w32 (4 * (length payload + 4) + 2) ++ payload

-- the bytes of a datum
abbrev pub spelling : Datum → List ℕ
spelling (short payload) = short_form payload
spelling (plain payload) = plain_form payload
spelling (compressed payload) = compressed_form payload
spelling (external bytes) = bytes

-- what has a spelling: its length fits the header, and an external datum is a pointer on disk
abbrev pub HasSpelling : Datum → Type 0
HasSpelling (short payload) = length payload ≤ 126
HasSpelling (plain payload) = length payload + 4 < 2 ^ 30
HasSpelling (compressed payload) = length payload + 4 < 2 ^ 30
HasSpelling (external bytes) = (length bytes ≡ 18) × (slice_index bytes 0 ≡ 1) × (slice_index bytes 1 ≡ 18)

-- the bytes begin with a datum, which takes n of them
pub record BeginsWith (bytes : List ℕ) (d : Datum) (n : ℕ) : Type 0 where
  pub fits : HasSpelling d
  pub front : take n bytes ≡ spelling d
  pub len : n ≡ length (spelling d)
