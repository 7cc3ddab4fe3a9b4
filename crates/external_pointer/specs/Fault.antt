-- Why bytes are no pointer.
use Rattle.std.specs.Prelude.{◌≡◌, ◌≢◌, ℕ, ◌+◌, ◌<◌, ◌%◌, ◌^◌, List, length, slice_index, drop}
use Rattle.std.specs.Int.{w32, from_le_bytes}
use Rattle.external_pointer.specs.declared.fault.PointerFault.{PointerFault}
use Rattle.external_pointer.specs.declared.fault.PointerFault.TheVariants.{WrongLength, BadHeader, BadTag, Compressed, BadSize}

-- the number in the four bytes from a place on, low byte first
abbrev pub word_at : ℕ → List ℕ → ℕ
word_at at bytes = from_le_bytes w32 (drop at bytes)

-- the bytes are a pointer but for its two sizes: that of the value with a header of four bytes, and the
-- stored size in the low 30 bits, with the compression method above them
pub record HasSizes (bytes : List ℕ) (raw_size ext_info : ℕ) : Type 0 where
  pub len : length bytes ≡ 18
  pub header : slice_index bytes 0 ≡ 1
  pub tag : slice_index bytes 1 ≡ 18
  pub raw_size_is : raw_size ≡ word_at 2 bytes
  pub ext_info_is : ext_info ≡ word_at 6 bytes

-- the value is stored in fewer bytes than it has
abbrev pub IsCompressed : ℕ → ℕ → Type 0
IsCompressed raw_size ext_info = ext_info % 2 ^ 30 + 4 < raw_size

-- the value is stored as it is: the method is 0, and the stored size is the value's own
abbrev pub IsPlain : ℕ → ℕ → Type 0
IsPlain raw_size ext_info = (ext_info < 2 ^ 30) × (ext_info + 4 ≡ raw_size) × (raw_size < 2 ^ 30)

-- the first check that fails
abbrev pub IsFault : List ℕ → PointerFault → Type 0
IsFault bytes (WrongLength have) = (length bytes ≡ have) × (have ≢ 18)
IsFault bytes (BadHeader byte) = (length bytes ≡ 18) × (slice_index bytes 0 ≡ byte) × (byte ≢ 1)
IsFault bytes (BadTag tag) = (length bytes ≡ 18) × (slice_index bytes 0 ≡ 1) × (slice_index bytes 1 ≡ tag) × (tag ≢ 18)
IsFault bytes (Compressed raw_size ext_info) = HasSizes bytes raw_size ext_info × IsCompressed raw_size ext_info
IsFault bytes (BadSize raw_size ext_info) = HasSizes bytes raw_size ext_info × ¬ (IsCompressed raw_size ext_info) × ¬ (IsPlain raw_size ext_info)
