-- A stored row as the bytes of a tuple
-- (PostgreSQL, Database Physical Storage: "Database Page Layout", "Table Row Layout", and "TOAST").
use Rattle.std.specs.Prelude.{◌≡◌, ℕ, ℤ, ◌+◌, ◌-◌, ◌*◌, ◌/◌, ◌^◌, ◌<◌, ◌≤◌, Bool, true, false, not, List, [], ◌∷◌, ◌++◌, map, take, length, replicate, if◌then◌else◌}
use Rattle.std.specs.List.{list_any, All}
use Rattle.std.specs.Int.{w16, w64, to_le_bytes, cast_unsigned}
use Rattle.std.specs.Int.RustNames.{FitsSigned}
use Rattle.varlena_form.specs.Spelling.{short_form, plain_form}
use Rattle.external_pointer.specs.Spelling.{IsInRange, pointer_bytes}
use Rattle.tuple_layout.specs.declared.Storage.{Storage}
use Rattle.tuple_layout.specs.declared.cell.Cell.{Cell}
use Rattle.tuple_layout.specs.declared.cell.Cell.TheVariants.{Null, Inline, Out}
use Rattle.tuple_layout.specs.declared.cell.Stored.{Stored}
use Rattle.tuple_layout.specs.Sizes.{Width, Missing, Within, Outside, is_missing, is_short, aligned, column_end, header_size, size}

-- how a cell stands in a tuple
abbrev pub cell_width : Cell → Width
cell_width Null = Missing
cell_width (Inline value) = Within (length value)
cell_width (Out p) = Outside

-- the widths of a row's cells
abbrev pub cell_widths : List Cell → List Width
cell_widths cells = map cell_width cells

-- the size of a row's tuple
abbrev pub row_size : List Storage → List Cell → ℕ
row_size schema cells = size schema (cell_widths cells)

-- an inline value has at most 65,536 bytes, and a pointer's value at most as many as a datum may have
abbrev pub IsWithinLimits : Cell → Type 0
IsWithinLimits Null = Unit {0}
IsWithinLimits (Inline value) = length value ≤ 65536
IsWithinLimits (Out p) = p.size ≤ 1073741819

-- ---- the data

-- the zeros from a place in the data up to the next multiple of 4
abbrev pub padding : ℕ → List ℕ
padding at = replicate (aligned at - at) 0

-- an inline value, if the data before it end at this place
abbrev pub inline_bytes : Storage → ℕ → List ℕ → List ℕ
inline_bytes storage at value = if is_short storage (length value) then short_form value else padding at ++ plain_form value

-- a cell, if the data before it end at this place
abbrev pub cell_bytes : Storage → ℕ → Cell → List ℕ
cell_bytes storage at Null = []
cell_bytes storage at (Inline value) = inline_bytes storage at value
cell_bytes storage at (Out p) = pointer_bytes p

-- the cells of the first columns in order, if the data before them end at this place
abbrev pub data_from : ℕ → List Storage → List Cell → List ℕ
data_from at [] cells = []
data_from at (storage ∷ storages) [] = []
data_from at (storage ∷ storages) (cell ∷ cells) = cell_bytes storage at cell ++ data_from (column_end storage at (cell_width cell)) storages cells

-- the key: eight bytes in two's complement, the low one first
abbrev pub key_bytes : ℤ → List ℕ
key_bytes key = to_le_bytes w64 (cast_unsigned w64 key)

-- ---- the header

-- whether a column is not null
abbrev pub is_there : Width → Bool
is_there w = not (is_missing w)

-- whether a column is out of line
abbrev pub is_outside : Width → Bool
is_outside Missing = false
is_outside (Within n) = false
is_outside Outside = true

-- 1 where a column is null, 2 where one is not, and 4 where one is out of line
abbrev pub flags : List Width → ℕ
flags ws = (if list_any is_missing ws then 1 else 0) + (if list_any is_there ws then 2 else 0) + (if list_any is_outside ws then 4 else 0)

-- the number with these bits, the lowest first
abbrev pub number_of_bits : List Bool → ℕ
number_of_bits [] = 0
number_of_bits (bit ∷ bits) = (if bit then 1 else 0) + 2 * number_of_bits bits

-- a bit for the key and for each column, the lowest first, set where it is not null
abbrev pub present_bits : List Width → ℕ
present_bits ws = number_of_bits (true ∷ map is_there ws)

-- the bitmap, which is there where a column is null: whole bytes, the low one first
abbrev pub bitmap : List Width → List ℕ
bitmap ws = if list_any is_missing ws then take ((length ws + 8) / 8) (to_le_bytes w16 (present_bits ws)) else []

-- bytes, and zeros up to so many
abbrev pub padded : ℕ → List ℕ → List ℕ
padded n bytes = bytes ++ replicate (n - length bytes) 0

-- where the data begin in a tuple of columns with these widths
abbrev pub data_start : List Width → ℕ
data_start ws = header_size (length ws + 1) (list_any is_missing ws)

-- the header: 18 zeros, the number of columns, the flags, where the data begin, the bitmap, and zeros up to the data
abbrev pub header : List Width → List ℕ
header ws = padded (data_start ws) (replicate 18 0 ++ (to_le_bytes w16 (length ws + 1) ++ (to_le_bytes w16 (flags ws) ++ (data_start ws ∷ bitmap ws))))

-- ---- the tuple

-- the bytes of a stored row: the header, the key, and the data of the columns
abbrev pub tuple : List Storage → Stored → List ℕ
tuple schema stored = header (cell_widths stored.cells) ++ (key_bytes stored.key ++ data_from 8 schema stored.cells)

-- a cell has a form: the length of an inline value fits a header of four bytes, and a pointer is within its range
abbrev pub HasForm : Cell → Type 0
HasForm Null = Unit {0}
HasForm (Inline value) = length value + 4 < 2 ^ 30
HasForm (Out p) = IsInRange p

-- what has a tuple: a cell for each column, each with a form, and a key of 64 bits
pub record HasTuple (schema : List Storage) (stored : Stored) : Type 0 where
  pub one_each : length stored.cells ≡ length schema
  pub forms : All HasForm stored.cells
  pub key : FitsSigned w64 stored.key
