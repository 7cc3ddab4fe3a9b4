-- Why bytes are no tuple of a schema.
use Rattle.std.specs.Prelude.{◌≡◌, ◌≢◌, ℕ, ◌+◌, ◌/◌, ◌%◌, ◌^◌, ◌<◌, ◌≤◌, Bool, true, List, [], ◌++◌, length, take, drop, Option, Some, None, slice_index, slice_index_or, ◌==◌, if◌then◌else◌, ◌⊎◌}
use Rattle.std.specs.List.{All}
use Rattle.std.specs.Int.{w16, from_le_bytes}
use Rattle.varlena_form.specs.Spelling.{compressed, BeginsWith}
use Rattle.external_pointer.specs.Fault.{IsFault as IsPointerFault}
use Rattle.external_pointer.specs.declared.fault.PointerFault.TheVariants.{Compressed as CompressedOut}
use Rattle.tuple_layout.specs.declared.Storage.{Storage}
use Rattle.tuple_layout.specs.declared.Storage.TheVariants.{Plain}
use Rattle.tuple_layout.specs.declared.cell.Cell.{Cell}
use Rattle.tuple_layout.specs.declared.fault.TupleFault.{TupleFault}
use Rattle.tuple_layout.specs.declared.fault.TupleFault.TheVariants.{Short, BadHeader, Compressed, BadColumn, Rest, Memory}
use Rattle.tuple_layout.specs.Sizes.{data_end_from, header_size}
use Rattle.tuple_layout.specs.Tuples.{cell_width, cell_widths, cell_bytes, data_from, padding, is_there, header, HasForm}

-- ---- one column

-- a cell that is not null stands at the front of the rest of the data, where the data before it end at this place
pub record StandsFirst (storage : Storage) (at : ℕ) (rest : List ℕ) (cell : Cell) (after : List ℕ) : Type 0 where
  pub there : is_there (cell_width cell) ≡ true
  pub form : HasForm cell
  pub front : rest ≡ cell_bytes storage at cell ++ after

-- no cell does
abbrev pub NoneStands : Storage → ℕ → List ℕ → Type 0
NoneStands storage at rest = (cell : Cell) (after : List ℕ) → ¬ (StandsFirst storage at rest cell after)

-- a compressed datum stands behind the zeros up to the next multiple of 4
pub record HoldsCompressed (at : ℕ) (rest : List ℕ) : Type 0 where
  pub tail : List ℕ
  pub payload : List ℕ
  pub len : ℕ
  pub padded : rest ≡ padding at ++ tail
  pub begins : BeginsWith tail (compressed payload) len

-- the next 18 bytes are a pointer to a compressed value
pub record PointsToCompressed (rest : List ℕ) : Type 0 where
  pub raw_size : ℕ
  pub ext_info : ℕ
  pub fault : IsPointerFault (take 18 rest) (CompressedOut raw_size ext_info)

-- a compressed value stands at the front, inline or out of line
abbrev pub IsCompressed : ℕ → List ℕ → Type 0
IsCompressed at rest = HoldsCompressed at rest ⊎ PointsToCompressed rest

-- ---- the header

-- what the header says: the number of columns, whether a column is null, and where the data start
abbrev pub columns_in : List ℕ → ℕ
columns_in bytes = from_le_bytes w16 (drop 18 bytes)

abbrev pub null_in : List ℕ → Bool
null_in bytes = from_le_bytes w16 (drop 20 bytes) % 2 == 1

abbrev pub start_in : List ℕ → ℕ
start_in bytes = slice_index bytes 22

-- the bitmap, where there is one
abbrev pub bitmap_in : List ℕ → Option ℕ
bitmap_in bytes = if null_in bytes then Some (from_le_bytes w16 (drop 23 bytes)) else None

-- whether a column is not null by the bitmap, the key being column 0
abbrev pub is_present : Option ℕ → ℕ → Bool
is_present None column = true
is_present (Some bits) column = bits / 2 ^ column % 2 == 1

-- the header's numbers are those of the schema
pub record HasHeader (schema : List Storage) (bytes : List ℕ) : Type 0 where
  pub long : 23 ≤ length bytes
  pub columns : columns_in bytes ≡ length schema + 1
  pub start : start_in bytes ≡ header_size (length schema + 1) (null_in bytes)

-- ---- the columns

-- where the data of the cells of the first columns end
abbrev pub end_of : List Storage → List Cell → ℕ
end_of schema cells = data_end_from 8 schema (cell_widths cells)

-- behind the header and the key stand the data of these cells of the first columns, null exactly where the bitmap says so, and then the rest
pub record HoldsCells (schema : List Storage) (bytes : List ℕ) (cells : List Cell) (rest : List ℕ) : Type 0 where
  pub has_header : HasHeader schema bytes
  pub has_key : start_in bytes + 8 ≤ length bytes
  pub few : length cells ≤ length schema
  pub forms : All HasForm cells
  pub nulls : (k : ℕ) (d : Cell) → k < length cells → is_there (cell_width (slice_index_or cells k d)) ≡ is_present (bitmap_in bytes) (k + 1)
  pub behind_key : drop (start_in bytes + 8) bytes ≡ data_from 8 schema cells ++ rest

-- the same, and the bitmap says that the next column is not null
pub record GoesOn (schema : List Storage) (bytes : List ℕ) (cells : List Cell) (rest : List ℕ) : Type 0 where
  pub holds : HoldsCells schema bytes cells rest
  pub more : length cells < length schema
  pub there : is_present (bitmap_in bytes) (length cells + 1) ≡ true

-- the storage of the next column
abbrev pub next_storage : List Storage → List Cell → Storage
next_storage schema cells = slice_index_or schema (length cells) Plain

-- the header's numbers are those of the schema, and there is no whole key
pub record LacksKey (schema : List Storage) (bytes : List ℕ) : Type 0 where
  pub has_header : HasHeader schema bytes
  pub long : start_in bytes ≤ length bytes
  pub no_key : length bytes < start_in bytes + 8

-- the first column that is not the layout of a cell, of which this is true
pub record StopsWhere (schema : List Storage) (bytes : List ℕ) (column : ℕ) (P : Storage → ℕ → List ℕ → Type 0) : Type 0 where
  pub cells : List Cell
  pub rest : List ℕ
  pub goes : GoesOn schema bytes cells rest
  pub is : column ≡ length cells + 1
  pub stops : P (next_storage schema cells) (end_of schema cells) rest

-- all columns are read, and bytes follow them
pub record GoesPast (schema : List Storage) (bytes : List ℕ) (at : ℕ) : Type 0 where
  pub cells : List Cell
  pub rest : List ℕ
  pub holds : HoldsCells schema bytes cells rest
  pub all : length cells ≡ length schema
  pub some : 1 ≤ length rest
  pub is : at ≡ start_in bytes + end_of schema cells

-- all columns are read, and the header is not that of these cells
pub record HasOtherHeader (schema : List Storage) (bytes : List ℕ) : Type 0 where
  pub cells : List Cell
  pub holds : HoldsCells schema bytes cells []
  pub all : length cells ≡ length schema
  pub other : take (start_in bytes) bytes ≢ header (cell_widths cells)

-- ---- the faults

-- the first check that fails; want of memory says nothing of the bytes
abbrev pub IsFault : List Storage → List ℕ → TupleFault → Type 0
IsFault schema bytes (Short need) = (length bytes < need) × ((need ≡ 23) ⊎ (HasHeader schema bytes × (need ≡ start_in bytes)))
IsFault schema bytes BadHeader = ((23 ≤ length bytes) × ¬ (HasHeader schema bytes)) ⊎ HasOtherHeader schema bytes
IsFault schema bytes (Compressed column) = StopsWhere schema bytes column (λ storage at rest. IsCompressed at rest)
IsFault schema bytes (BadColumn column) = ((column ≡ 0) × LacksKey schema bytes) ⊎ StopsWhere schema bytes column (λ storage at rest. NoneStands storage at rest × ¬ (IsCompressed at rest))
IsFault schema bytes (Rest at) = GoesPast schema bytes at
IsFault schema bytes Memory = Unit {0}
