-- What the private readers of a column's data answer.
use Rattle.std.specs.Prelude.{◌≡◌, ℕ, ◌+◌, ◌<◌, ◌≤◌, Bool, true, false, List, ◌++◌, length, drop, Option, slice_index_or}
use Rattle.std.specs.List.{All}
use Rattle.external_pointer.specs.Spelling.{IsInRange, pointer_bytes}
use Rattle.external_pointer.specs.Fault.{IsFault as IsPointerFault}
use Rattle.external_pointer.specs.declared.external.Pointer.{Pointer}
use Rattle.external_pointer.specs.declared.fault.PointerFault.TheVariants.{Compressed as CompressedOut}
use Rattle.tuple_layout.specs.declared.Storage.{Storage}
use Rattle.tuple_layout.specs.declared.read_cell.CellFault.{CellFault}
use Rattle.tuple_layout.specs.declared.read_cell.CellFault.TheVariants.{Compressed, Bad, Memory}
use Rattle.tuple_layout.specs.declared.cell.Cell.{Cell}
use Rattle.tuple_layout.specs.declared.fault.TupleFault.{TupleFault}
use Rattle.tuple_layout.specs.declared.fault.TupleFault.TheVariants.{Short, BadHeader, Compressed as CompressedAt, BadColumn, Rest, Memory as OutOfMemory}
use Rattle.tuple_layout.specs.Sizes.{is_short}
use Rattle.tuple_layout.specs.Tuples.{cell_width, cell_bytes, data_from, is_there, HasForm}
use Rattle.tuple_layout.specs.Faults.{NoneStands, IsCompressed, is_present, end_of, next_storage}

-- an inline value of so many bytes has a header of four bytes
abbrev pub IsAligned : Storage → ℕ → Type 0
IsAligned storage n = is_short storage n ≡ false

-- the bytes are the pointer to a compressed value
pub record IsCompressedPointer (bytes : List ℕ) : Type 0 where
  pub raw_size : ℕ
  pub ext_info : ℕ
  pub fault : IsPointerFault bytes (CompressedOut raw_size ext_info)

-- the bytes are no pointer
abbrev pub NoPointer : List ℕ → Type 0
NoPointer bytes = (p : Pointer) → IsInRange p → ¬ (bytes ≡ pointer_bytes p)

-- why the bytes of an external datum are no pointer
abbrev pub IsOutFault : List ℕ → CellFault → Type 0
IsOutFault bytes Compressed = IsCompressedPointer bytes
IsOutFault bytes Bad = NoPointer bytes × ¬ (IsCompressedPointer bytes)
IsOutFault bytes Memory = ⊥

-- why no cell stands at the front of the rest of the data
abbrev pub IsCellFault : Storage → ℕ → List ℕ → CellFault → Type 0
IsCellFault storage at rest Compressed = IsCompressed at rest
IsCellFault storage at rest Bad = NoneStands storage at rest × ¬ (IsCompressed at rest)
IsCellFault storage at rest Memory = Unit {0}

-- why a payload makes no inline cell: where it is bad, the column would have it in another form
abbrev pub IsMisplaced : Type 0 → CellFault → Type 0
IsMisplaced otherwise Compressed = ⊥
IsMisplaced otherwise Bad = otherwise
IsMisplaced otherwise Memory = Unit {0}

-- ---- columns

-- a cell stands at the front of the rest of the data, null or not, and something after it
pub record IsColumn (storage : Storage) (at : ℕ) (rest : List ℕ) (there : Bool) (cell : Cell) (after : List ℕ) : Type 0 where
  pub present : is_there (cell_width cell) ≡ there
  pub form : HasForm cell
  pub front : rest ≡ cell_bytes storage at cell ++ after

-- why a column is not read
abbrev pub IsColumnFault : ℕ → Storage → ℕ → List ℕ → Bool → TupleFault → Type 0
IsColumnFault column storage at rest there (Short need) = ⊥
IsColumnFault column storage at rest there BadHeader = ⊥
IsColumnFault column storage at rest there (CompressedAt c) = (there ≡ true) × (c ≡ column) × IsCompressed at rest
IsColumnFault column storage at rest there (BadColumn c) = (there ≡ true) × (c ≡ column) × (NoneStands storage at rest × ¬ (IsCompressed at rest))
IsColumnFault column storage at rest there (Rest place) = ⊥
IsColumnFault column storage at rest there OutOfMemory = Unit {0}

-- behind the key stand the data of these cells of the first columns, null exactly where the bitmap says so, and then the rest
pub record HoldsFirst (schema : List Storage) (bits : Option ℕ) (bytes : List ℕ) (cells : List Cell) (rest : List ℕ) : Type 0 where
  pub few : length cells ≤ length schema
  pub forms : All HasForm cells
  pub nulls : (k : ℕ) (d : Cell) → k < length cells → is_there (cell_width (slice_index_or cells k d)) ≡ is_present bits (k + 1)
  pub behind_key : drop 8 bytes ≡ data_from 8 schema cells ++ rest

-- the first column that is not the layout of a cell, of which this is true
pub record StopsIn (schema : List Storage) (bits : Option ℕ) (bytes : List ℕ) (column : ℕ) (P : Storage → ℕ → List ℕ → Type 0) : Type 0 where
  pub cells : List Cell
  pub rest : List ℕ
  pub holds : HoldsFirst schema bits bytes cells rest
  pub more : length cells < length schema
  pub there : is_present bits (length cells + 1) ≡ true
  pub is : column ≡ length cells + 1
  pub stops : P (next_storage schema cells) (end_of schema cells) rest

-- why the columns are not read
abbrev pub IsColumnsFault : List Storage → Option ℕ → List ℕ → TupleFault → Type 0
IsColumnsFault schema bits bytes (Short need) = ⊥
IsColumnsFault schema bits bytes BadHeader = ⊥
IsColumnsFault schema bits bytes (CompressedAt column) = StopsIn schema bits bytes column (λ storage at rest. IsCompressed at rest)
IsColumnsFault schema bits bytes (BadColumn column) = StopsIn schema bits bytes column (λ storage at rest. NoneStands storage at rest × ¬ (IsCompressed at rest))
IsColumnsFault schema bits bytes (Rest place) = ⊥
IsColumnsFault schema bits bytes OutOfMemory = Unit {0}
