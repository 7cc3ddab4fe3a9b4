-- The size of a row's tuple, column by column
-- (PostgreSQL, Database Physical Storage: "Database Page Layout", "Table Row Layout", and "TOAST").
use Rattle.std.specs.Prelude.{ℕ, ◌+◌, ◌-◌, ◌*◌, ◌/◌, Bool, true, false, List, [], ◌∷◌, Option, Some, None, map, length, slice_get, nat_le, if◌then◌else◌}
use Rattle.std.specs.List.{list_any, enumerate_from}
use Rattle.std.specs.Option.{option_map_or}
use Rattle.tuple_layout.specs.declared.Storage.{Storage}
use Rattle.tuple_layout.specs.declared.Storage.TheVariants.{Plain, External}
use Rattle.tuple_layout.specs.declared.size.TheConstants.{LARGEST_TUPLE}
use Rattle.tuple_layout.specs.Places.{Row}

-- what a pointer takes, in bytes
abbrev pub pointer_size : ℕ
pointer_size = 18

-- the longest value that has a header of one byte
abbrev pub longest_short : ℕ
longest_short = 126

-- the shortest value that may be stored out of line
abbrev pub least_out : ℕ
least_out = 21

-- the largest tuple that fits on a page
abbrev pub largest_tuple : ℕ
largest_tuple = LARGEST_TUPLE

-- how the value of a column stands in a tuple
pub data Width : Type 0 where
  -- a null, which takes no data
  Missing : Width
  -- inline, with so many bytes
  Within : ℕ → Width
  -- out of line: a pointer
  Outside : Width

-- the width of a value that is out of line or not
abbrev pub width : Option (List ℕ) → Bool → Width
width None out = Missing
width (Some bytes) true = Outside
width (Some bytes) false = Within (length bytes)

-- the widths of a row's values where those of the columns that pass the test are out of line; columns count from 1
abbrev pub widths : Row → (ℕ → Bool) → List Width
widths row out = map (λ (column, value). width value (out column)) (enumerate_from 1 row)

-- whether a column is null
abbrev pub is_missing : Width → Bool
is_missing Missing = true
is_missing (Within n) = false
is_missing Outside = false

-- a place in the data rounded up to a multiple of 4
abbrev pub aligned : ℕ → ℕ
aligned at = (at + 3) / 4 * 4

-- whether an inline value of n bytes has a header of one byte and is not aligned: it is short, and its column is not PLAIN; any other has a header of 4 bytes
abbrev pub is_short : Storage → ℕ → Bool
is_short Plain n = false
is_short External n = nat_le n longest_short

-- where an inline value of n bytes ends
abbrev pub inline_end : Storage → ℕ → ℕ → ℕ
inline_end storage at n = if is_short storage n then at + 1 + n else aligned at + 4 + n

-- where a column's data end, if the data before them end at this place; a pointer is not aligned
abbrev pub column_end : Storage → ℕ → Width → ℕ
column_end storage at Missing = at
column_end storage at (Within n) = inline_end storage at n
column_end storage at Outside = at + pointer_size

-- where the data end after these columns, if the data before them end at this place
abbrev pub data_end_from : ℕ → List Storage → List Width → ℕ
data_end_from at [] ws = at
data_end_from at (storage ∷ storages) [] = at
data_end_from at (storage ∷ storages) (w ∷ ws) = data_end_from (column_end storage at w) storages ws

-- the size of the header of a tuple with so many columns, the key counted: 23 bytes, where there is a null a bit for each column, rounded up to 8
abbrev pub header_size : ℕ → Bool → ℕ
header_size columns has_null = (23 + (if has_null then (columns + 7) / 8 else 0) + 7) / 8 * 8

-- the size of a tuple: the header, the key's 8 bytes, and the data of the columns in order
abbrev pub size : List Storage → List Width → ℕ
size schema ws = header_size (length schema + 1) (list_any is_missing ws) + data_end_from 8 schema ws

-- whether a value of n bytes may be stored out of line: its column is EXTERNAL and it is long enough
abbrev pub may_go_out : Storage → ℕ → Bool
may_go_out Plain n = false
may_go_out External n = nat_le least_out n

-- whether a value, if it is not null, may be stored out of line
abbrev pub is_eligible : Storage → Option (List ℕ) → Bool
is_eligible storage None = false
is_eligible storage (Some bytes) = may_go_out storage (length bytes)

-- whether the value of a column, from 1, may be stored out of line
abbrev pub is_eligible_column : List Storage → Row → ℕ → Bool
is_eligible_column schema row column =
    option_map_or (λ storage. option_map_or (is_eligible storage) (slice_get row (column - 1)) false) (slice_get schema (column - 1)) false

-- the size of a row's tuple with every column out of line that may be
abbrev pub all_out_size : List Storage → Row → ℕ
all_out_size schema row = size schema (widths row (is_eligible_column schema row))
