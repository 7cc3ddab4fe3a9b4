-- The row that the bytes of a tuple store.
use Rattle.std.specs.Prelude.{ℕ, ℤ, ◌+◌, ◌-◌, ◌/◌, ◌%◌, ◌^◌, Bool, true, ◌&&◌, ◌==◌, List, [], ◌∷◌, suc, length, take, drop, Option, Some, None, slice_index, nat_le, nat_lt, if◌then◌else◌}
use Rattle.std.specs.List.{list_all}
use Rattle.std.specs.Str.{bytes_eq}
use Rattle.std.specs.Int.{w32, w64, from_le_bytes, cast_signed}
use Rattle.external_pointer.specs.declared.external.Pointer.{Pointer}
use Rattle.external_pointer.specs.Fault.{word_at}
use Rattle.tuple_layout.specs.declared.Storage.{Storage}
use Rattle.tuple_layout.specs.declared.cell.Cell.{Cell}
use Rattle.tuple_layout.specs.declared.cell.Cell.TheVariants.{Null, Inline, Out}
use Rattle.tuple_layout.specs.declared.cell.Stored.{Stored}
use Rattle.tuple_layout.specs.Sizes.{aligned, column_end}
use Rattle.tuple_layout.specs.Tuples.{cell_width, tuple}
use Rattle.tuple_layout.specs.Faults.{bitmap_in, is_present, start_in}

-- ---- a cell

-- the pointer at the front of bytes
abbrev pub pointer_at : List ℕ → Pointer
pointer_at bytes = record { size = word_at 6 bytes; value_id = word_at 10 bytes; toast_rel = word_at 14 bytes }

-- the value at the front of bytes behind a header of one byte, and behind one of four bytes
abbrev pub short_at : List ℕ → List ℕ
short_at bytes = take (slice_index bytes 0 / 2 - 1) (drop 1 bytes)

abbrev pub plain_at : List ℕ → List ℕ
plain_at bytes = take (from_le_bytes w32 bytes / 4 - 4) (drop 4 bytes)

-- the cell at the front of the rest of the data, where the data before it end at this place: a pointer begins with 1, a short value with another odd byte, and any other with zeros up to the next multiple of 4
abbrev pub cell_at : ℕ → List ℕ → Cell
cell_at at rest =
    if slice_index rest 0 == 1 then Out (pointer_at rest)
    else if slice_index rest 0 % 2 == 1 then Inline (short_at rest)
    else Inline (plain_at (drop (aligned at - at) rest))

-- the same, null where the bitmap says so
abbrev pub cell_by : Bool → ℕ → List ℕ → Cell
cell_by there at rest = if there then cell_at at rest else Null

-- ---- a row

-- the cells of columns, by which of them are not null
abbrev pub cells_from : (ℕ → Bool) → ℕ → List Storage → List ℕ → List Cell
cells_from there at [] rest = []
cells_from there at (storage ∷ storages) rest =
    let cell = cell_by (there 0) at rest in
    let end = column_end storage at (cell_width cell) in
    cell ∷ cells_from (λ k. there (suc k)) end storages (drop (end - at) rest)

-- the cells, and the key, that stand where a tuple has them
abbrev pub cells_in : List Storage → List ℕ → List Cell
cells_in schema bytes = cells_from (λ k. is_present (bitmap_in bytes) (k + 1)) 8 schema (drop (start_in bytes + 8) bytes)

abbrev pub key_in : List ℕ → ℤ
key_in bytes = cast_signed w64 (from_le_bytes w64 (take 8 (drop (start_in bytes) bytes)))

abbrev pub found_in : List Storage → List ℕ → Stored
found_in schema bytes = record { key = key_in bytes; cells = cells_in schema bytes }

-- whether a cell has a form (`HasForm`)
abbrev pub has_form : Cell → Bool
has_form Null = true
has_form (Inline value) = nat_lt (length value + 4) (2 ^ 30)
has_form (Out p) = nat_le p.size 1073741819 && (nat_lt p.value_id (2 ^ 32) && nat_lt p.toast_rel (2 ^ 32))

-- whether the bytes are the tuple of a row
abbrev pub is_tuple_of : List Storage → List ℕ → Stored → Bool
is_tuple_of schema bytes stored = list_all has_form stored.cells && bytes_eq bytes (tuple schema stored)

-- the row that the bytes store; none where they are no tuple of the schema
abbrev pub stored_in : List Storage → List ℕ → Option Stored
stored_in schema bytes = let stored = found_in schema bytes in if is_tuple_of schema bytes stored then Some stored else None
