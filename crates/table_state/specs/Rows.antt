-- A version's row: the cells of its tuple, each pointer replaced by the bytes of its value.
use Rattle.std.specs.Prelude.{ℕ, Bool, List, ◌==◌, map, Option, Some, None}
use Rattle.std.specs.List.{filter_map, list_any}
use Rattle.external_pointer.specs.declared.external.Pointer.{Pointer}
use Rattle.tuple_layout.specs.declared.Storage.{Storage}
use Rattle.tuple_layout.specs.declared.cell.Cell.{Cell}
use Rattle.tuple_layout.specs.declared.cell.Cell.TheVariants.{Null, Inline, Out}
use Rattle.tuple_layout.specs.Places.{Row}
use Rattle.table_state.specs.Cells.{cells_in}
use Rattle.toast_store.specs.Stores.{Store}
use Rattle.toast_store.specs.Values.{value_in}

-- the value of a cell: a pointer's is the bytes of the chunks under its id, joined
abbrev pub cell_value : Store → Cell → Option (List ℕ)
cell_value store Null = None
cell_value store (Inline value) = Some value
cell_value store (Out pointer) = Some (value_in store pointer)

-- the row of a tuple
abbrev pub row_of : List Storage → Store → List ℕ → Row
row_of schema store tuple = map (cell_value store) (cells_in schema tuple)

-- the pointer of a cell, if it has one
abbrev pub pointer_of : Cell → Option Pointer
pointer_of Null = None
pointer_of (Inline value) = None
pointer_of (Out pointer) = Some pointer

-- the pointers of cells, in order
abbrev pub pointers_in : List Cell → List Pointer
pointers_in cells = filter_map pointer_of cells

-- whether cells have a pointer with a value id
abbrev pub has_id : ℕ → List Cell → Bool
has_id value_id cells = list_any (λ pointer. pointer.value_id == value_id) (pointers_in cells)
