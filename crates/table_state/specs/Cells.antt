-- The cells of a version's row, as its tuple stores them.
use Rattle.std.specs.Prelude.{ℕ, List}
use Rattle.tuple_layout.specs.StoredRows as rows
use Rattle.tuple_layout.specs.declared.Storage.{Storage}
use Rattle.tuple_layout.specs.declared.cell.Cell.{Cell}

-- the cells that a tuple stores; under a name of its own, since no fact of a table looks into the bytes
unfoldable pub cells_in : List Storage → List ℕ → List Cell
cells_in schema bytes = rows.cells_in schema bytes
