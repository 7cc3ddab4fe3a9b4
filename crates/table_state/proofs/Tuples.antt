-- A stored row is found again in its tuple.
use Rattle.std.proofs.Common.{ℕ, ◌≡◌, ◌≤◌, Bool, true, false, List, Option, Some, None, length, refl, ap, ◌∙◌, if◌then◌else◌}
use Rattle.tuple_layout.specs.StoredRows.{found_in, is_tuple_of, stored_in}
use Rattle.tuple_layout.specs.Tuples.{HasTuple, tuple}
use Rattle.tuple_layout.specs.declared.Storage.{Storage}
use Rattle.tuple_layout.specs.declared.cell.Cell.{Cell}
use Rattle.tuple_layout.specs.declared.cell.Stored.{Stored}
use Rattle.tuple_layout.proofs.StoredRowLemmas.{stored_read}
use Rattle.table_state.specs.Cells.{cells_in}

-- what is found where the test holds
found_by : (found stored : Stored) (test : Bool) → (if test then Some found else None) ≡ Some stored → found.cells ≡ stored.cells
found_by found stored true is = ap (λ (o : Option Stored). cells_of found.cells o) is
  where
    cells_of : List Cell → Option Stored → List Cell
    cells_of other None = other
    cells_of other (Some row) = row.cells
found_by found stored false is = absurd (cc)

-- the cells of a row's tuple are the row's
pub cells_of_tuple : (schema : List Storage) (stored : Stored) → length schema ≤ 8 → HasTuple schema stored → cells_in schema (tuple schema stored) ≡ stored.cells
unfolding cells_in
cells_of_tuple schema stored few has = found_by (found_in schema (tuple schema stored)) stored (is_tuple_of schema (tuple schema stored) (found_in schema (tuple schema stored))) (stored_read schema stored few has)
