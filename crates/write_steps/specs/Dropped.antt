-- The pointers of an old row that a new one does not keep.
use Rattle.std.specs.Prelude.{Bool, false, ◌==◌, ◌&&◌, not, nat_lt, if◌then◌else◌, Option, Some, None, List, [], ◌∷◌}
use Rattle.std.specs.List.{cons_option}
use Rattle.external_pointer.specs.declared.external.Pointer.{Pointer}
use Rattle.tuple_layout.specs.declared.cell.Cell.{Cell}
use Rattle.tuple_layout.specs.declared.cell.Cell.TheVariants.{Null, Inline, Out}

-- whether two pointers are one
abbrev pub same_pointer : Pointer → Pointer → Bool
same_pointer p q = (p.size == q.size) && (p.value_id == q.value_id) && (p.toast_rel == q.toast_rel)

-- whether a column has this pointer
abbrev pub keeps : Pointer → Cell → Bool
keeps p Null = false
keeps p (Inline value) = false
keeps p (Out q) = same_pointer p q

-- the pointer of an old column, if its value has bytes and the new column does not keep it
abbrev pub dropped_at : Cell → Cell → Option Pointer
dropped_at Null new = None
dropped_at (Inline value) new = None
dropped_at (Out p) new = if nat_lt 0 p.size && not (keeps p new) then Some p else None

-- the pointers of the old row that the new one does not keep, in the order of columns; without a new row, all
abbrev pub dropped_of : List Cell → List Cell → List Pointer
dropped_of [] news = []
dropped_of (cell ∷ cells) [] = cons_option (dropped_at cell Null) (dropped_of cells [])
dropped_of (cell ∷ cells) (new ∷ news) = cons_option (dropped_at cell new) (dropped_of cells news)
