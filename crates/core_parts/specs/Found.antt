-- What a session finds of a value, and its handles.
use Rattle.std.specs.List.{filter}
use Rattle.std.specs.Prelude.{List, None, Option, Some, length, not, ℕ, ◌==◌}
use Rattle.tuple_layout.specs.declared.cell.Cell.{Cell}
use Rattle.tuple_layout.specs.declared.cell.Cell.TheVariants.{Inline, Null, Out}
use Rattle.read_steps.specs.declared.wanted.Held.{Held}
use Rattle.table_state.specs.declared.table.FoundRow.{FoundRow}
use Rattle.write_steps.specs.declared.stage.OldRow.{OldRow}
use Rattle.core_state.specs.declared.seat.Handle.{Handle}
use Rattle.read_steps.specs.declared.wanted.Held.TheVariants as helds

-- how many bytes the value of a cell has, if it is not null
abbrev pub size_found : Cell → Option ℕ
size_found Null = None
size_found (Inline value) = Some (length value)
size_found (Out pointer) = Some pointer.size

-- the value as a handle keeps it, if it is not null
abbrev pub held_found : Cell → Option Held
held_found Null = None
held_found (Inline value) = Some (helds.Inline value)
held_found (Out pointer) = Some (helds.Out pointer)

-- the handles without the one of a name
abbrev pub without_handle : List Handle → ℕ → List Handle
without_handle handles name = filter (λ other. not (other.name == name)) handles

-- a found row as a write takes it
abbrev pub as_old : FoundRow → OldRow
as_old row = record { tid = row.tid; stored = row.stored }
