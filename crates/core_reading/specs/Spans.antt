-- The span of a slice of a value of so many bytes.
use Rattle.std.specs.Prelude.{None, Option, Some, length, negsuc, pos, ℕ, ℤ, ◌≤◌}
use Rattle.slice_fetch.specs.declared.Span.{Span}
use Rattle.tuple_layout.specs.declared.cell.Stored.{Stored}
use Rattle.read_steps.specs.Reads.{cell_of}
use Rattle.table_state.specs.Tables.{longest_value}
use Rattle.core_state.specs.Begun.{cell_size, span_of}

-- none where the offset is negative
abbrev pub span_due : ℕ → ℤ → ℤ → Option Span
span_due size (pos offset) len = Some (span_of size (pos offset) len)
span_due size (negsuc n) len = None

-- a row has a column, from 1, whose value is not too long
pub record HasColumn (stored : Stored) (column : ℕ) : Type 0 where
  pub from_one : 1 ≤ column
  pub within : column ≤ length stored.cells
  pub most : cell_size (cell_of stored.cells column) ≤ longest_value
