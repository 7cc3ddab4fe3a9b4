-- The cells of a row after an update, column by column.
use Rattle.std.specs.List.{enumerate_from}
use Rattle.std.specs.Option.{option_map_or}
use Rattle.std.specs.Prelude.{List, map, ℕ}
use Rattle.tuple_layout.specs.declared.cell.Cell.{Cell}
use Rattle.command_set.specs.Plain.{value_set}
use Rattle.command_set.specs.declared.Set.{Set}
use Rattle.core_state.specs.Begun.{cell_in_line}

-- the cells of the columns from a number on
abbrev pub cells_from : ℕ → List Cell → List Set → List Cell
cells_from column cells sets = map (λ (column, cell). option_map_or cell_in_line (value_set sets column) cell) (enumerate_from column cells)
