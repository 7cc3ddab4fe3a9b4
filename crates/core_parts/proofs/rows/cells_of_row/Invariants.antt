use Rattle.std.proofs.Common.{◌≡◌, map}
use Rattle.core_state.specs.Begun.{cell_in_line}
use Rattle.core_parts.proofs.rows.cells_of_row.Given as goal

abbrev pub invariant-loop-value : goal.invariant-loop-value
invariant-loop-value l = l.cells ≡ map cell_in_line l.yielded
