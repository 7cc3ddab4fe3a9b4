use Rattle.std.proofs.Common.{◌≡◌, ◌≤◌, length, map, vec_capacity}
use Rattle.read_steps.specs.Columns.{value_in}
use Rattle.read_steps.proofs.columns.row_in.Given as goal

abbrev pub invariant-loop-cell : goal.invariant-loop-cell
invariant-loop-cell l = record { values : l.room.items ≡ map value_in l.yielded; room : length l.fn.cells ≤ vec_capacity l.room }
