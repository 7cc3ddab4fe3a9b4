use Rattle.std.proofs.Common.{ℕ, ◌<◌, get_or}
use Rattle.tuple_layout.specs.declared.cell.Cell.{Cell}
use Rattle.tuple_layout.specs.Tuples.{IsWithinLimits}
use Rattle.write_trials.proofs.written.are_within.Given as goal

abbrev pub invariant-loop-cell : goal.invariant-loop-cell
invariant-loop-cell l = (k : ℕ) (d : Cell) → k < l.cell-index → IsWithinLimits (get_or l.cells k d)
