use Rattle.std.proofs.Common.{◌≡◌, ◌+◌, ◌++◌, drop}
use Rattle.core_parts.proofs.Cells.{cells_from}
use Rattle.core_parts.proofs.rows.cells_with.Given as goal

abbrev pub invariant-loop-at : goal.invariant-loop-at
invariant-loop-at l = l.made ++ cells_from (l.at + 1) (drop l.at l.cells) l.sets ≡ cells_from 1 l.cells l.sets
