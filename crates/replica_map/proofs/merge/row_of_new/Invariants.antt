-- The row so far is what is made of the columns so far.
use Rattle.std.proofs.Common.{◌≡◌, take}
use Rattle.replica_map.specs.Applies.{new_row}
use Rattle.replica_map.proofs.merge.row_of_new.Given as goal

abbrev pub invariant-loop-column : goal.invariant-loop-column
invariant-loop-column l = l.row ≡ new_row (take l.column-index l.columns)
