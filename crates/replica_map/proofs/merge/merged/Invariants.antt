-- The row so far is what is made of the columns so far and of the values at their places.
use Rattle.std.proofs.Common.{◌≡◌, take}
use Rattle.replica_map.specs.Applies.{row_with}
use Rattle.replica_map.proofs.merge.merged.Given as goal

abbrev pub invariant-loop-i : goal.invariant-loop-i
invariant-loop-i l = l.row ≡ row_with (take l.i l.old) (take l.i l.columns)
