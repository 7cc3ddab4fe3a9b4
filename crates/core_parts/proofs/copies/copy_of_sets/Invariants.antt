use Rattle.std.proofs.Common.{◌≡◌, take}
use Rattle.core_parts.proofs.copies.copy_of_sets.Given as goal

abbrev pub invariant-loop-set : goal.invariant-loop-set
invariant-loop-set l = l.copy ≡ take l.set-index l.set-items
