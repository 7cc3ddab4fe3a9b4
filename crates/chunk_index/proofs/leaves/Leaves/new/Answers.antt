use Rattle.std.proofs.Common.{refl}
use Rattle.chunk_index.proofs.Left.{first_leaves}
use Rattle.chunk_index.proofs.leaves.Leaves.new.Goals as goal

pub invariant_of-result : goal.invariant_of-result
invariant_of-result c = rw (c.in_ok-push.ensures.items, c.new-nodes.ensures.items, c.in_ok-first.ensures) (first_leaves, refl)
