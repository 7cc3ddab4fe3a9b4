use Rattle.std.proofs.Common.{◌≡◌, drop, slice_get}
use Rattle.chunk_index.specs.Nodes.{entries_in}
use Rattle.chunk_index.proofs.leaves.entry_at.Given as goal

abbrev pub invariant-loop-node : goal.invariant-loop-node
invariant-loop-node l = slice_get (entries_in l.nodes) l.n ≡ slice_get (entries_in (drop l.node-index l.nodes)) l.left
