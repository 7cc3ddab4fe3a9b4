use Rattle.std.proofs.Common.{rules}
use Rattle.std.proofs.lemmas.List.Sorted.{IsPartitionPoint-from_clause}
use Rattle.chunk_index.specs.Entries.{comes_before}
use Rattle.chunk_index.specs.Nodes.{Node}
use Rattle.chunk_index.specs.Places.{last_passes}
use Rattle.chunk_index.proofs.Placed.{passed_parts, parted_in}
use Rattle.chunk_index.proofs.Wants.{before_down}
use Rattle.chunk_index.proofs.leaves.passed.Goals as goal

pub returns : goal.returns
returns c =
    let wanted = c.args.wanted.now in
    let test = comes_before wanted.value_id wanted.from wanted.after in
    let down = before_down wanted.value_id wanted.from wanted.after in
    let parts = IsPartitionPoint-from_clause (λ (n : Node). last_passes test n.entries) c.args.nodes.now c.partition_point.result c.partition_point.ensures.partitioned (passed_parts test down c.args.nodes.now c.requires) (λ a r f' q. search rules) in
    parted_in test down c.args.nodes.now c.partition_point.result c.requires c.partition_point.ensures.bound parts
