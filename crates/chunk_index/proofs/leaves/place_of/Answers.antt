use Rattle.std.proofs.Common.{rules, arith}
use Rattle.std.proofs.lemmas.List.Sorted.{IsPartitionPoint-from_clause}
use Rattle.chunk_index.specs.Leaves.{is_from}
use Rattle.chunk_index.specs.Nodes.{Node}
use Rattle.chunk_index.proofs.Placed.{begun_parts, one_begun, place_is}
use Rattle.chunk_index.proofs.leaves.place_of.Goals as goal

pub overflow_sub-result : goal.overflow_sub-result
overflow_sub-result c =
    let test = λ (n : Node). is_from n.bound c.args.e.now in
    let parts = IsPartitionPoint-from_clause test c.args.nodes.now c.partition_point.result c.partition_point.ensures.partitioned (begun_parts c.args.nodes.now c.args.e.now c.requires) (λ a r f' q. search rules) in
    one_begun c.args.nodes.now c.args.e.now c.partition_point.result c.requires c.partition_point.ensures.bound parts

pub returns : goal.returns
returns c =
    let test = λ (n : Node). is_from n.bound c.args.e.now in
    let parts = IsPartitionPoint-from_clause test c.args.nodes.now c.partition_point.result c.partition_point.ensures.partitioned (begun_parts c.args.nodes.now c.args.e.now c.requires) (λ a r f' q. search rules) in
    let some = one_begun c.args.nodes.now c.args.e.now c.partition_point.result c.requires c.partition_point.ensures.bound parts in
    place_is c.args.nodes.now c.args.e.now c.partition_point.result c.requires c.partition_point.ensures.bound parts _ (omega (arith, some))
