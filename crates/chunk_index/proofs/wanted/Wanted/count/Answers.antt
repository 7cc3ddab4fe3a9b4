use Rattle.std.proofs.Common.{rules}
use Rattle.std.proofs.lemmas.List.Sorted.{IsPartitionPoint-from_clause}
use Rattle.chunk_index.specs.Entries.{entry_cmp, reaches}
use Rattle.chunk_index.proofs.Searches.{partitioned}
use Rattle.chunk_index.proofs.Wants.{reaches_down}
use Rattle.chunk_index.proofs.wanted.Wanted.count.Goals as goal

pub returns-clause-count : goal.returns-clause-count
returns-clause-count c =
    let wanted = c.args.self.now in
    let test = reaches wanted.value_id wanted.to in
    let parted = partitioned entry_cmp test (reaches_down wanted.value_id wanted.to) c.args.entries.now c.requires in
    IsPartitionPoint-from_clause test c.args.entries.now c.partition_point.result c.partition_point.ensures.partitioned parted (λ a r f' q. search rules)
