use Rattle.std.proofs.Common.{rules}
use Rattle.std.proofs.lemmas.List.Sorted.{IsPartitionPoint-from_clause}
use Rattle.chunk_index.specs.Entries.{entry_cmp, comes_before}
use Rattle.chunk_index.proofs.Searches.{partitioned}
use Rattle.chunk_index.proofs.Wants.{before_down}
use Rattle.chunk_index.proofs.wanted.Wanted.start.Goals as goal

pub returns-clause-start : goal.returns-clause-start
returns-clause-start c =
    let wanted = c.args.self.now in
    let test = comes_before wanted.value_id wanted.from wanted.after in
    let parted = partitioned entry_cmp test (before_down wanted.value_id wanted.from wanted.after) c.args.entries.now c.requires in
    IsPartitionPoint-from_clause test c.args.entries.now c.partition_point.result c.partition_point.ensures.partitioned parted (λ a r f' q. search rules)
