-- The entries of keys up to a key stand before all others.
use Rattle.std.proofs.Common.{rules}
use Rattle.std.specs.Ordering.{int_cmp, is_le}
use Rattle.std.proofs.lemmas.List.Sorted.{IsPartitionPoint-from_clause}
use Rattle.row_versions.specs.Keys.{entry_cmp}
use Rattle.row_versions.proofs.Entries.{up_to_before}
use Rattle.row_versions.proofs.Parts.{parted, parts}
use Rattle.row_versions.proofs.keys.entries_up_to.Goals as goal

pub returns : goal.returns
returns c =
    let point = IsPartitionPoint-from_clause (λ e. is_le (int_cmp e.key c.args.key.now)) _ _ c.partition_point.ensures.partitioned (parted entry_cmp (λ e. is_le (int_cmp e.key c.args.key.now)) _ c.requires (λ e f less le. up_to_before c.args.key.now e f less le)) (λ a r q k. search rules) in
    (parts (λ e. is_le (int_cmp e.key c.args.key.now)) _ _ c.partition_point.ensures.bound point).front
