-- The entries of keys below a key stand before all others.
use Rattle.std.proofs.Common.{arith, rules, ◌∙◌}
use Rattle.std.specs.Ordering.{int_cmp, is_lt}
use Rattle.std.proofs.lemmas.List.Sorted.{IsPartitionPoint-from_clause}
use Rattle.std.proofs.lemmas.List.{take_all, length-drop}
use Rattle.row_versions.specs.Keys.{entry_cmp}
use Rattle.row_versions.proofs.Entries.{below_before}
use Rattle.row_versions.proofs.Parts.{parted, parts}
use Rattle.row_versions.proofs.keys.entries_from.Goals as goal

pub returns : goal.returns
returns c =
    let point = IsPartitionPoint-from_clause (λ e. is_lt (int_cmp e.key c.args.key.now)) _ _ c.partition_point.ensures.partitioned (parted entry_cmp (λ e. is_lt (int_cmp e.key c.args.key.now)) _ c.requires (λ e f less lt. below_before c.args.key.now e f less lt)) (λ a r q k. search rules) in
    take_all _ _ (omega (arith, length-drop c.partition_point.result c.args.entries.now)) ∙ (parts (λ e. is_lt (int_cmp e.key c.args.key.now)) _ _ c.partition_point.ensures.bound point).behind
