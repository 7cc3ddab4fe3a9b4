-- The entries below the new one stand before all others.
use Rattle.std.proofs.Common.{rules, ◌∷◌, ◌++◌, ◌∙◌, subst}
use Rattle.std.specs.Ordering.{is_lt}
use Rattle.std.specs.List.Sorted.{IsStrictlySortedBy}
use Rattle.std.proofs.lemmas.List.Sorted.{IsPartitionPoint-from_clause}
use Rattle.row_versions.specs.Keys.{entry_cmp}
use Rattle.row_versions.proofs.Entries.{less_before}
use Rattle.row_versions.proofs.Parts.{ArePart, parted, parts}
use Rattle.row_versions.proofs.keys.insert_entry.Goals as goal

pub returns : goal.returns
returns c =
    let sorted : IsStrictlySortedBy entry_cmp c.deref.result.now = rw c.deref.ensures.value c.requires.sorted in
    let point = IsPartitionPoint-from_clause (λ f. is_lt (entry_cmp f c.args.entry)) _ _ c.partition_point-at.ensures.partitioned (parted entry_cmp (λ f. is_lt (entry_cmp f c.args.entry)) _ sorted (λ e f less lt. less_before c.args.entry e f less lt)) (λ a r q k. search rules) in
    let split = subst (λ xs. ArePart (λ f. is_lt (entry_cmp f c.args.entry)) xs c.partition_point-at.result) c.deref.ensures.value (parts (λ f. is_lt (entry_cmp f c.args.entry)) _ _ c.partition_point-at.ensures.bound point) in
    c.in-Ok.ensures.items ∙ (λ i. split.front i ++ c.args.entry ∷ split.behind i)
