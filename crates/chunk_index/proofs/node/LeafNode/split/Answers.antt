use Rattle.std.proofs.Common.{◌≡◌, ◌≤◌, ◌∙◌, length, drop, slice_get, ap, arith}
use Rattle.chunk_index.specs.declared.entry.TheConstants.{LEAF_ENTRIES, LOWER_ENTRIES}
use Rattle.chunk_index.specs.Entries.{with_entry}
use Rattle.chunk_index.proofs.Changes.{length_with}
use Rattle.chunk_index.proofs.node.LeafNode.split.Goals as goal

pub from_place-requires : goal.from_place-requires
from_place-requires c =
    let items : c.put.new.entries.items ≡ with_entry c.self.inside.entries.items c.args.e = c.in_ok-put.ensures.put ∙ ap (λ es. with_entry es c.args.e) (c.in_ok-entries.ensures ∙ c.deref.ensures.value) in
    let full : LEAF_ENTRIES ≤ length c.self.inside.entries.items = rw (← c.self.view_is) at c.requires.full in
    omega (arith, full, ap length c.deref-3.ensures.value, ap length items, length_with c.args.e c.self.inside.entries.items)

pub returns-clause-upper : goal.returns-clause-upper
returns-clause-upper c =
    let items : c.put.new.entries.items ≡ with_entry c.self.inside.entries.items c.args.e = c.in_ok-put.ensures.put ∙ ap (λ es. with_entry es c.args.e) (c.in_ok-entries.ensures ∙ c.deref.ensures.value) in
    rw (← c.self.view_is) (λ i. record {
      bound = (c.nth.ensures ∙ ap (λ es. slice_get es LOWER_ENTRIES) (c.deref-2.ensures.value ∙ items)) i;
      entries = (c.in_ok-copy_of.ensures ∙ c.from_place.ensures ∙ ap (drop LOWER_ENTRIES) (c.deref-3.ensures.value ∙ items)) i;
    })
