use Rattle.std.proofs.Common.{◌<◌, ◌≤◌, ◌∙◌, ◌∷◌, [], Contains, length, get_or, sym, ap, subst, arith}
use Rattle.std.proofs.lemmas.List.{get_or_default}
use Rattle.chunk_index.specs.declared.entry.TheConstants.{LEAF_ENTRIES}
use Rattle.chunk_index.specs.Entries.{with_entry}
use Rattle.chunk_index.specs.Nodes.{Node}
use Rattle.chunk_index.specs.Places.{split, added}
use Rattle.chunk_index.proofs.Changes.{changed_agree, changed_one, added_whole, added_split, on_ok}
use Rattle.chunk_index.proofs.leaves.add_at.Goals as goal

pub returns-then-len-ge-LEAF_ENTRIES-clause-added : goal.returns-then-len-ge-LEAF_ENTRIES-clause-added
returns-then-len-ge-LEAF_ENTRIES-clause-added c =
    let nodes = c.args.nodes.now.items in
    let d = c.index.result.now in
    let many : LEAF_ENTRIES ≤ length (Node.entries (get_or nodes c.args.at d)) = omega (arith, c.if-len-ge-LEAF_ENTRIES.true, c.len.ensures, ap (λ (m : Node). length m.entries) c.index.ensures) in
    on_ok c.split_at.result (λ is. is ∙ changed_agree (λ (m : Node). split m.bound (with_entry m.entries c.args.e)) (added c.args.e) nodes c.args.at d c.requires.within (added_split c.args.e (get_or nodes c.args.at d) many)) c.split_at.ensures.split

pub insert-requires-clause-absent : goal.insert-requires-clause-absent
insert-requires-clause-absent c = λ held. c.requires.absent c.index_mut-node.result.now (subst (λ (m : Node). Contains m.entries c.args.e) c.index_mut-node.ensures.value held)

pub returns-clause-added : goal.returns-clause-added
returns-clause-added c =
    let nodes = c.args.nodes.now.items in
    let d = c.index_mut-node.result.now in
    let few : length (Node.entries (get_or nodes c.args.at d)) < LEAF_ENTRIES = omega (arith, c.if-len-ge-LEAF_ENTRIES.false, c.len.ensures, ap (λ (m : Node). length m.entries) c.index.ensures, ap (λ (m : Node). length m.entries) (get_or_default nodes c.args.at c.index.result.now d c.requires.within)) in
    let grown : Node → Node = λ m. record { bound = m.bound; entries = with_entry m.entries c.args.e } in
    on_ok c.insert.result (λ is. changed_one (added c.args.e) nodes c.args.at d c.insert.new.self c.requires.within (added_whole c.args.e (get_or nodes c.args.at d) few ∙ ap (λ m. grown m ∷ []) (sym c.index_mut-node.ensures.value) ∙ ap (λ m. m ∷ []) (sym is))) c.insert.ensures.added
