use Rattle.std.proofs.Common.{◌≡◌, ◌∙◌, ◌∷◌, [], List, Contains, sym, ap, subst}
use Rattle.std.specs.List.{slice_set as set}
use Rattle.chunk_index.specs.Entries.{with_entry}
use Rattle.chunk_index.specs.Nodes.{Node}
use Rattle.chunk_index.specs.Places.{split}
use Rattle.chunk_index.proofs.Changes.{changed_two}
use Rattle.chunk_index.proofs.leaves.split_at.Goals as goal

pub split-requires-clause-absent : goal.split-requires-clause-absent
split-requires-clause-absent c = λ held. c.requires.takes.absent c.index.result.now (subst (λ (m : Node). Contains m.entries c.args.e) c.index.ensures held)

pub returns-clause-split : goal.returns-clause-split
returns-clause-split c =
    let nodes = c.args.nodes.now.items in
    let d = c.index.result.now in
    let halves : Node → List Node = λ m. split m.bound (with_entry m.entries c.args.e) in
    let parts : halves d ≡ c.in_ok-lower.lower ∷ c.in_ok-lower.upper ∷ [] = λ i. sym c.in_ok-lower.ensures.lower i ∷ sym c.in_ok-lower.ensures.upper i ∷ [] in
    ap (λ ns. set ns c.args.at c.in_ok-lower.lower) c.in_ok-insert.ensures.items ∙ changed_two halves nodes c.args.at d c.in_ok-lower.lower c.in_ok-lower.upper c.requires.takes.within (ap halves (sym c.index.ensures) ∙ parts)
