use Rattle.std.proofs.Common.{◌∙◌, ◌∷◌, [], List, cond, sym, ap}
use Rattle.chunk_index.specs.Nodes.{Node}
use Rattle.chunk_index.specs.Places.{kept, left_by}
use Rattle.chunk_index.proofs.Changes.{changed_one, changed_none}
use Rattle.chunk_index.proofs.leaves.sweep_at.Goals as goal

pub returns-then-is_gone-clause-swept : goal.returns-then-is_gone-clause-swept
returns-then-is_gone-clause-swept c =
    let d = c.index_mut-node.result.now in
    let left = c.sweep-removed.new.self in
    let after : Node → List Node = λ node. kept (left_by c.args.dead.now node) in
    c.remove.ensures.items ∙ changed_none after c.args.nodes.now.items c.args.at d left c.requires.place (ap after (sym c.index_mut-node.ensures.value) ∙ ap kept (sym c.sweep-removed.ensures.swept) ∙ ap (λ b. cond {A = List Node} b [] (left ∷ [])) (sym c.is_gone.ensures ∙ c.if-is_gone.true))

pub returns-else-is_gone-clause-swept : goal.returns-else-is_gone-clause-swept
returns-else-is_gone-clause-swept c =
    let d = c.index_mut-node.result.now in
    let left = c.sweep-removed.new.self in
    let after : Node → List Node = λ node. kept (left_by c.args.dead.now node) in
    changed_one after c.args.nodes.now.items c.args.at d left c.requires.place (ap after (sym c.index_mut-node.ensures.value) ∙ ap kept (sym c.sweep-removed.ensures.swept) ∙ ap (λ b. cond {A = List Node} b [] (left ∷ [])) (sym c.is_gone.ensures ∙ c.if-is_gone.false))
