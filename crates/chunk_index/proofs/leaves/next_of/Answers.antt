use Rattle.std.proofs.Common.{◌≡◌, ◌+◌, ◌∙◌, suc, sym, ap, arith, slice_get}
use Rattle.chunk_index.proofs.Found.{first_some, first_none}
use Rattle.chunk_index.proofs.leaves.next_of.Goals as goal

pub returns-in-Some : goal.returns-in-Some
returns-in-Some c =
    let next : c.args.at + 1 ≡ suc c.args.at = omega arith in
    c.bound.ensures ∙ sym (first_some c.args.nodes.now (suc c.args.at) c.in-Some.node.now (c.in-Some.ensures ∙ ap (λ k. slice_get c.args.nodes.now k) next))

pub returns-in-None : goal.returns-in-None
returns-in-None c =
    let next : c.args.at + 1 ≡ suc c.args.at = omega arith in
    sym (first_none c.args.nodes.now (suc c.args.at) (c.in-None.ensures ∙ ap (λ k. slice_get c.args.nodes.now k) next))
