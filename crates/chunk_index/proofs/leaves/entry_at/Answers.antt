use Rattle.std.proofs.Common.{◌≡◌, ◌<◌, ◌+◌, ◌-◌, ◌∙◌, length, get_or, slice_get, sym, ap, arith}
use Rattle.chunk_index.specs.Nodes.{Node}
use Rattle.chunk_index.proofs.Nths.{entry_here, entry_later, entry_none}
use Rattle.chunk_index.proofs.leaves.entry_at.Goals as goal

pub returns-then-left-len : goal.returns-then-left-len
returns-then-left-len c =
    let nodes = c.args.nodes.now in
    let k = c.loop-node.node-index in
    let d = c.node-item.result in
    let here : c.loop-node.left < length (Node.entries (get_or nodes k d)) = omega (arith, c.if-left-len.true, c.len.ensures, ap (λ (m : Node). length m.entries) c.node-item.is) in
    c.get.ensures ∙ ap (λ (m : Node). slice_get m.entries c.loop-node.left) c.node-item.is ∙ entry_here nodes k d c.loop-node.left c.loop-node-test.true here ∙ sym c.loop-node.invariant

pub loop-node-preserved : goal.loop-node-preserved
loop-node-preserved c =
    let nodes = c.args.nodes.now in
    let k = c.loop-node.node-index in
    let d = c.node-item.result in
    let rest : c.loop-node.left ≡ length (Node.entries (get_or nodes k d)) + (c.loop-node.left - c.len-left.result) = omega (arith, c.if-left-len.false, c.len.ensures, c.len-left.ensures, ap (λ (m : Node). length m.entries) c.node-item.is) in
    c.loop-node.invariant ∙ entry_later nodes k d c.loop-node.left (c.loop-node.left - c.len-left.result) c.loop-node-test.true rest

pub returns : goal.returns
returns c = sym (c.loop-node.invariant ∙ entry_none c.args.nodes.now c.loop-node.node-index c.loop-node.left c.loop-node-test.false)
