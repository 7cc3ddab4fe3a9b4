use Rattle.std.proofs.Common.{◌≢◌, Contains, ap, sym, subst, ◌∙◌}
use Rattle.chunk_index.specs.declared.entry.Pin.{Pin}
use Rattle.chunk_index.specs.Leaves.{leaf_at}
use Rattle.chunk_index.specs.Indexes.{IsLeaf, unswept}
use Rattle.chunk_index.specs.Nodes.{Content}
use Rattle.chunk_index.proofs.PinFacts.{no_holder}
use Rattle.chunk_index.proofs.Sound.{sound_of}
use Rattle.chunk_index.proofs.Splits.{leaf_left}
use Rattle.chunk_index.proofs.index.ChunkIndex.sweep_leaf.Goals as goal

pub invariant_of-self : goal.invariant_of-self
invariant_of-self c =
    let old = c.self.inside.leaves in
    let dead = c.args.dead.now in
    let leaf = leaf_at old.bounds c.args.from in
    let free : (pin : Pin) → Contains c.self.inside.pins pin → Pin.leaf pin ≢ leaf = λ pin held same. no_holder c.self.inside.pins c.leaf_at-leaf.result pin (sym c.in_default.ensures.holder) held (same ∙ sym c.leaf_at-leaf.ensures) in
    sound_of c.sweep-count.new.self c.self.inside.pins c.sweep-count.ensures.sound c.self.invariant.pins_sorted (λ pin held. subst (λ bs. IsLeaf bs (Pin.leaf pin)) (sym (ap (λ (l : Content). l.bounds) c.sweep-count.ensures.swept)) (leaf_left old.bounds (unswept old.bounds leaf dead old.entries) (Pin.leaf pin) leaf (free pin held) (c.self.invariant.pinned pin held)))

pub returns-clause-sound : goal.returns-clause-sound
returns-clause-sound c =
    let old = c.self.inside.leaves in
    let dead = c.args.dead.now in
    let leaf = leaf_at old.bounds c.args.from in
    let free : (pin : Pin) → Contains c.self.inside.pins pin → Pin.leaf pin ≢ leaf = λ pin held same. no_holder c.self.inside.pins c.leaf_at-leaf.result pin (sym c.in_default.ensures.holder) held (same ∙ sym c.leaf_at-leaf.ensures) in
    sound_of c.sweep-count.new.self c.self.inside.pins c.sweep-count.ensures.sound c.self.invariant.pins_sorted (λ pin held. subst (λ bs. IsLeaf bs (Pin.leaf pin)) (sym (ap (λ (l : Content). l.bounds) c.sweep-count.ensures.swept)) (leaf_left old.bounds (unswept old.bounds leaf dead old.entries) (Pin.leaf pin) leaf (free pin held) (c.self.invariant.pinned pin held)))
