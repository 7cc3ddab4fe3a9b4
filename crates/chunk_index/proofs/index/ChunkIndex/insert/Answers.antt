use Rattle.std.proofs.Common.{sym, subst}
use Rattle.chunk_index.specs.declared.entry.Pin.{Pin}
use Rattle.chunk_index.specs.Indexes.{IsLeaf}
use Rattle.chunk_index.proofs.Sound.{sound_of}
use Rattle.chunk_index.proofs.Splits.{leaf_kept}
use Rattle.chunk_index.proofs.index.ChunkIndex.insert.Goals as goal

pub invariant_of-self-2 : goal.invariant_of-self-2
invariant_of-self-2 c =
    let old = c.self.inside.leaves in
    sound_of c.insert.new.self c.self.inside.pins c.in_ok-insert.ensures.sound c.self.invariant.pins_sorted (λ pin held. subst (λ bs. IsLeaf bs (Pin.leaf pin)) (sym c.in_ok-insert.ensures.bounds) (leaf_kept old.bounds old.entries c.args.e (Pin.leaf pin) (c.self.invariant.pinned pin held)))

pub returns-clause-sound : goal.returns-clause-sound
returns-clause-sound c =
    let old = c.self.inside.leaves in
    sound_of c.insert.new.self c.self.inside.pins c.in_ok-insert.ensures.sound c.self.invariant.pins_sorted (λ pin held. subst (λ bs. IsLeaf bs (Pin.leaf pin)) (sym c.in_ok-insert.ensures.bounds) (leaf_kept old.bounds old.entries c.args.e (Pin.leaf pin) (c.self.invariant.pinned pin held)))
