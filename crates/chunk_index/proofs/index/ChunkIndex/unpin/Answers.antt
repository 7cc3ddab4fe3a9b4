use Rattle.chunk_index.proofs.Sound.{sound_unpin}
use Rattle.chunk_index.proofs.index.ChunkIndex.unpin.Goals as goal

pub invariant_of-self : goal.invariant_of-self
invariant_of-self c = rw c.unpin.ensures.dropped (sound_unpin c.self.inside.leaves.entries c.self.inside.leaves.bounds c.self.inside.pins c.args.session c.self.invariant)

pub returns-clause-sound : goal.returns-clause-sound
returns-clause-sound c = rw c.unpin.ensures.dropped (sound_unpin c.self.inside.leaves.entries c.self.inside.leaves.bounds c.self.inside.pins c.args.session c.self.invariant)
