use Rattle.std.proofs.Common.{[], sym, subst}
use Rattle.chunk_index.specs.Indexes.{IsIndex}
use Rattle.chunk_index.specs.Nodes.{Content}
use Rattle.chunk_index.proofs.Sound.{sound_empty}
use Rattle.chunk_index.proofs.index.ChunkIndex.new.Goals as goal

pub invariant_of-result : goal.invariant_of-result
invariant_of-result c = rw c.new-2.ensures (subst (λ (l : Content). IsIndex (record { entries = l.entries; bounds = l.bounds; pins = [] })) (sym c.in_ok-new.ensures.empty) sound_empty)

pub returns-clause-sound : goal.returns-clause-sound
returns-clause-sound c = rw c.new-2.ensures (subst (λ (l : Content). IsIndex (record { entries = l.entries; bounds = l.bounds; pins = [] })) (sym c.in_ok-new.ensures.empty) sound_empty)
