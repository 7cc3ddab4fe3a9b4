use Rattle.std.proofs.Common.{subst}
use Rattle.chunk_index.specs.Leaves.{leaf_at}
use Rattle.chunk_index.specs.Indexes.{IsIndex}
use Rattle.toast_store.proofs.Names.{store_swept}
use Rattle.toast_store.proofs.store.ToastStore.sweep_leaf.Goals as goal

pub invariant_of-self : goal.invariant_of-self
invariant_of-self c =
    rw c.sweep_leaf.ensures.swept
    (store_swept (record { rel = c.self.inside.rel; index = c.self.inside.index }) (leaf_at c.self.inside.index.bounds c.args.from) c.args.dead.now c.self.invariant (subst IsIndex c.sweep_leaf.ensures.swept c.sweep_leaf.ensures.sound))

pub returns-clause-sound : goal.returns-clause-sound
returns-clause-sound c = invariant_of-self c
