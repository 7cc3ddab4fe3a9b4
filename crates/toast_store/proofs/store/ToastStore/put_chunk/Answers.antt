use Rattle.toast_store.proofs.Names.{store_put}
use Rattle.toast_store.proofs.store.ToastStore.put_chunk.Goals as goal

pub invariant_of-self-2 : goal.invariant_of-self-2
invariant_of-self-2 c = rw c.in_ok-tid.ensures.put (store_put (record { rel = c.self.inside.rel; index = c.self.inside.index }) _ _ c.self.invariant c.requires.least c.requires.most)

pub returns-clause-sound : goal.returns-clause-sound
returns-clause-sound c = invariant_of-self-2 c
