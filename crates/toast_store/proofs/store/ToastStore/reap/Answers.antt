use Rattle.std.proofs.Common.{sym, subst}
use Rattle.toast_store.specs.Stores.{Store, IsUnnamed}
use Rattle.toast_store.proofs.Names.{store_reaped}
use Rattle.toast_store.proofs.store.ToastStore.reap.Goals as goal

pub invariant_of-self : goal.invariant_of-self
invariant_of-self c =
    rw c.reap.ensures (store_reaped (record { rel = c.self.inside.rel; index = c.self.inside.index }) c.args.tid c.self.invariant (subst (λ (s : Store). IsUnnamed s.index.entries c.args.tid) (sym c.self.view_is) c.requires.unnamed))

pub returns-clause-sound : goal.returns-clause-sound
returns-clause-sound c = invariant_of-self c
