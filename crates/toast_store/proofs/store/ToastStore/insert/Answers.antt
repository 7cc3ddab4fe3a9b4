use Rattle.std.proofs.Common.{sym, subst}
use Rattle.toast_store.specs.Stores.{Store, IsUnnamed, NamesChunk}
use Rattle.toast_store.proofs.Names.{store_added}
use Rattle.toast_store.proofs.store.ToastStore.insert.Goals as goal

pub invariant_of-self-2 : goal.invariant_of-self-2
invariant_of-self-2 c =
    store_added (record { rel = c.self.inside.rel; index = c.self.inside.index }) c.insert.new.self c.args.e c.self.invariant c.in_ok-insert.ensures.sound c.in_ok-insert.ensures.entries
    (subst (λ (s : Store). NamesChunk s.rel.pages c.args.e) (sym c.self.view_is) c.requires.names)
    (subst (λ (s : Store). IsUnnamed s.index.entries c.args.e.tid) (sym c.self.view_is) c.requires.unnamed)

pub returns-clause-sound : goal.returns-clause-sound
returns-clause-sound c = invariant_of-self-2 c
