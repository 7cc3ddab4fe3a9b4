use Rattle.std.proofs.Common.{ℕ, ◌≡◌, Some, Contains, refl, ap, ◌∙◌, subst}
use Rattle.slot_page.specs.declared.line.Tid.{Tid}
use Rattle.slot_page.specs.Pages.{slot_of, item_in, put_tid, with_put_on}
use Rattle.slot_page.proofs.Pages.{item_put, put_was_free}
use Rattle.chunk_relation.specs.declared.chunk.Chunk.{Chunk}
use Rattle.toast_store.specs.Stores.{Store, Names, IsStore, IsUnnamed}
use Rattle.toast_store.proofs.Laying.{not_there}
use Rattle.store_trials.proofs.Puts.{there, unnamed}
use Rattle.store_trials.proofs.fetches.put.Goals as goal

pub insert-requires-clause-absent : goal.insert-requires-clause-absent
insert-requires-clause-absent g c = not_there c.put_chunk.new.self.index.entries _ (unnamed c.args.store.now c.put_chunk.new.self _ _ c.in_ok-tid.tid c.rel.ensures.sound c.in_ok-tid.ensures.put c.in_ok-tid.ensures.tid)

pub insert-requires-clause-names : goal.insert-requires-clause-names
insert-requires-clause-names g c = (_, there c.args.store.now c.put_chunk.new.self _ _ c.in_ok-tid.tid c.in_ok-tid.ensures.put c.in_ok-tid.ensures.tid, refl, refl)

pub insert-requires-clause-unnamed : goal.insert-requires-clause-unnamed
insert-requires-clause-unnamed g c = unnamed c.args.store.now c.put_chunk.new.self _ _ c.in_ok-tid.tid c.rel.ensures.sound c.in_ok-tid.ensures.put c.in_ok-tid.ensures.tid
