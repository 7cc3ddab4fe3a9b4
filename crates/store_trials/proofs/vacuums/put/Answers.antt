use Rattle.std.proofs.Common.{ℕ, List, ◌≡◌, Some, Contains, refl, sym, ap, ◌∙◌, subst, arith}
use Rattle.slot_page.specs.declared.line.Tid.{Tid}
use Rattle.slot_page.specs.Pages.{slot_of, item_in, put_tid, with_put_on}
use Rattle.slot_page.proofs.Pages.{item_put, put_was_free}
use Rattle.xact_status.specs.Xacts.{Xacts, IsAssigned}
use Rattle.chunk_relation.specs.declared.chunk.Chunk.{Chunk}
use Rattle.chunk_relation.specs.Chunks.{new_chunk}
use Rattle.chunk_relation.specs.Relations.{AreAssigned}
use Rattle.chunk_relation.proofs.Events.{assigned_put, new_assigned}
use Rattle.toast_store.specs.Stores.{Store, Names, IsStore, IsUnnamed}
use Rattle.toast_store.proofs.Laying.{not_there}
use Rattle.store_trials.proofs.Puts.{there, unnamed}
use Rattle.store_trials.proofs.vacuums.put.Goals as goal

pub insert-requires-clause-absent : goal.insert-requires-clause-absent
insert-requires-clause-absent g c = not_there c.put_chunk.new.self.index.entries _ (unnamed c.args.store.now c.put_chunk.new.self _ _ c.in_ok-tid.tid c.rel.ensures.sound c.in_ok-tid.ensures.put c.in_ok-tid.ensures.tid)

pub insert-requires-clause-names : goal.insert-requires-clause-names
insert-requires-clause-names g c = (_, there c.args.store.now c.put_chunk.new.self _ _ c.in_ok-tid.tid c.in_ok-tid.ensures.put c.in_ok-tid.ensures.tid, refl, refl)

pub insert-requires-clause-unnamed : goal.insert-requires-clause-unnamed
insert-requires-clause-unnamed g c = unnamed c.args.store.now c.put_chunk.new.self _ _ c.in_ok-tid.tid c.rel.ensures.sound c.in_ok-tid.ensures.put c.in_ok-tid.ensures.tid

-- its transaction was given its xid
put_assigned : (xacts : Xacts) (old new : Store) (size value_id seq xid : ℕ) (bytes : List ℕ) → IsAssigned xacts xid → AreAssigned xacts old.rel.pages
    → new ≡ record old { rel = record old.rel { pages = with_put_on size (new_chunk value_id seq xid bytes) old.rel.pages } } → AreAssigned xacts new.rel.pages
put_assigned xacts old new size value_id seq xid bytes given assigned puts = subst (λ (s : Store). AreAssigned xacts s.rel.pages) (sym puts) (assigned_put xacts size (new_chunk value_id seq xid bytes) old.rel.pages assigned (new_assigned xacts value_id seq xid bytes given))

pub returns-clause-assigned : goal.returns-clause-assigned
returns-clause-assigned g c =
    let given : IsAssigned c.args.xacts.now c.args.xid = record { from_first = omega arith; below_next = omega arith } in
    rw c.insert.ensures.rel (put_assigned c.args.xacts.now c.args.store.now c.put_chunk.new.self _ c.args.entry.0 c.args.entry.1 c.args.xid c.args.bytes.now given c.requires c.in_ok-tid.ensures.put)
