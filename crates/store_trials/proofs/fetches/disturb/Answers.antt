use Rattle.std.proofs.Common.{ℕ, ◌≡◌, ◌≤◌, ◌++◌, cond, Option, Some, None, List, [], refl, sym, ap, ◌∙◌, subst, arith}
use Rattle.std.specs.Prelude.{is_some}
use Rattle.std.specs.Option.{option_map_or}
use Rattle.std.specs.List.Sorted.{IsSorted}
use Rattle.slot_page.specs.declared.line.Tid.{Tid}
use Rattle.slot_page.specs.declared.line.LinePointer.{LinePointer}
use Rattle.slot_page.specs.Tids.{tid_cmp}
use Rattle.slot_page.specs.DeadSlots.{dead_tids}
use Rattle.slot_page.specs.Pages.{item_in, page_at}
use Rattle.slot_page.proofs.Gathered.{dead_tids_sorted}
use Rattle.xact_status.specs.Xacts.{Xacts, IsAssigned, next_xid}
use Rattle.chunk_relation.specs.declared.chunk.Chunk.{Chunk}
use Rattle.chunk_relation.specs.Relations.{AreAssigned, with_ended}
use Rattle.chunk_relation.proofs.Events.{assigned_pruned}
use Rattle.chunk_index.specs.Leaves.{Leaf}
use Rattle.chunk_index.specs.Pinned.{holder_of}
use Rattle.chunk_index.specs.Indexes.{Index, after_sweep, swept_index}
use Rattle.toast_store.specs.Stores.{Store}
use Rattle.store_trials.proofs.Assigned.{assigned_marked}
use Rattle.store_trials.proofs.Readers.{pins_swept}
use Rattle.store_trials.proofs.fetches.disturb.Goals as goal

-- transactions 3 and 4 were given their xids
given : (xacts : Xacts) (xid : ℕ) → 5 ≤ next_xid xacts → 3 ≤ xid → xid ≤ 4 → IsAssigned xacts xid
given xacts xid next from to = record { from_first = omega (arith, from); below_next = omega (arith, next, to) }

-- a chunk of transaction 3 is put, and ended by transaction 4
put_and_ended : (xacts : Xacts) (old store later : Store) (tid : Tid) → 5 ≤ next_xid xacts → ((x : Xacts) → IsAssigned x 3 → AreAssigned x old.rel.pages → AreAssigned x store.rel.pages) → AreAssigned xacts old.rel.pages
    → later ≡ record store { rel = record store.rel { pages = cond (is_some (item_in store.rel.pages tid)) (with_ended 4 store.rel.pages tid) store.rel.pages } } → AreAssigned xacts later.rel.pages
put_and_ended xacts old store later tid next put assigned is =
    subst (λ (s : Store). AreAssigned xacts s.rel.pages) (sym is) (assigned_marked xacts 4 store.rel.pages (Some (record { value_id = 0; seq = 0; tid = tid })) (given xacts 4 next (omega arith) (omega arith)) (put xacts (given xacts 3 next (omega arith) (omega arith)) assigned))

-- what was gathered into an empty list is in order
gathered_sorted : (page : ℕ) (slots : List (LinePointer Chunk)) (before after : List Tid) → after ≡ before ++ dead_tids page slots → before ≡ [] → IsSorted tid_cmp after
gathered_sorted page slots before after is empty = subst (IsSorted tid_cmp) (sym (is ∙ ap (λ ts. ts ++ dead_tids page slots) empty)) (dead_tids_sorted page slots)

pub prune_page-requires-clause-assigned : goal.prune_page-requires-clause-assigned
prune_page-requires-clause-assigned g c = put_and_ended c.args.xacts.now c.args.store.now c.put.new.store c.end_chunk.new.store c.in_ok-tid.tid c.requires.next c.in_ok-tid.ensures.assigned c.requires.assigned c.end_chunk.ensures.ended

pub sweep_leaf-requires : goal.sweep_leaf-requires
sweep_leaf-requires g c = gathered_sorted (Tid.page c.in_ok-tid.tid) (page_at c.prune_page.new.self.rel.pages (Tid.page c.in_ok-tid.tid)) _ _ c.in_ok-prune_page.ensures.gathered c.new-dead.ensures

pub returns-in_err-prune_page-clause-assigned : goal.returns-in_err-prune_page-clause-assigned
returns-in_err-prune_page-clause-assigned g c =
    subst (λ (s : Store). AreAssigned c.args.xacts.now s.rel.pages) (sym c.in_err-prune_page.ensures.unchanged)
    (put_and_ended c.args.xacts.now c.args.store.now c.put.new.store c.end_chunk.new.store c.in_ok-tid.tid c.requires.next c.in_ok-tid.ensures.assigned c.requires.assigned c.end_chunk.ensures.ended)

pub returns-clause-pins : goal.returns-clause-pins
returns-clause-pins g c =
    ap (λ (s : Store). s.index.pins) c.sweep_leaf.ensures.swept ∙ pins_swept _ _ _
    ∙ ap (λ (s : Store). s.index.pins) c.in_ok-prune_page.ensures.pruned ∙ ap (λ (s : Store). s.index.pins) c.end_chunk.ensures.ended ∙ c.in_ok-tid.ensures.pins

pub returns-clause-assigned : goal.returns-clause-assigned
returns-clause-assigned g c =
    let before = put_and_ended c.args.xacts.now c.args.store.now c.put.new.store c.end_chunk.new.store c.in_ok-tid.tid c.requires.next c.in_ok-tid.ensures.assigned c.requires.assigned c.end_chunk.ensures.ended in
    subst (λ (s : Store). AreAssigned c.args.xacts.now s.rel.pages) (sym c.sweep_leaf.ensures.swept)
    (subst (λ (s : Store). AreAssigned c.args.xacts.now s.rel.pages) (sym c.in_ok-prune_page.ensures.pruned) (assigned_pruned c.args.xacts.now 5 c.end_chunk.new.store.rel.pages (Tid.page c.in_ok-tid.tid) before))
