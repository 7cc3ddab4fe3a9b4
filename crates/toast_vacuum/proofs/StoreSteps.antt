-- What holds of a store and a vacuum of it, through each event.
use Rattle.std.proofs.Common.{ℕ, ◌≡◌, ◌⊎◌, ◌+◌, inl, inr, Bool, true, false, cond, nat_lt, nat_eq, Option, Some, None, List, [], ◌∷◌, Contains, count_by, length, length-set, slice_set, drop, refl, sym, ap, ◌∙◌, subst, arith}
use Rattle.std.specs.Option.{option_map_or}
use Rattle.std.proofs.lemmas.Bool.{cases_Bool, not_from_false}
use Rattle.list_facts.proofs.Members.{none_in_nil}
use Rattle.slot_page.specs.declared.line.Tid.{Tid}
use Rattle.slot_page.specs.declared.line.LinePointer.{LinePointer}
use Rattle.slot_page.specs.declared.line.LinePointer.TheVariants.{Normal, Dead, Unused}
use Rattle.slot_page.specs.Slots.{item_of}
use Rattle.slot_page.specs.Pages.{page_at, slot_of, item_in, with_put_on}
use Rattle.slot_page.specs.Tids.{is_listed}
use Rattle.slot_page.proofs.Pages.{slot_of-written}
use Rattle.slot_page.proofs.Tids.{among_listed, listed_among}
use Rattle.xact_status.specs.Xacts.{Xacts, is_running, after_assign, after_commit, after_abort}
use Rattle.chunk_relation.specs.declared.chunk.Chunk.{Chunk}
use Rattle.chunk_relation.specs.Chunks.{chunk_stamp, ended}
use Rattle.chunk_relation.specs.Relations.{AreAssigned, Pages, with_ended}
use Rattle.chunk_index.specs.declared.entry.Entry.{Entry}
use Rattle.chunk_index.specs.declared.entry.Swept.TheVariants.{Next, End, Pinned}
use Rattle.chunk_index.specs.Leaves.{Leaf, is_below, is_from, leaf_at, next_bound}
use Rattle.chunk_index.specs.Pinned.{holder_of, without_pin}
use Rattle.chunk_index.specs.Indexes.{IsLeaf, after_batch, bounds_with, is_swept, swept_index, unswept}
use Rattle.chunk_index.proofs.Inserts.{entry_was}
use Rattle.chunk_index.proofs.PinnedLeaves.{next_stays}
use Rattle.chunk_index.proofs.Splits.{leaf_kept}
use Rattle.chunk_index.proofs.Sweeps.{swept_clean}
use Rattle.toast_store.specs.Between.{Adds}
use Rattle.toast_store.specs.Stores.{Store, IsStore}
use Rattle.toast_vacuum.specs.declared.stage.Stage.{Stage}
use Rattle.toast_vacuum.specs.declared.stage.Stage.TheVariants.{Pruning, Sweeping, Reaping, Ended}
use Rattle.toast_vacuum.specs.Vacuums.{Vacuuming}
use Rattle.toast_vacuum.specs.Machines.{CanStep, after_leaf, after_pages, begun, on_page, reaped_all, target_at, vacuum_at}
use Rattle.toast_vacuum.specs.Targets.{toast_ops}
use Rattle.toast_vacuum.specs.Holds.{IsCursor, IsHorizon, IsUnswept, PagesHold, VacuumHolds, waiting, waiting_at}
use Rattle.toast_vacuum.specs.Laws.{VacuumsStand}
use Rattle.toast_vacuum.proofs.Ascending.{ascending_drop, in_drop, reapable, sorted_of}
use Rattle.toast_vacuum.proofs.Cursors.{cursor_kept, cursor_leaf}
use Rattle.toast_vacuum.proofs.Statuses.{after_aborted, after_assigned, after_committed, horizon_aborted, horizon_assigned, horizon_committed}
use Rattle.toast_vacuum.proofs.PagesKept.{EndsAt, EndsSome, dead_empty, freed_pages, pages_after, pages_all_swept, pages_begun, pages_ended, pages_pruned, pages_put, pages_reaped, pages_swept, waits_after}

clash : true ≡ false → ⊥
clash e = cc

-- ---- others

begins : (xacts : Xacts) (s : Store) (horizon : ℕ) → IsHorizon xacts horizon → VacuumHolds xacts s (begun horizon (length s.rel.pages))
begins xacts s horizon bound = record {
  pages = pages_begun chunk_stamp xacts s.rel.pages horizon;
  sweep = record { swept = λ e held waits. absurd (none_waits (nat_eq (length s.rel.pages) 0) e.tid waits); cursor = cursor (nat_eq (length s.rel.pages) 0) };
  horizon = bound;
}
  where
    none_waits : (b : Bool) (t : Tid) → Contains (waiting_at [] (cond b Ended (Pruning 0))) t → ⊥
    none_waits true t held = none_in_nil t held
    none_waits false t held = none_in_nil t held

    cursor : (b : Bool) → IsCursor s.index.bounds (cond b Ended (Pruning 0))
    cursor true = tt
    cursor false = tt

put : (xacts : Xacts) (s : Store) (v : Vacuuming) (size : ℕ) (chunk : Chunk) → chunk.ender ≡ None → is_running xacts chunk.inserter ≡ true → VacuumHolds xacts s v → VacuumHolds xacts (record s { rel = record s.rel { pages = with_put_on size chunk s.rel.pages } }) v
put xacts s v size chunk unended runs holds = record { pages = pages_put chunk_stamp xacts size chunk s.rel.pages v runs unended holds.pages; sweep = holds.sweep; horizon = holds.horizon }

-- at most one chunk is ended
pub chunk_ends : (xid : ℕ) (pages : Pages) (tid : Tid) → EndsSome chunk_stamp xid pages (with_ended xid pages tid)
chunk_ends xid pages tid = record {
  pages = length-set pages tid.page (slice_set (page_at pages tid.page) tid.slot (ended xid (slot_of pages tid)));
  each = λ t. elim (slot_of-written pages tid t (ended xid (slot_of pages tid))) [
    | inl same ↦ inl same
    | inr h ↦ by_line t h.0 (slot_of pages tid) refl h.1
  ];
}
  where
    by_line : (t : Tid) → t ≡ tid → (line : LinePointer Chunk) → slot_of pages tid ≡ line → slot_of (with_ended xid pages tid) t ≡ ended xid line → (slot_of (with_ended xid pages tid) t ≡ slot_of pages t) ⊎ EndsAt chunk_stamp xid pages (with_ended xid pages tid) t
    by_line t same (Normal size chunk) was is = inr (record { item = chunk; later = record chunk { ender = Some xid }; was = ap (item_in pages) same ∙ ap item_of was; is = ap item_of is; inserter = refl; ender = refl })
    by_line t same Dead was is = inl (is ∙ sym was ∙ sym (ap (slot_of pages) same))
    by_line t same Unused was is = inl (is ∙ sym was ∙ sym (ap (slot_of pages) same))

chunk_ended : (xacts : Xacts) (s : Store) (v : Vacuuming) (tid : Tid) (xid : ℕ) → is_running xacts xid ≡ true → VacuumHolds xacts s v → VacuumHolds xacts (record s { rel = record s.rel { pages = with_ended xid s.rel.pages tid } }) v
chunk_ended xacts s v tid xid runs holds = record { pages = pages_ended chunk_stamp xacts xid s.rel.pages (with_ended xid s.rel.pages tid) v runs (chunk_ends xid s.rel.pages tid) holds.pages; sweep = holds.sweep; horizon = holds.horizon }

added : (xacts : Xacts) (old new : Store) (v : Vacuuming) (e : Entry) → Adds old new e → new.index.bounds ≡ bounds_with old.index.bounds old.index.entries e → VacuumHolds xacts old v → VacuumHolds xacts new v
added xacts old new v e adds bounds holds = record {
  pages = subst (λ pages. PagesHold chunk_stamp xacts pages v) (sym adds.pages) holds.pages;
  sweep = record {
    swept = λ f held waits. elim (entry_was old.index.entries e f (subst (λ es. Contains es f) adds.entries held)) [
      | inl there ↦ holds.sweep.swept f there waits
      | inr same ↦ absurd (dead_empty (slot_of old.rel.pages e.tid) adds.names.0 (holds.pages.dead e.tid (subst (λ (g : Entry). Contains (waiting v) g.tid) (sym same) waits)) adds.names.1)
    ];
    cursor = cursor_kept old.index.bounds new.index.bounds v.stage (λ leaf is. subst (λ bs. IsLeaf bs leaf) (sym bounds) (leaf_kept old.index.bounds old.index.entries e leaf is)) holds.sweep.cursor;
  };
  horizon = holds.horizon;
}

batch : (xacts : Xacts) (s : Store) (v : Vacuuming) (session : ℕ) (wanted : List Entry) → VacuumHolds xacts s v → VacuumHolds xacts (record s { index = after_batch s.index session wanted }) v
batch xacts s v session [] holds = holds
batch xacts s v session (first ∷ rest) holds = record { pages = holds.pages; sweep = holds.sweep; horizon = holds.horizon }

unpinned : (xacts : Xacts) (s : Store) (v : Vacuuming) (session : ℕ) → VacuumHolds xacts s v → VacuumHolds xacts (record s { index = record s.index { pins = without_pin s.index.pins session } }) v
unpinned xacts s v session holds = record { pages = holds.pages; sweep = holds.sweep; horizon = holds.horizon }

assigned : (xacts : Xacts) (s : Store) (v : Vacuuming) (session : ℕ) → VacuumHolds xacts s v → VacuumHolds (after_assign xacts session) s v
assigned xacts s v session holds = record { pages = pages_after chunk_stamp xacts (after_assign xacts session) s.rel.pages v (after_assigned xacts session v.horizon) holds.pages; sweep = holds.sweep; horizon = horizon_assigned xacts session v.horizon holds.horizon }

committed : (xacts : Xacts) (s : Store) (v : Vacuuming) (ends : ℕ) → is_running xacts ends ≡ true → VacuumHolds xacts s v → VacuumHolds (after_commit xacts ends) s v
committed xacts s v ends runs holds = record { pages = pages_after chunk_stamp xacts (after_commit xacts ends) s.rel.pages v (after_committed xacts ends v.horizon runs holds.horizon) holds.pages; sweep = holds.sweep; horizon = horizon_committed xacts ends v.horizon runs holds.horizon }

aborted : (xacts : Xacts) (s : Store) (v : Vacuuming) (ends : ℕ) → is_running xacts ends ≡ true → VacuumHolds xacts s v → VacuumHolds (after_abort xacts ends) s v
aborted xacts s v ends runs holds = record { pages = pages_after chunk_stamp xacts (after_abort xacts ends) s.rel.pages v (after_aborted xacts ends v.horizon runs holds.horizon) holds.pages; sweep = holds.sweep; horizon = horizon_aborted xacts ends v.horizon runs holds.horizon }

-- ---- the vacuum

may_step_at : (xacts : Xacts) (s : Store) (v : Vacuuming) (stage : Stage) → AreAssigned xacts s.rel.pages → VacuumHolds xacts s (record v { stage = stage }) → CanStep toast_ops xacts v s stage
may_step_at xacts s v (Pruning page) given holds = (holds.pages.place, omega (arith, holds.pages.place, holds.pages.within), given)
may_step_at xacts s v (Sweeping from) given holds = (sorted_of v.gathered holds.pages.ascending, holds.pages.dead)
may_step_at xacts s v (Reaping page at) given holds = (
  holds.pages.place,
  reapable toast_ops page (drop at v.gathered) s (ascending_drop at v.gathered holds.pages.ascending) (λ t held. (
    holds.pages.dead t held,
    record { by_none = λ e there same. holds.sweep.swept e there (subst (λ u. Contains (drop at v.gathered) u) (sym same) held) },
  )),
)
may_step_at xacts s v Ended given holds = tt

-- the pages of a store whose slots are freed one after another
pub store_reaped : (ts : List Tid) (s : Store) → reaped_all toast_ops ts s ≡ record s { rel = record s.rel { pages = freed_pages ts s.rel.pages } }
store_reaped [] s = refl
store_reaped (t ∷ ts) s = store_reaped ts (toast_ops.reaped s t)

-- where a sweep goes on, no entry before that names a listed slot
module _ (xacts : Xacts) (s : Store) (v : Vacuuming) (from : Option Entry) (sound : IsStore s) (holds : VacuumHolds xacts s (record v { stage = Sweeping from })) where
  not_before : (e : Entry) → Contains s.index.entries e → is_from from e ≡ false → is_listed v.gathered e.tid ≡ false
  not_before e there before = elim (cases_Bool (is_listed v.gathered e.tid)) [
    | inl listed ↦ absurd (clash (sym (holds.sweep.swept e there (listed_among v.gathered e.tid listed)) ∙ before))
    | inr unlisted ↦ unlisted
  ]

  beyond_next : (e : Entry) → Contains (unswept s.index.bounds from v.gathered s.index.entries) e → Contains v.gathered e.tid → is_below (next_bound s.index.bounds from) e ≡ false
  beyond_next e left waits = elim (cases_Bool (is_below (next_bound s.index.bounds from) e)) [
    | inl below ↦ absurd (clash (sym (among_listed v.gathered e.tid waits) ∙ (swept_clean s.index.bounds from v.gathered s.index.entries not_before).none e left below))
    | inr beyond ↦ beyond
  ]

  by_next : (next : Option Entry) → next_bound s.index.bounds from ≡ next → VacuumHolds xacts (record s { index = swept_index s.index from v.gathered }) (record v { stage = after_leaf from (option_map_or (λ n. Next n (count_by (is_swept s.index.bounds from v.gathered) s.index.entries)) next (End (count_by (is_swept s.index.bounds from v.gathered) s.index.entries))) })
  by_next (Some next) is = record {
    pages = pages_swept chunk_stamp xacts s.rel.pages v from (Some next) holds.pages;
    sweep = record {
      swept = λ e left waits. not_from_false (is_below (Some next) e) (sym (ap (λ n. is_below n e) is) ∙ beyond_next e left waits);
      cursor = next_stays s.index.bounds (unswept s.index.bounds from v.gathered s.index.entries) from next is;
    };
    horizon = holds.horizon;
  }
  by_next None is = record {
    pages = pages_all_swept chunk_stamp xacts s.rel.pages v from holds.pages;
    sweep = record { swept = λ e left waits. absurd (clash (sym (ap (λ n. is_below n e) is) ∙ beyond_next e left waits)); cursor = tt };
    horizon = holds.horizon;
  }

  by_holder : (leaf : Leaf) (o : Option ℕ) → leaf ≡ from → holder_of s.index.pins leaf ≡ o → VacuumHolds xacts (record s { index = option_map_or (λ h. s.index) o (swept_index s.index leaf v.gathered) }) (record v { stage = after_leaf from (option_map_or (λ h. Pinned h) o (option_map_or (λ n. Next n (count_by (is_swept s.index.bounds leaf v.gathered) s.index.entries)) (next_bound s.index.bounds leaf) (End (count_by (is_swept s.index.bounds leaf v.gathered) s.index.entries)))) })
  by_holder leaf (Some holder) same is = holds
  by_holder leaf None same is = subst (λ l. VacuumHolds xacts (record s { index = swept_index s.index l v.gathered }) (record v { stage = after_leaf from (option_map_or (λ n. Next n (count_by (is_swept s.index.bounds l v.gathered) s.index.entries)) (next_bound s.index.bounds l) (End (count_by (is_swept s.index.bounds l v.gathered) s.index.entries))) })) (sym same) (by_next (next_bound s.index.bounds from) refl)

  swept_leaf : VacuumHolds xacts (target_at toast_ops xacts v s (Sweeping from)) (vacuum_at toast_ops xacts v s (Sweeping from))
  swept_leaf =
      let leaf = leaf_at s.index.bounds from in
      subst (λ o. VacuumHolds xacts (record s { index = option_map_or (λ h. s.index) o (swept_index s.index leaf v.gathered) }) (record v { stage = after_leaf from (option_map_or (λ h. Pinned h) o (option_map_or (λ n. Next n (count_by (is_swept s.index.bounds leaf v.gathered) s.index.entries)) (next_bound s.index.bounds leaf) (End (count_by (is_swept s.index.bounds leaf v.gathered) s.index.entries)))) })) refl (by_holder leaf (holder_of s.index.pins leaf) (cursor_leaf s.index.bounds from sound.index.bounds_sorted holds.sweep.cursor) refl)

-- a page of the first round
made_page : (xacts : Xacts) (s : Store) (v : Vacuuming) (page : ℕ) → VacuumHolds xacts s (record v { stage = Pruning page }) → VacuumHolds xacts (target_at toast_ops xacts v s (Pruning page)) (vacuum_at toast_ops xacts v s (Pruning page))
made_page xacts s v page holds = record {
  pages = pages_pruned chunk_stamp xacts v s.rel.pages page (v.removed + toast_ops.newly xacts v.horizon s page) holds.pages;
  sweep = record { swept = λ e there waits. by_more (nat_lt (page + 1) v.pages) e waits; cursor = cursor_more (nat_lt (page + 1) v.pages) };
  horizon = holds.horizon;
}
  where
    by_none : (b : Bool) (ts : List Tid) (e : Entry) → Contains (waiting_at ts (cond b Ended (Sweeping None))) e.tid → IsUnswept (cond b Ended (Sweeping None)) e
    by_none true ts e waits = absurd (none_in_nil e.tid waits)
    by_none false ts e waits = refl

    by_more : (b : Bool) (e : Entry) → Contains (waiting_at (Vacuuming.gathered (vacuum_at toast_ops xacts v s (Pruning page))) (cond b (Pruning (page + 1)) (after_pages (length (Vacuuming.gathered (vacuum_at toast_ops xacts v s (Pruning page))))))) e.tid → IsUnswept (cond b (Pruning (page + 1)) (after_pages (length (Vacuuming.gathered (vacuum_at toast_ops xacts v s (Pruning page)))))) e
    by_more true e waits = tt
    by_more false e waits = by_none (nat_eq (length (Vacuuming.gathered (vacuum_at toast_ops xacts v s (Pruning page)))) 0) (Vacuuming.gathered (vacuum_at toast_ops xacts v s (Pruning page))) e waits

    cursor_none : (b : Bool) → IsCursor s.index.bounds (cond b Ended (Sweeping None))
    cursor_none true = tt
    cursor_none false = tt

    cursor_more : (b : Bool) → IsCursor s.index.bounds (cond b (Pruning (page + 1)) (after_pages (length (Vacuuming.gathered (vacuum_at toast_ops xacts v s (Pruning page))))))
    cursor_more true = tt
    cursor_more false = cursor_none (nat_eq (length (Vacuuming.gathered (vacuum_at toast_ops xacts v s (Pruning page)))) 0)

-- a page of the last round
reaped_page : (xacts : Xacts) (s : Store) (v : Vacuuming) (page at : ℕ) → VacuumHolds xacts s (record v { stage = Reaping page at }) → VacuumHolds xacts (target_at toast_ops xacts v s (Reaping page at)) (vacuum_at toast_ops xacts v s (Reaping page at))
reaped_page xacts s v page at holds = subst (λ x. VacuumHolds xacts x (vacuum_at toast_ops xacts v s (Reaping page at))) (sym (store_reaped (on_page page (drop at v.gathered)) s)) (record {
  pages = pages_reaped chunk_stamp xacts v s.rel.pages page at holds.pages;
  sweep = record {
    swept = λ e there waits. absurd (holds.sweep.swept e there (in_drop (length (on_page page (drop at v.gathered))) (drop at v.gathered) e.tid (waits_after chunk_stamp xacts v s.rel.pages page at holds.pages e.tid waits)));
    cursor = cursor_more (nat_lt (page + 1) v.pages);
  };
  horizon = holds.horizon;
})
  where
    cursor_more : (b : Bool) → IsCursor s.index.bounds (cond b (Reaping (page + 1) (at + length (on_page page (drop at v.gathered)))) Ended)
    cursor_more true = tt
    cursor_more false = tt

step_at : (xacts : Xacts) (s : Store) (v : Vacuuming) (stage : Stage) → IsStore s → VacuumHolds xacts s (record v { stage = stage }) → VacuumHolds xacts (target_at toast_ops xacts (record v { stage = stage }) s stage) (vacuum_at toast_ops xacts (record v { stage = stage }) s stage)
step_at xacts s v (Pruning page) sound holds = made_page xacts s v page holds
step_at xacts s v (Sweeping from) sound holds = swept_leaf xacts s v from sound holds
step_at xacts s v (Reaping page at) sound holds = reaped_page xacts s v page at holds
step_at xacts s v Ended sound holds = holds

pub vacuums_stand : VacuumsStand
vacuums_stand = record {
  begins = begins;
  put = put;
  ended = chunk_ended;
  added = added;
  batch = batch;
  unpinned = unpinned;
  assigned = assigned;
  committed = committed;
  aborted = aborted;
  may_step = λ xacts s v given holds. may_step_at xacts s v v.stage given holds;
  step = λ xacts s v sound holds. step_at xacts s v v.stage sound holds;
}
