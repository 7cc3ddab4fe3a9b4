-- What holds of a session's batch, through each event.
use Rattle.std.proofs.Common.{ℕ, ◌≡◌, ◌≢◌, ◌+◌, ◌-◌, ◌==◌, inl, inr, Bool, true, false, cond, if◌then◌else◌, nat_lt, nat_eq, Option, Some, None, List, [], ◌∷◌, Contains, count_by, length, drop, slice_get, refl, sym, ap, ◌∙◌, subst, arith}
use Rattle.std.specs.Option.{option_map_or}
use Rattle.std.proofs.lemmas.Bool.{and_right, cases_Bool}
use Rattle.std.proofs.lemmas.Bool.Decides.{nat_tests}
use Rattle.std.proofs.lemmas.List.{drop-drop}
use Rattle.list_facts.proofs.Members.{none_in_nil}
use Rattle.slot_page.specs.declared.line.Tid.{Tid}
use Rattle.slot_page.specs.Slots.{IsDead}
use Rattle.slot_page.specs.Pages.{slot_of, with_put_on}
use Rattle.slot_page.specs.Tids.{is_listed}
use Rattle.slot_page.proofs.Pages.{slot_of-put}
use Rattle.slot_page.proofs.Tids.{listed_among}
use Rattle.xact_status.specs.Xacts.{Xacts}
use Rattle.chunk_relation.specs.declared.chunk.Chunk.{Chunk}
use Rattle.chunk_relation.specs.Relations.{with_ended}
use Rattle.chunk_index.specs.declared.entry.Entry.{Entry}
use Rattle.chunk_index.specs.declared.entry.Swept.TheVariants.{Next, End, Pinned}
use Rattle.chunk_index.specs.Leaves.{Leaf, in_leaf, leaf_at, leaf_of, next_bound}
use Rattle.chunk_index.specs.Pinned.{IsPinnedFrom, holder_of, pin_of, without_pin}
use Rattle.chunk_index.specs.Indexes.{Index, IsLeaf, after_batch, batch_of, is_swept, swept_index}
use Rattle.chunk_index.proofs.Batches.{batch_holds, entries-batch, wanted_are}
use Rattle.chunk_index.proofs.PinFacts.{no_holder, pin_held, pin_of-batch, pin_of-with, pin_of-without}
use Rattle.chunk_index.proofs.PinnedLeaves.{batch_pinned_from, next_at_most, spared}
use Rattle.toast_store.specs.declared.walk.WalkStage.{WalkStage}
use Rattle.toast_store.specs.declared.walk.WalkStage.TheVariants.{Empty, Asking, Reading, Over}
use Rattle.toast_store.specs.Between.{Adds}
use Rattle.toast_store.specs.Stores.{Store, IsStore, Names}
use Rattle.toast_store.specs.Walks.{Walking, IsBatchHeld, IsStage, MayAsk, batch_left, entry_at, index_after, index_walked, new_walk, stage_after, stage_of_batch, walk_after, wanted_by}
use Rattle.toast_store.proofs.Held.{add_keeps_batch, batch_named, held_new, held_stepped, sweep_keeps_batch, taken_left}
use Rattle.toast_vacuum.specs.declared.stage.Stage.{Stage}
use Rattle.toast_vacuum.specs.declared.stage.Stage.TheVariants.{Pruning, Sweeping, Reaping, Ended}
use Rattle.toast_vacuum.specs.Vacuums.{Vacuuming}
use Rattle.toast_vacuum.specs.Machines.{after_leaf, after_pages, begun, on_page, target_at, vacuum_at}
use Rattle.toast_vacuum.specs.Targets.{toast_ops}
use Rattle.toast_vacuum.specs.Holds.{BatchHolds, IsUnpassed, IsUnswept, VacuumHolds}
use Rattle.toast_vacuum.specs.Laws.{BatchesStand}
use Rattle.toast_vacuum.proofs.Ascending.{in_drop}
use Rattle.toast_vacuum.proofs.Cursors.{at_most_leaf, cursor_leaf}
use Rattle.toast_vacuum.proofs.PagesKept.{dead_empty, dead_none}
use Rattle.toast_vacuum.proofs.StoreSteps.{chunk_ends, store_reaped}

-- ---- others

new : (s : Store) (value_id first end session : ℕ) (stage : Stage) → BatchHolds s (new_walk value_id first end session) stage
new s value_id first end session stage = record {
  held = held_new value_id first end session s.index.entries;
  pinned = λ e left. absurd (none_yet (nat_lt first end) e left);
  unpassed = λ e left dead. absurd (none_yet (nat_lt first end) e left);
}
  where
    none_yet : (b : Bool) (e : Entry) → Contains (batch_left (cond b (Asking None) Empty)) e → ⊥
    none_yet true e left = none_in_nil e left
    none_yet false e left = none_in_nil e left

begins : (s : Store) (walk : Walking) (horizon pages : ℕ) → BatchHolds s walk Ended → BatchHolds s walk (Vacuuming.stage (begun horizon pages))
begins s walk horizon pages holds = record { held = holds.held; pinned = holds.pinned; unpassed = λ e left dead. unpassed (nat_eq pages 0) }
  where
    unpassed : (b : Bool) → IsUnpassed (cond b Ended (Pruning 0)) (pin_of s.index.pins walk.session)
    unpassed true = tt
    unpassed false = tt

put : (s : Store) (walk : Walking) (stage : Stage) (size : ℕ) (chunk : Chunk) → BatchHolds s walk stage → BatchHolds (record s { rel = record s.rel { pages = with_put_on size chunk s.rel.pages } }) walk stage
put s walk stage size chunk holds = record {
  held = holds.held;
  pinned = holds.pinned;
  unpassed = λ e left dead. elim (slot_of-put size chunk s.rel.pages e.tid) [
    | inl same ↦ holds.unpassed e left (subst IsDead same dead)
    | inr fresh ↦ absurd (subst IsDead fresh.1 dead)
  ];
}

chunk_ended : (s : Store) (walk : Walking) (stage : Stage) (tid : Tid) (xid : ℕ) → BatchHolds s walk stage → BatchHolds (record s { rel = record s.rel { pages = with_ended xid s.rel.pages tid } }) walk stage
chunk_ended s walk stage tid xid holds = record {
  held = holds.held;
  pinned = holds.pinned;
  unpassed = λ e left dead. elim ((chunk_ends xid s.rel.pages tid).each e.tid) [
    | inl same ↦ holds.unpassed e left (subst IsDead same dead)
    | inr at ↦ absurd (dead_empty (slot_of (with_ended xid s.rel.pages tid) e.tid) at.later dead at.is)
  ];
}

added : (old later : Store) (walk : Walking) (stage : Stage) (e : Entry) → Adds old later e → later.index.pins ≡ old.index.pins → BatchHolds old walk stage → BatchHolds later walk stage
added old later walk stage e adds pins holds = record {
  held = add_keeps_batch old later e walk adds holds.held;
  pinned = λ f left. subst (λ ps. IsPinnedFrom (pin_of ps walk.session) f) (sym pins) (holds.pinned f left);
  unpassed = λ f left dead. subst (λ ps. IsUnpassed stage (pin_of ps walk.session)) (sym pins) (holds.unpassed f left (subst (λ pages. IsDead (slot_of pages f.tid)) adds.pages dead));
}

-- whoever leaves the entries and the session's pin
repinned : (s : Store) (index : Index) (walk : Walking) (stage : Stage) → index.entries ≡ s.index.entries → pin_of index.pins walk.session ≡ pin_of s.index.pins walk.session → BatchHolds s walk stage → BatchHolds (record s { index = index }) walk stage
repinned s index walk stage entries pin holds = record {
  held = subst (λ es. IsBatchHeld es walk) (sym entries) holds.held;
  pinned = λ e left. subst (λ p. IsPinnedFrom p e) (sym pin) (holds.pinned e left);
  unpassed = λ e left dead. subst (λ p. IsUnpassed stage p) (sym pin) (holds.unpassed e left dead);
}

other_test : (m n : ℕ) (x y : Option Leaf) → n ≢ m → (if m == n then x else y) ≡ y
other_test m n x y other = grind (arith, nat_tests)

same_test : (m : ℕ) (x y : Option Leaf) → (if m == m then x else y) ≡ x
same_test m x y = grind (arith, nat_tests)

batch : (s : Store) (walk : Walking) (stage : Stage) (session : ℕ) (wanted : List Entry) → walk.session ≢ session → pin_of s.index.pins session ≡ None → BatchHolds s walk stage → BatchHolds (record s { index = after_batch s.index session wanted }) walk stage
batch s walk stage session wanted other none holds = repinned s (after_batch s.index session wanted) walk stage (entries-batch s.index session wanted) (pin_of-batch s.index session wanted walk.session none other) holds

unpinned : (s : Store) (walk : Walking) (stage : Stage) (session : ℕ) → walk.session ≢ session → BatchHolds s walk stage → BatchHolds (record s { index = record s.index { pins = without_pin s.index.pins session } }) walk stage
unpinned s walk stage session other holds = repinned s (record s.index { pins = without_pin s.index.pins session }) walk stage refl (pin_of-without s.index.pins session walk.session ∙ other_test session walk.session None (pin_of s.index.pins walk.session) other) holds

-- ---- the walk's own step

-- an entry still to be taken is below a pinned leaf, and the sweep has not passed that
record IsBelow (s : Store) (stage : Stage) (pin : Option Leaf) (e : Entry) : Type 0 where
  pinned : IsPinnedFrom pin e
  unpassed : IsDead (slot_of s.rel.pages e.tid) → IsUnpassed stage pin

module _ (s : Store) (stage : Stage) (walk : Walking) (asked : (leaf : Leaf) (e : Entry) → Contains s.index.entries e → in_leaf s.index.bounds leaf e ≡ true → IsDead (slot_of s.rel.pages e.tid) → IsUnpassed stage (Some leaf)) where
  of_batch : (wanted : List Entry) (e : Entry) → pin_of s.index.pins walk.session ≡ None → ((f : Entry) → Contains wanted f → Contains s.index.entries f) → Contains (batch_of s.index.bounds wanted) e → IsBelow s stage (pin_of (Index.pins (after_batch s.index walk.session wanted)) walk.session) e
  of_batch [] e none there held = absurd (none_in_nil e held)
  of_batch (first ∷ rest) e none there held =
      let has = batch_holds s.index.bounds first rest e held in
      let own = pin_of-with s.index.pins walk.session (leaf_of s.index.bounds first) walk.session none ∙ same_test walk.session (Some (leaf_of s.index.bounds first)) (pin_of s.index.pins walk.session) in
      record {
        pinned = batch_pinned_from s.index walk.session (first ∷ rest) e none held;
        unpassed = λ dead. subst (λ p. IsUnpassed stage p) (sym own) (asked (leaf_of s.index.bounds first) e (there e has.0) has.1 dead);
      }

  after_step : (w : WalkStage) → MayAsk s.index walk.session w → ((e : Entry) → Contains (batch_left w) e → IsBelow s stage (pin_of s.index.pins walk.session) e) → (e : Entry) → Contains (batch_left (stage_after s.index walk w)) e → IsBelow s stage (pin_of (Index.pins (index_after s.index walk w)) walk.session) e
  after_step Empty may below e left = absurd (none_in_nil e left)
  after_step (Asking after) may below e left = of_batch (wanted_by walk after s.index.entries) e may (λ f held. (wanted_are walk.value_id walk.first (walk.end - 1) after s.index.entries f held).there) (by_batch (batch_of s.index.bounds (wanted_by walk after s.index.entries)) left)
    where
      by_batch : (es : List Entry) → Contains (batch_left (stage_of_batch (wanted_by walk after s.index.entries) es)) e → Contains es e
      by_batch [] h = absurd (none_in_nil e h)
      by_batch (f ∷ fs) h = h
  after_step (Reading taken at) may below e left = by_test (nat_lt (at + 1) (length taken.entries)) left
    where
      by_more : (b : Bool) → Contains (batch_left (cond b (Asking (slice_get taken.entries at)) Over)) e → ⊥
      by_more true h = none_in_nil e h
      by_more false h = none_in_nil e h

      by_test : (b : Bool) → Contains (batch_left (cond b (Reading taken (at + 1)) (cond taken.more (Asking (slice_get taken.entries at)) Over))) e → IsBelow s stage (pin_of (Index.pins (cond b s.index (record s.index { pins = without_pin s.index.pins walk.session }))) walk.session) e
      by_test true h = below e (in_drop 1 (drop at taken.entries) e (subst (λ es. Contains es e) (sym (drop-drop 1 at taken.entries)) h))
      by_test false h = absurd (by_more taken.more h)
  after_step Over may below e left = absurd (none_in_nil e left)

  walked_by : IsStage walk.first walk.end walk.stage → MayAsk s.index walk.session walk.stage → BatchHolds s walk stage → BatchHolds (record s { index = index_walked s.index walk }) (walk_after s.index walk) stage
  walked_by is may holds = record {
    held = held_stepped s.index (index_walked s.index walk) walk (walk_after s.index walk) refl refl is holds.held;
    pinned = λ e left. IsBelow.pinned (after_step walk.stage may (λ f h. record { pinned = holds.pinned f h; unpassed = holds.unpassed f h }) e left);
    unpassed = λ e left. IsBelow.unpassed (after_step walk.stage may (λ f h. record { pinned = holds.pinned f h; unpassed = holds.unpassed f h }) e left);
  }

-- an entry that names a dead slot is one that the sweep has still to reach
reached : (xacts : Xacts) (s : Store) (v : Vacuuming) (stage : Stage) → VacuumHolds xacts s (record v { stage = stage }) → (e : Entry) → Contains s.index.entries e → IsDead (slot_of s.rel.pages e.tid) → IsUnswept stage e
reached xacts s v (Pruning page) holds e there dead = tt
reached xacts s v (Sweeping from) holds e there dead = elim (holds.pages.each_dead e.tid dead) [ inl still ↦ absurd (omega (arith, still.unmade, still.there)) | inr waits ↦ holds.sweep.swept e there waits ]
reached xacts s v (Reaping page at) holds e there dead = elim (holds.pages.each_dead e.tid dead) [ inl still ↦ absurd (omega (arith, still.unmade, still.there)) | inr waits ↦ holds.sweep.swept e there waits ]
reached xacts s v Ended holds e there dead = elim (holds.pages.each_dead e.tid dead) [ inl still ↦ absurd (omega (arith, still.unmade, still.there)) | inr waits ↦ holds.sweep.swept e there waits ]

asked_at : (xacts : Xacts) (s : Store) (v : Vacuuming) (stage : Stage) → IsStore s → VacuumHolds xacts s (record v { stage = stage }) → (leaf : Leaf) (e : Entry) → Contains s.index.entries e → in_leaf s.index.bounds leaf e ≡ true → IsDead (slot_of s.rel.pages e.tid) → IsUnpassed stage (Some leaf)
asked_at xacts s v (Pruning page) sound holds leaf e there lies dead = tt
asked_at xacts s v (Sweeping from) sound holds leaf e there lies dead = at_most_leaf s.index.bounds from leaf e sound.index.bounds_sorted holds.sweep.cursor (reached xacts s v (Sweeping from) holds e there dead) lies
asked_at xacts s v (Reaping page at) sound holds leaf e there lies dead = tt
asked_at xacts s v Ended sound holds leaf e there lies dead = tt

-- ---- the vacuum's step

at_first : (pin : Option Leaf) (e : Entry) → IsPinnedFrom pin e → IsUnpassed (Sweeping None) pin
at_first None e pinned = absurd pinned
at_first (Some leaf) e pinned = refl

made_page : (xacts : Xacts) (s : Store) (v : Vacuuming) (walk : Walking) (page : ℕ) → BatchHolds s walk (Pruning page) → BatchHolds (target_at toast_ops xacts v s (Pruning page)) walk (Vacuuming.stage (vacuum_at toast_ops xacts v s (Pruning page)))
made_page xacts s v walk page holds = record { held = holds.held; pinned = holds.pinned; unpassed = λ e left dead. by_more (nat_lt (page + 1) v.pages) (length (Vacuuming.gathered (vacuum_at toast_ops xacts v s (Pruning page)))) e (holds.pinned e left) }
  where
    by_none : (b : Bool) (e : Entry) → IsPinnedFrom (pin_of s.index.pins walk.session) e → IsUnpassed (cond b Ended (Sweeping None)) (pin_of s.index.pins walk.session)
    by_none true e pinned = tt
    by_none false e pinned = at_first (pin_of s.index.pins walk.session) e pinned

    by_more : (b : Bool) (n : ℕ) (e : Entry) → IsPinnedFrom (pin_of s.index.pins walk.session) e → IsUnpassed (cond b (Pruning (page + 1)) (after_pages n)) (pin_of s.index.pins walk.session)
    by_more true n e pinned = tt
    by_more false n e pinned = by_none (nat_eq n 0) e pinned

module _ (xacts : Xacts) (s : Store) (v : Vacuuming) (walk : Walking) (from : Option Entry) (sound : IsStore s) (holds : VacuumHolds xacts s (record v { stage = Sweeping from })) (batch_holds_now : BatchHolds s walk (Sweeping from)) where
  own_leaf : (pin : Leaf) → pin_of s.index.pins walk.session ≡ Some pin → IsLeaf s.index.bounds pin
  own_leaf pin is = sound.index.pinned (record { session = walk.session; leaf = pin }) (pin_held s.index.pins walk.session pin is)

  not_held : (pin : Leaf) → holder_of s.index.pins from ≡ None → pin_of s.index.pins walk.session ≡ Some pin → from ≢ pin
  not_held pin none is same = no_holder s.index.pins from (record { session = walk.session; leaf = pin }) none (pin_held s.index.pins walk.session pin is) (sym same)

  not_swept : (e : Entry) (pin : Option Leaf) → pin_of s.index.pins walk.session ≡ pin → holder_of s.index.pins from ≡ None → IsPinnedFrom pin e → (IsDead (slot_of s.rel.pages e.tid) → IsUnpassed (Sweeping from) pin) → is_swept s.index.bounds from v.gathered e ≡ false
  not_swept e None is none pinned unpassed = absurd pinned
  not_swept e (Some pin) is none pinned unpassed = elim (cases_Bool (is_listed v.gathered e.tid)) [
    | inl listed ↦ spared s.index.bounds from pin v.gathered e sound.index.bounds_sorted (own_leaf pin is) (unpassed (holds.pages.dead e.tid (listed_among v.gathered e.tid listed))) (not_held pin none is) pinned
    | inr unlisted ↦ and_right (in_leaf s.index.bounds from e) (is_listed v.gathered e.tid) unlisted
  ]

  still_held : holder_of s.index.pins from ≡ None → IsBatchHeld (Index.entries (swept_index s.index from v.gathered)) walk
  still_held none = sweep_keeps_batch s (record s { index = swept_index s.index from v.gathered }) from v.gathered walk
      (record { gone = λ tid listed. dead_none (slot_of s.rel.pages tid) (holds.pages.dead tid (listed_among v.gathered tid listed)); pages = refl; entries = refl })
      (λ e left. not_swept e (pin_of s.index.pins walk.session) refl none (batch_holds_now.pinned e left) (batch_holds_now.unpassed e left))
      batch_holds_now.held

  not_passed : (next : Entry) → holder_of s.index.pins from ≡ None → next_bound s.index.bounds from ≡ Some next → (pin : Option Leaf) → pin_of s.index.pins walk.session ≡ pin → IsUnpassed (Sweeping from) pin → IsUnpassed (Sweeping (Some next)) pin
  not_passed next none follows None is unpassed = absurd unpassed
  not_passed next none follows (Some pin) is unpassed = next_at_most s.index.bounds from pin next sound.index.bounds_sorted (own_leaf pin is) unpassed (not_held pin none is) follows

  by_next : (next : Option Entry) → holder_of s.index.pins from ≡ None → next_bound s.index.bounds from ≡ next → BatchHolds (record s { index = swept_index s.index from v.gathered }) walk (after_leaf from (option_map_or (λ n. Next n (count_by (is_swept s.index.bounds from v.gathered) s.index.entries)) next (End (count_by (is_swept s.index.bounds from v.gathered) s.index.entries))))
  by_next (Some next) none is = record { held = still_held none; pinned = batch_holds_now.pinned; unpassed = λ e left dead. not_passed next none is (pin_of s.index.pins walk.session) refl (batch_holds_now.unpassed e left dead) }
  by_next None none is = record { held = still_held none; pinned = batch_holds_now.pinned; unpassed = λ e left dead. tt }

  by_holder : (leaf : Leaf) (o : Option ℕ) → leaf ≡ from → holder_of s.index.pins leaf ≡ o → BatchHolds (record s { index = option_map_or (λ h. s.index) o (swept_index s.index leaf v.gathered) }) walk (after_leaf from (option_map_or (λ h. Pinned h) o (option_map_or (λ n. Next n (count_by (is_swept s.index.bounds leaf v.gathered) s.index.entries)) (next_bound s.index.bounds leaf) (End (count_by (is_swept s.index.bounds leaf v.gathered) s.index.entries)))))
  by_holder leaf (Some holder) same is = batch_holds_now
  by_holder leaf None same is = subst (λ l. BatchHolds (record s { index = swept_index s.index l v.gathered }) walk (after_leaf from (option_map_or (λ n. Next n (count_by (is_swept s.index.bounds l v.gathered) s.index.entries)) (next_bound s.index.bounds l) (End (count_by (is_swept s.index.bounds l v.gathered) s.index.entries))))) (sym same) (by_next (next_bound s.index.bounds from) (ap (holder_of s.index.pins) (sym same) ∙ is) refl)

  swept_leaf : BatchHolds (target_at toast_ops xacts v s (Sweeping from)) walk (Vacuuming.stage (vacuum_at toast_ops xacts v s (Sweeping from)))
  swept_leaf = let leaf = leaf_at s.index.bounds from in by_holder leaf (holder_of s.index.pins leaf) (cursor_leaf s.index.bounds from sound.index.bounds_sorted holds.sweep.cursor) refl

reaped_page : (xacts : Xacts) (s : Store) (v : Vacuuming) (walk : Walking) (page at : ℕ) → BatchHolds s walk (Reaping page at) → BatchHolds (target_at toast_ops xacts v s (Reaping page at)) walk (Vacuuming.stage (vacuum_at toast_ops xacts v s (Reaping page at)))
reaped_page xacts s v walk page at holds = subst (λ x. BatchHolds x walk (Vacuuming.stage (vacuum_at toast_ops xacts v s (Reaping page at)))) (sym (store_reaped (on_page page (drop at v.gathered)) s)) (record { held = holds.held; pinned = holds.pinned; unpassed = λ e left dead. by_more (nat_lt (page + 1) v.pages) })
  where
    by_more : (b : Bool) → IsUnpassed (cond b (Reaping (page + 1) (at + length (on_page page (drop at v.gathered)))) Ended) (pin_of s.index.pins walk.session)
    by_more true = tt
    by_more false = tt

step_at : (xacts : Xacts) (s : Store) (v : Vacuuming) (walk : Walking) (stage : Stage) → IsStore s → VacuumHolds xacts s (record v { stage = stage }) → BatchHolds s walk stage → BatchHolds (target_at toast_ops xacts (record v { stage = stage }) s stage) walk (Vacuuming.stage (vacuum_at toast_ops xacts (record v { stage = stage }) s stage))
step_at xacts s v walk (Pruning page) sound holds now = made_page xacts s v walk page now
step_at xacts s v walk (Sweeping from) sound holds now = swept_leaf xacts s v walk from sound holds now
step_at xacts s v walk (Reaping page at) sound holds now = reaped_page xacts s v walk page at now
step_at xacts s v walk Ended sound holds now = now

taken : (s : Store) (walk : Walking) (stage : Stage) (e : Entry) → IsStore s → BatchHolds s walk stage → entry_at walk.stage ≡ Some e → Contains s.index.entries e × Names e (slot_of s.rel.pages e.tid)
taken s walk stage e sound holds is = let left = taken_left e walk.stage is in (holds.held.stands e left, (batch_named s walk sound holds.held).each e left)

pub batches_stand : BatchesStand
batches_stand = record {
  new = new;
  begins = begins;
  put = put;
  ended = chunk_ended;
  added = added;
  batch = batch;
  unpinned = unpinned;
  walked = λ xacts s v walk sound holds is may now. walked_by s v.stage walk (asked_at xacts s v v.stage sound holds) is may now;
  walked_alone = λ s walk sound is may now. walked_by s Ended walk (λ leaf e there lies dead. tt) is may now;
  step = λ xacts s v walk sound holds now. step_at xacts s v walk v.stage sound holds now;
  named = λ s walk stage e sound holds left. (batch_named s walk sound holds.held).each e left;
  taken = taken;
}
