-- What a step of a store's vacuum does and answers, and what its end tells.
use Rattle.std.proofs.Common.{ℕ, ◌≡◌, ◌⊎◌, ◌+◌, ◌<◌, ◌≤◌, ◌==◌, inl, inr, true, false, cond, Option, Some, None, List, [], ◌∷◌, Contains, count_by, find, length, drop, refl, sym, ap, ◌∙◌, subst, arith}
use Rattle.std.specs.Option.{option_map, option_map_or}
use Rattle.std.specs.List.Sorted.{IsStrictlySortedBy}
use Rattle.std.specs.declared.cmp.Ordering.TheVariants.{Less}
use Rattle.std.proofs.lemmas.Bool.Decides.{nat_tests}
use Rattle.std.proofs.lemmas.Map.Keys.{sorted_head, sorted_tail}
use Rattle.list_facts.proofs.Members.{none_in_nil, cases_in}
use Rattle.slot_page.specs.declared.line.Tid.{Tid}
use Rattle.slot_page.specs.declared.line.LinePointer.{LinePointer}
use Rattle.slot_page.specs.declared.line.LinePointer.TheVariants.{Normal, Dead, Unused}
use Rattle.slot_page.specs.Slots.{IsDead, item_of}
use Rattle.slot_page.specs.Pages.{slot_of, item_in, written}
use Rattle.xact_status.specs.declared.Stamp.{Stamp}
use Rattle.xact_status.specs.Versions.{is_dead}
use Rattle.xact_status.specs.Xacts.{Xacts}
use Rattle.chunk_relation.specs.declared.chunk.Chunk.{Chunk}
use Rattle.chunk_relation.specs.Chunks.{chunk_stamp, is_dead_chunk}
use Rattle.chunk_relation.proofs.Events.{assigned_pruned, assigned_reaped, chunk_of-pruned}
use Rattle.chunk_relation.specs.Relations.{AreAssigned, Pages}
use Rattle.chunk_index.specs.declared.entry.Entry.{Entry}
use Rattle.chunk_index.specs.declared.entry.Pin.{Pin}
use Rattle.chunk_index.specs.declared.entry.Swept.{Swept}
use Rattle.chunk_index.specs.declared.entry.Swept.TheVariants.{Next, End, Pinned}
use Rattle.chunk_index.specs.Leaves.{Leaf, leaf_at, next_bound}
use Rattle.chunk_index.specs.Pinned.{holder_of, pin_cmp, pin_of}
use Rattle.chunk_index.specs.Indexes.{Index, IsLeaf, is_swept, sweep_answer, swept_index, unswept}
use Rattle.chunk_index.proofs.PinFacts.{all_in, holder_is, no_holder, pin_held}
use Rattle.toast_store.specs.Stores.{Store, IsStore, Names}
use Rattle.toast_vacuum.specs.declared.stage.Stage.{Stage}
use Rattle.toast_vacuum.specs.declared.stage.Stage.TheVariants.{Pruning, Sweeping, Reaping, Ended}
use Rattle.toast_vacuum.specs.declared.stage.VacuumStep.TheVariants as steps
use Rattle.toast_vacuum.specs.Ops.{Ops}
use Rattle.toast_vacuum.specs.Vacuums.{Vacuuming}
use Rattle.toast_vacuum.specs.Machines.{after_leaf, answer_at, left_at, on_page, steps_left, target_at, told_by, vacuum_at}
use Rattle.toast_vacuum.specs.Targets.{toast_ops}
use Rattle.toast_vacuum.specs.Holds.{IsSpared, PagesHold, StartHolds, VacuumHolds}
use Rattle.toast_vacuum.specs.Laws.{DoneTells, StepsTell}
use Rattle.toast_vacuum.proofs.Cursors.{cursor_leaf}
use Rattle.toast_vacuum.proofs.Lefts.{leaves_fall, leaves_some, left_page, left_reaped}
use Rattle.toast_vacuum.proofs.PagesKept.{freed_pages, items_reaped}
use Rattle.toast_vacuum.proofs.StoreSteps.{store_reaped}

-- ---- answers

not_done : (swept : Swept) (removed : ℕ) → told_by swept ≡ steps.Done removed → ⊥
not_done (Next next n) removed is = cc
not_done (End n) removed is = cc
not_done (Pinned holder) removed is = cc

-- `Done` comes at the end alone
pub at_done : {S : Type 0} (ops : Ops S) (v : Vacuuming) (s : S) (stage : Stage) (removed : ℕ) → answer_at ops v s stage ≡ steps.Done removed → stage ≡ Ended
at_done ops v s (Pruning page) removed is = absurd (cc)
at_done ops v s (Sweeping from) removed is = absurd (not_done (ops.answer s from v.gathered) removed is)
at_done ops v s (Reaping page at) removed is = absurd (cc)
at_done ops v s Ended removed is = refl

-- ---- the end

module _ {T : Type 0} (stamp_of : T → Stamp) (pages : List (List (LinePointer T))) (v : Vacuuming) (ended : v.stage ≡ Ended) where
  at_end : (xacts : Xacts) → PagesHold stamp_of xacts pages v → PagesHold stamp_of xacts pages (record v { stage = Ended })
  at_end xacts holds = subst (λ stage. PagesHold stamp_of xacts pages (record v { stage = stage })) ended holds

  pub end_none_dead : (xacts : Xacts) → PagesHold stamp_of xacts pages v → (t : Tid) → IsDead (slot_of pages t) → ⊥
  end_none_dead xacts holds t dead = elim ((at_end xacts holds).each_dead t dead) [ inl still ↦ absurd (omega (arith, still.unmade, still.there)) | inr waits ↦ none_in_nil t waits ]

  pub end_spared : (xacts : Xacts) → PagesHold stamp_of xacts pages v → (t : Tid) (item : T) → item_in pages t ≡ Some item → IsSpared xacts v.horizon (stamp_of item)
  end_spared xacts holds t item is = elim ((at_end xacts holds).spared t item is) [ inl still ↦ absurd (omega (arith, still.unmade, still.there)) | inr spared ↦ spared ]

  pub end_gone : (first : Xacts) → StartHolds stamp_of first pages v → (t : Tid) (item : T) → item_in pages t ≡ Some item → is_dead first v.horizon (stamp_of item).inserter (stamp_of item).ender ≡ false
  end_gone first start t item is =
      let at : StartHolds stamp_of first pages (record v { stage = Ended }) = subst (λ stage. StartHolds stamp_of first pages (record v { stage = stage })) ended start in
      elim (at.gone t item is) [ inl still ↦ absurd (omega (arith, still.unmade, still.there)) | inr alive ↦ alive ]

names_there : (e : Entry) (line : LinePointer Chunk) → Names e line → (IsDead line → ⊥) → (chunk : Chunk) × (item_of line ≡ Some chunk) × (chunk.value_id ≡ e.value_id) × (chunk.seq ≡ e.seq)
names_there e (Normal size chunk) names alive = (chunk, refl, names.0, names.1)
names_there e Dead names alive = absurd (alive tt)
names_there e Unused names alive = absurd names

pub done_tells : DoneTells
done_tells = record {
  none_dead = λ xacts s v removed holds is. end_none_dead chunk_stamp s.rel.pages v (at_done toast_ops v s v.stage removed is) xacts holds.pages;
  named = λ xacts s v removed sound holds is e there. names_there e (slot_of s.rel.pages e.tid) (sound.names.named e there) (end_none_dead chunk_stamp s.rel.pages v (at_done toast_ops v s v.stage removed is) xacts holds.pages e.tid);
  spared = λ xacts s v removed holds is. end_spared chunk_stamp s.rel.pages v (at_done toast_ops v s v.stage removed is) xacts holds.pages;
  gone = λ first s v removed start is. end_gone chunk_stamp s.rel.pages v (at_done toast_ops v s v.stage removed is) first start;
}

-- ---- each step

chunks_at : (xacts : Xacts) (s : Store) (v : Vacuuming) (t : Tid) (stage : Stage) → VacuumHolds xacts s (record v { stage = stage }) → (item_in (Store.rel (target_at toast_ops xacts v s stage)).pages t ≡ item_in s.rel.pages t)
    ⊎ ((chunk : Chunk) × (item_in s.rel.pages t ≡ Some chunk) × (is_dead_chunk xacts v.horizon chunk ≡ true) × (item_in (Store.rel (target_at toast_ops xacts v s stage)).pages t ≡ None))
chunks_at xacts s v t (Pruning page) holds = chunk_of-pruned xacts v.horizon s.rel.pages page t
chunks_at xacts s v t (Sweeping from) holds = inl refl
chunks_at xacts s v t (Reaping page at) holds = inl (ap (λ (x : Store). item_in x.rel.pages t) (store_reaped (on_page page (drop at v.gathered)) s) ∙ items_reaped chunk_stamp xacts v s.rel.pages page at holds.pages t)
chunks_at xacts s v t Ended holds = inl refl

freed_given : (xacts : Xacts) (ts : List Tid) (pages : Pages) → AreAssigned xacts pages → AreAssigned xacts (freed_pages ts pages)
freed_given xacts [] pages given = given
freed_given xacts (t ∷ ts) pages given = freed_given xacts ts (written pages t Unused) (assigned_reaped xacts pages t given)

given_at : (xacts : Xacts) (s : Store) (v : Vacuuming) (stage : Stage) → AreAssigned xacts s.rel.pages → AreAssigned xacts (Store.rel (target_at toast_ops xacts v s stage)).pages
given_at xacts s v (Pruning page) given = assigned_pruned xacts v.horizon s.rel.pages page given
given_at xacts s v (Sweeping from) given = given
given_at xacts s v (Reaping page at) given = subst (λ (x : Store). AreAssigned xacts x.rel.pages) (sym (store_reaped (on_page page (drop at v.gathered)) s)) (freed_given xacts (on_page page (drop at v.gathered)) s.rel.pages given)
given_at xacts s v Ended given = given

-- who holds the leaf
pinned_by : (index : Index) (leaf : Leaf) (dead : List Tid) (session : ℕ) (o : Option ℕ) → holder_of index.pins leaf ≡ o → told_by (option_map_or (λ h. Pinned h) o (option_map_or (λ n. Next n (count_by (is_swept index.bounds leaf dead) index.entries)) (next_bound index.bounds leaf) (End (count_by (is_swept index.bounds leaf dead) index.entries)))) ≡ steps.Pinned session → o ≡ Some session
pinned_by index leaf dead session (Some holder) is told = ap (λ h. Some h) (same holder told)
  where
    same : (h : ℕ) → steps.Pinned h ≡ steps.Pinned session → h ≡ session
    same h e = cc
pinned_by index leaf dead session None is told = absurd (by_next (next_bound index.bounds leaf) told)
  where
    by_next : (next : Option Entry) → told_by (option_map_or (λ n. Next n (count_by (is_swept index.bounds leaf dead) index.entries)) next (End (count_by (is_swept index.bounds leaf dead) index.entries))) ≡ steps.Pinned session → ⊥
    by_next (Some next) e = cc
    by_next None e = cc

same_session : (m n : ℕ) → m ≡ n → (m == n) ≡ true
same_session m n same = grind (arith, nat_tests)

other_session : (p : Pin) (session : ℕ) (leaf : Leaf) → pin_cmp p (record { session = session; leaf = leaf }) ≡ Less → (p.session == session) ≡ false
other_session p session leaf less = grind (arith, nat_tests)

pin_found : (pins : List Pin) (session : ℕ) (leaf : Leaf) → IsStrictlySortedBy pin_cmp pins → Contains pins (record { session = session; leaf = leaf }) → pin_of pins session ≡ Some leaf
pin_found [] session leaf sorted held = absurd (none_in_nil _ held)
pin_found (p ∷ ps) session leaf sorted held = elim (cases_in p ps (record { session = session; leaf = leaf }) held) [
  | inl here ↦ ap (λ b. option_map (λ (q : Pin). q.leaf) (cond b (Some p) (find (λ q. q.session == session) ps))) (same_session p.session session (ap (λ (q : Pin). q.session) here)) ∙ ap (λ (q : Pin). Some q.leaf) here
  | inr later ↦ ap (λ b. option_map (λ (q : Pin). q.leaf) (cond b (Some p) (find (λ q. q.session == session) ps))) (other_session p session leaf (all_in (λ q. pin_cmp p q ≡ Less) ps (record { session = session; leaf = leaf }) (sorted_head pin_cmp p ps sorted) later)) ∙ pin_found ps session leaf (sorted_tail pin_cmp p ps sorted) later
]

pinned_at : (s : Store) (v : Vacuuming) (from : Option Entry) (session : ℕ) → IsStore s → IsLeaf s.index.bounds from → told_by (sweep_answer s.index (leaf_at s.index.bounds from) v.gathered) ≡ steps.Pinned session
    → (pin_of s.index.pins session ≡ Some from) × ((other : ℕ) → pin_of s.index.pins other ≡ Some from → session ≤ other)
pinned_at s v from session sound is told =
    let leaf = leaf_at s.index.bounds from in
    let same : leaf ≡ from = cursor_leaf s.index.bounds from sound.index.bounds_sorted is in
    let holds = holder_is s.index.pins from session sound.index.pins_sorted (ap (holder_of s.index.pins) (sym same) ∙ pinned_by s.index leaf v.gathered session (holder_of s.index.pins leaf) refl told) in
    (pin_found s.index.pins session from sound.index.pins_sorted holds.holds, λ other pins. holds.least (record { session = other; leaf = from }) (pin_held s.index.pins other from pins) refl)

waits_at : (s : Store) (v : Vacuuming) (from : Option Entry) (other : ℕ) → IsStore s → IsLeaf s.index.bounds from → pin_of s.index.pins other ≡ Some from → (session : ℕ) × (told_by (sweep_answer s.index (leaf_at s.index.bounds from) v.gathered) ≡ steps.Pinned session)
waits_at s v from other sound is pins = by_holder (leaf_at s.index.bounds from) (cursor_leaf s.index.bounds from sound.index.bounds_sorted is) (holder_of s.index.pins (leaf_at s.index.bounds from)) refl
  where
    by_holder : (leaf : Leaf) → leaf ≡ from → (o : Option ℕ) → holder_of s.index.pins leaf ≡ o → (session : ℕ) × (told_by (option_map_or (λ h. Pinned h) o (option_map_or (λ n. Next n (count_by (is_swept s.index.bounds leaf v.gathered) s.index.entries)) (next_bound s.index.bounds leaf) (End (count_by (is_swept s.index.bounds leaf v.gathered) s.index.entries)))) ≡ steps.Pinned session)
    by_holder leaf same (Some holder) found = (holder, refl)
    by_holder leaf same None found = absurd (no_holder s.index.pins leaf (record { session = other; leaf = from }) found (pin_held s.index.pins other from pins) (sym same))

-- the steps left
left_leaf : (xacts : Xacts) (s : Store) (v : Vacuuming) (from : Option Entry) → IsStore s → VacuumHolds xacts s (record v { stage = Sweeping from }) → answer_at toast_ops v s (Sweeping from) ≡ steps.More
    → (0 < steps_left toast_ops (vacuum_at toast_ops xacts v s (Sweeping from)) (target_at toast_ops xacts v s (Sweeping from))) × (steps_left toast_ops (vacuum_at toast_ops xacts v s (Sweeping from)) (target_at toast_ops xacts v s (Sweeping from)) < left_at toast_ops v.pages s (Sweeping from))
left_leaf xacts s v from sound holds told = by_holder (leaf_at s.index.bounds from) (cursor_leaf s.index.bounds from sound.index.bounds_sorted holds.sweep.cursor) (holder_of s.index.pins (leaf_at s.index.bounds from)) told
  where
    by_next : (next : Option Entry) → next_bound s.index.bounds from ≡ next
        → (0 < left_at toast_ops v.pages (record s { index = swept_index s.index from v.gathered }) (after_leaf from (option_map_or (λ n. Next n (count_by (is_swept s.index.bounds from v.gathered) s.index.entries)) next (End (count_by (is_swept s.index.bounds from v.gathered) s.index.entries)))))
        × (left_at toast_ops v.pages (record s { index = swept_index s.index from v.gathered }) (after_leaf from (option_map_or (λ n. Next n (count_by (is_swept s.index.bounds from v.gathered) s.index.entries)) next (End (count_by (is_swept s.index.bounds from v.gathered) s.index.entries)))) < left_at toast_ops v.pages s (Sweeping from))
    by_next (Some next) follows = (omega arith, omega (arith, leaves_fall s.index.bounds (unswept s.index.bounds from v.gathered s.index.entries) from next holds.sweep.cursor follows))
    by_next None follows = (omega arith, omega (arith, leaves_some s.index.bounds from holds.sweep.cursor))

    by_holder : (leaf : Leaf) → leaf ≡ from → (o : Option ℕ) → told_by (option_map_or (λ h. Pinned h) o (option_map_or (λ n. Next n (count_by (is_swept s.index.bounds leaf v.gathered) s.index.entries)) (next_bound s.index.bounds leaf) (End (count_by (is_swept s.index.bounds leaf v.gathered) s.index.entries)))) ≡ steps.More
        → (0 < left_at toast_ops v.pages (record s { index = option_map_or (λ h. s.index) o (swept_index s.index leaf v.gathered) }) (after_leaf from (option_map_or (λ h. Pinned h) o (option_map_or (λ n. Next n (count_by (is_swept s.index.bounds leaf v.gathered) s.index.entries)) (next_bound s.index.bounds leaf) (End (count_by (is_swept s.index.bounds leaf v.gathered) s.index.entries))))))
        × (left_at toast_ops v.pages (record s { index = option_map_or (λ h. s.index) o (swept_index s.index leaf v.gathered) }) (after_leaf from (option_map_or (λ h. Pinned h) o (option_map_or (λ n. Next n (count_by (is_swept s.index.bounds leaf v.gathered) s.index.entries)) (next_bound s.index.bounds leaf) (End (count_by (is_swept s.index.bounds leaf v.gathered) s.index.entries))))) < left_at toast_ops v.pages s (Sweeping from))
    by_holder leaf same (Some holder) more = absurd (cc)
    by_holder leaf same None more = subst (λ l. (0 < left_at toast_ops v.pages (record s { index = swept_index s.index l v.gathered }) (after_leaf from (option_map_or (λ n. Next n (count_by (is_swept s.index.bounds l v.gathered) s.index.entries)) (next_bound s.index.bounds l) (End (count_by (is_swept s.index.bounds l v.gathered) s.index.entries)))))
        × (left_at toast_ops v.pages (record s { index = swept_index s.index l v.gathered }) (after_leaf from (option_map_or (λ n. Next n (count_by (is_swept s.index.bounds l v.gathered) s.index.entries)) (next_bound s.index.bounds l) (End (count_by (is_swept s.index.bounds l v.gathered) s.index.entries)))) < left_at toast_ops v.pages s (Sweeping from))) (sym same) (by_next (next_bound s.index.bounds from) refl)

left_step : (xacts : Xacts) (s : Store) (v : Vacuuming) (stage : Stage) → IsStore s → VacuumHolds xacts s (record v { stage = stage }) → answer_at toast_ops v s stage ≡ steps.More
    → (0 < steps_left toast_ops (vacuum_at toast_ops xacts v s stage) (target_at toast_ops xacts v s stage)) × (steps_left toast_ops (vacuum_at toast_ops xacts v s stage) (target_at toast_ops xacts v s stage) < left_at toast_ops v.pages s stage)
left_step xacts s v (Pruning page) sound holds told = left_page toast_ops v.pages s (target_at toast_ops xacts v s (Pruning page)) page (length (Vacuuming.gathered (vacuum_at toast_ops xacts v s (Pruning page)))) holds.pages.place refl
left_step xacts s v (Sweeping from) sound holds told = left_leaf xacts s v from sound holds told
left_step xacts s v (Reaping page at) sound holds told = left_reaped toast_ops v.pages s (target_at toast_ops xacts v s (Reaping page at)) page at (at + length (on_page page (drop at v.gathered))) holds.pages.place
left_step xacts s v Ended sound holds told = absurd (cc)

-- at a cursor that is known
at_cursor : (xacts : Xacts) (s : Store) (v : Vacuuming) (from : Option Entry) → VacuumHolds xacts s v → v.stage ≡ Sweeping from → VacuumHolds xacts s (record v { stage = Sweeping from })
at_cursor xacts s v from holds at = subst (λ stage. VacuumHolds xacts s (record v { stage = stage })) at holds

pub steps_tell : StepsTell
steps_tell = record {
  chunks = λ xacts s v t holds. chunks_at xacts s v t v.stage holds;
  given = λ xacts s v given. given_at xacts s v v.stage given;
  pinned = λ xacts s v from session sound holds at told. pinned_at s v from session sound (at_cursor xacts s v from holds at).sweep.cursor (ap (answer_at toast_ops v s) (sym at) ∙ told);
  waits = λ xacts s v from other sound holds at pins. let found = waits_at s v from other sound (at_cursor xacts s v from holds at).sweep.cursor pins in (found.0, ap (answer_at toast_ops v s) at ∙ found.1);
  last = λ s v removed is. ap (left_at toast_ops v.pages s) (at_done toast_ops v s v.stage removed is);
  left = λ xacts s v sound holds told. left_step xacts s v v.stage sound holds told;
}
