-- What is true of a write whose mark has made a step.
use Rattle.std.proofs.Common.{Bool, Contains, List, None, Some, [], ap, arith, cond, drop, false, get_or, length, nat_lt, refl, subst, sym, true, ℕ, ◌+◌, ◌<◌, ◌∙◌, ◌∷◌, ◌≡◌, ◌≤◌}
use Rattle.std.proofs.lemmas.Bool.{ltb-false, ltb-true}
use Rattle.std.proofs.lemmas.List.{drop_all, drop_more}
use Rattle.std.proofs.lemmas.Option.{slice_get_within}
use Rattle.std.specs.List.Sorted.{IsStrictlySortedBy}
use Rattle.std.specs.Option.{option_map}
use Rattle.std.specs.Prelude.{Option, if◌then◌else◌, slice_get}
use Rattle.list_facts.proofs.Members.{later_in, none_in_nil}
use Rattle.external_pointer.specs.declared.external.Pointer.{Pointer}
use Rattle.change_log.specs.Logs.{LogState}
use Rattle.xact_status.specs.Xacts.{Xacts}
use Rattle.chunk_index.proofs.PinFacts.{pin_dropped}
use Rattle.chunk_index.specs.Entries.{entry_cmp}
use Rattle.chunk_index.specs.Indexes.{Index, after_batch, batch_of}
use Rattle.chunk_index.specs.Leaves.{Leaf}
use Rattle.chunk_index.specs.Pinned.{pin_of, without_pin}
use Rattle.chunk_index.specs.declared.entry.Batch.{Batch}
use Rattle.chunk_index.specs.declared.entry.Entry.{Entry}
use Rattle.value_ids.specs.Ids.{Pool}
use Rattle.lock_table.specs.declared.held.SessionLocks.{SessionLocks}
use Rattle.snapshot_registry.specs.Snapshots.{Snaps}
use Rattle.toast_store.proofs.Begun.{some_after}
use Rattle.toast_store.proofs.OwnLeaf.{empty_batch}
use Rattle.toast_store.specs.Begun.{IsOverSome}
use Rattle.toast_store.specs.Marks.{Marking, new_mark}
use Rattle.toast_store.specs.Stores.{Store}
use Rattle.toast_store.specs.Values.{piece_count}
use Rattle.toast_store.specs.Walks.{CanStep, Walking, index_after, index_walked, is_over, walk_after, wanted_by}
use Rattle.toast_store.specs.declared.walk.WalkStage.{WalkStage}
use Rattle.write_steps.specs.Standing.{IsMarkingAt, WriteStands}
use Rattle.write_steps.specs.Steps.{IsWriteLeft}
use Rattle.write_steps.specs.Writes.{answer_at, mark_after, marking_from, parts_of, stage_after, to_mark}
use Rattle.write_steps.specs.declared.stage.Owner.{Owner}
use Rattle.table_state.specs.Events.{with_toast}
use Rattle.table_state.specs.declared.table.Table.{Table}
use Rattle.core_state.specs.Facts.{WriteIsSound, has_batch}
use Rattle.core_state.specs.declared.seat.State.{State}
use Rattle.core_saves.proofs.Frame.{dropping_left, unheld_left}
use Rattle.core_saves.proofs.Saved.{stands_any, write_at}
use Rattle.toast_store.specs.Walks as walking
use Rattle.toast_store.specs.declared.walk.WalkStage.TheVariants as walks
use Rattle.write_steps.specs.declared.stage.WriteStage.TheVariants as stages
use Rattle.write_steps.specs.declared.stage.WriteStep.TheVariants as writes

-- ---- a walk's own pin

-- a session has a pin after a step of its walk only where that has entries of a batch still to take
pub walk_pin : (index : Index) (walk : Walking) (leaf : Leaf) → IsStrictlySortedBy entry_cmp index.bounds → CanStep index walk → IsOverSome walk.stage → pin_of (Index.pins (index_walked index walk)) walk.session ≡ Some leaf
    → has_batch (Walking.stage (walk_after index walk)) ≡ true
walk_pin index walk leaf sorted can over = by_stage walk.stage can over
  where
    by_batch : (wanted batch : List Entry) → (batch ≡ [] → wanted ≡ []) → pin_of index.pins walk.session ≡ None → pin_of (Index.pins (after_batch index walk.session wanted)) walk.session ≡ Some leaf → has_batch (walking.stage_of_batch wanted batch) ≡ true
    by_batch [] batch none free e = absurd (cc)
    by_batch (first ∷ rest) [] none free e =
        let empty = none refl in
        absurd (cc)
    by_batch (first ∷ rest) (x ∷ xs) none free e = refl

    by_more : (batch : Batch) (at : ℕ) (b : Bool) → pin_of (Index.pins (cond b index (record index { pins = without_pin index.pins walk.session }))) walk.session ≡ Some leaf
        → has_batch (cond b (walks.Reading batch (at + 1)) (if batch.more then walks.Asking (slice_get batch.entries at) else walks.Over)) ≡ true
    by_more batch at true e = refl
    by_more batch at false e = absurd (gone (sym (pin_dropped index.pins walk.session) ∙ e))
      where
        gone : None ≡ Some leaf → ⊥
        gone h = cc

    by_stage : (stage : WalkStage) → walking.IsUnderWay stage × walking.MayAsk index walk.session stage → IsOverSome stage → pin_of (Index.pins (index_after index walk stage)) walk.session ≡ Some leaf → has_batch (walking.stage_after index walk stage) ≡ true
    by_stage walks.Empty may some e = absurd some
    by_stage (walks.Asking after) may some e =
        by_batch (wanted_by walk after index.entries) (batch_of index.bounds (wanted_by walk after index.entries)) (empty_batch index.bounds (wanted_by walk after index.entries) sorted) may.1 e
    by_stage (walks.Reading batch at) may some e = by_more batch at (nat_lt (at + 1) (length batch.entries)) e
    by_stage walks.Over may some e = absurd may.0

-- ---- a write that goes on with its marks

-- what it drops still
drop_less : (dropped : List Pointer) (at : ℕ) (pointer : Pointer) → Contains (drop (at + 1) dropped) pointer → Contains (drop at dropped) pointer
drop_less dropped at pointer e = by (nat_lt at (length dropped)) refl
  where
    by : (b : Bool) → nat_lt at (length dropped) ≡ b → Contains (drop at dropped) pointer
    by true less =
        let low : at < length dropped = ltb-true at (length dropped) less in
        subst (λ (ps : List Pointer). Contains ps pointer) (sym (drop_more dropped at pointer low)) (later_in (get_or dropped at pointer) (drop (at + 1) dropped) pointer e)
    by false less =
        let past : length dropped ≤ at = ltb-false at (length dropped) less in
        absurd (none_in_nil pointer (subst (λ (ps : List Pointer). Contains ps pointer) (drop_all (at + 1) dropped (omega (arith, past))) e))

write_on : (xacts : Xacts) (snaps : Snaps) (ids : Pool) (held : SessionLocks) (table : Table) (s t : ℕ) (state : State) (log : LogState) (owner : Owner) (dropped : List Pointer) (at to : ℕ) (mark next : Marking) (toast : Store)
    → IsMarkingAt owner dropped to next → (next.xid ≡ owner.xid) × (option_map (λ (pointer : Pointer). pointer.value_id) (slice_get dropped to) ≡ Some (Walking.value_id (Marking.walk next))) → ((pointer : Pointer) → Contains (drop to dropped) pointer → Contains (drop at dropped) pointer)
    → WriteIsSound xacts snaps ids held table s t state (write_at owner (stages.Marking dropped at mark)) → WriteStands (parts_of table.rows toast ids log) (write_at owner (stages.Marking dropped to next))
    → WriteIsSound xacts snaps ids held (with_toast table toast) s t state (write_at owner (stages.Marking dropped to next))
write_on xacts snaps ids held table s t state log owner dropped at to mark next toast its own less sound stands = record {
  own = record { session = sound.own.session; of_table = sound.own.of_table; xid = sound.own.xid; stage = its; mark = own; claimed = sound.own.claimed };
  stands = λ other. stands_any table.rows toast ids log other owner (stages.Marking dropped to next) stands;
  rows = record { old = sound.rows.old; alone = sound.rows.alone };
  new = record { key = sound.new.key; cells = sound.new.cells; pushed = sound.new.pushed; kept = sound.new.kept; distinct = sound.new.distinct };
  fresh = record { each = λ id e. unheld_left xacts snaps table toast id (sound.fresh.each id e) };
  dropping = λ pointer e. dropping_left xacts snaps table toast owner.xid pointer (sound.dropping pointer (less pointer e));
}

-- a new mark of a value with bytes has something to ask for
new_some : (pointer : Pointer) (xid session : ℕ) → 0 < pointer.size → IsOverSome (Walking.stage (Marking.walk (new_mark pointer xid session)))
new_some pointer xid session some = by (nat_lt 0 (piece_count pointer.size)) refl
  where
    by : (b : Bool) → nat_lt 0 (piece_count pointer.size) ≡ b → IsOverSome (cond b (walks.Asking None) walks.Empty)
    by true less = tt
    by false less =
        let none : piece_count pointer.size ≤ 0 = ltb-false 0 (piece_count pointer.size) less in
        absurd (omega (arith, none, some))

pub write_marked : (xacts : Xacts) (snaps : Snaps) (ids : Pool) (held : SessionLocks) (table : Table) (s t : ℕ) (state : State) (log more : LogState) (owner : Owner) (dropped : List Pointer) (at : ℕ) (mark : Marking) (toast : Store)
    → WriteIsSound xacts snaps ids held table s t state (write_at owner (stages.Marking dropped at mark))
    → answer_at (stage_after (parts_of table.rows table.toast ids log) owner (stages.Marking dropped at mark)) ≡ writes.More
    → IsWriteLeft (parts_of table.rows toast ids more) (write_at owner (stage_after (parts_of table.rows table.toast ids log) owner (stages.Marking dropped at mark))) (answer_at (stage_after (parts_of table.rows table.toast ids log) owner (stages.Marking dropped at mark)))
    → WriteIsSound xacts snaps ids held (with_toast table toast) s t state (write_at owner (stage_after (parts_of table.rows table.toast ids log) owner (stages.Marking dropped at mark)))
write_marked xacts snaps ids held table s t state log more owner dropped at mark toast sound goes left = by (is_over (Walking.stage (Marking.walk next))) refl goes left
  where
    next : Marking
    next = mark_after (parts_of table.rows table.toast ids log) mark

    by_next : (o : Option Pointer) → slice_get dropped (at + 1) ≡ o → answer_at (to_mark owner dropped (at + 1) o) ≡ writes.More → IsWriteLeft (parts_of table.rows toast ids more) (write_at owner (to_mark owner dropped (at + 1) o)) (answer_at (to_mark owner dropped (at + 1) o))
        → WriteIsSound xacts snaps ids held (with_toast table toast) s t state (write_at owner (to_mark owner dropped (at + 1) o))
    by_next None e g its = absurd (cc)
    by_next (Some pointer) e g its =
        let stage = sound.own.stage in
        write_on xacts snaps ids held table s t state more owner dropped at (at + 1) mark (new_mark pointer owner.xid owner.session) toast
        (record { sized = stage.sized; there = slice_get_within dropped (at + 1) pointer e; few = stage.few; walk = new_some pointer owner.xid owner.session (stage.sized.each (at + 1) pointer e) })
        (refl, ap (option_map (λ (p : Pointer). p.value_id)) e) (λ p f. drop_less dropped at p f) sound its

    by : (b : Bool) → is_over (Walking.stage (Marking.walk next)) ≡ b → answer_at (cond b (marking_from owner dropped (at + 1)) (stages.Marking dropped at next)) ≡ writes.More
        → IsWriteLeft (parts_of table.rows toast ids more) (write_at owner (cond b (marking_from owner dropped (at + 1)) (stages.Marking dropped at next))) (answer_at (cond b (marking_from owner dropped (at + 1)) (stages.Marking dropped at next)))
        → WriteIsSound xacts snaps ids held (with_toast table toast) s t state (write_at owner (cond b (marking_from owner dropped (at + 1)) (stages.Marking dropped at next)))
    by true e g its = by_next (slice_get dropped (at + 1)) refl g its
    by false e g its =
        let stage = sound.own.stage in
        write_on xacts snaps ids held table s t state more owner dropped at at mark next toast
        (record { sized = stage.sized; there = stage.there; few = stage.few; walk = some_after table.toast.index mark.walk (Walking.stage mark.walk) }) sound.own.mark (λ p f. f) sound its
