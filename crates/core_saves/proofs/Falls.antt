-- What is left of a write falls with a step of its save or mark.
use Rattle.std.proofs.Common.{Bool, List, None, Some, [], ap, arith, cond, false, get_or, length, max, nat_lt, refl, subst, sym, true, ℕ, ◌*◌, ◌++◌, ◌+◌, ◌-◌, ◌<◌, ◌∙◌, ◌∷◌, ◌≡◌, ◌≤◌}
use Rattle.std.proofs.lemmas.List.Sums.{sum_by-drop_more}
use Rattle.std.proofs.lemmas.Bool.{ltb-false, ltb-true}
use Rattle.std.proofs.lemmas.List.{length-append}
use Rattle.std.proofs.lemmas.Option.{get_or_from_slice_get, slice_get-get_or, slice_get_within}
use Rattle.std.specs.Prelude.{Option, slice_get}
use Rattle.external_pointer.specs.declared.external.Pointer.{Pointer}
use Rattle.change_log.specs.Logs.{LogState}
use Rattle.chunk_index.proofs.Batches.{none_left_out}
use Rattle.chunk_index.specs.Indexes.{Index, IsIndex, batch_of}
use Rattle.chunk_index.specs.declared.entry.Batch.{Batch}
use Rattle.chunk_index.specs.declared.entry.Entry.{Entry}
use Rattle.value_ids.specs.Ids.{Pool}
use Rattle.toast_store.proofs.Walked.{entries_walked, steps_at-stage}
use Rattle.toast_store.specs.Begun.{IsOverSome}
use Rattle.toast_store.specs.Marks.{Marking, new_mark}
use Rattle.toast_store.specs.Stores.{Store}
use Rattle.toast_store.specs.Walks.{Walking, asks_left, is_over, steps_at, steps_left, walk_after, wanted_by}
use Rattle.toast_store.specs.declared.walk.WalkStage.{WalkStage}
use Rattle.write_steps.specs.Writes.{Writing, mark_after, marked_on, marking_from, stage_after, to_mark, write_after}
use Rattle.write_steps.specs.declared.stage.Owner.{Owner}
use Rattle.write_steps.specs.declared.stage.WriteStage.{WriteStage}
use Rattle.table_state.specs.Events.{with_toast}
use Rattle.table_state.specs.declared.table.Table.{Table}
use Rattle.core_state.proofs.Seats.{seat_written}
use Rattle.core_state.specs.Coming.{marks_left, write_left_at}
use Rattle.core_state.specs.Events.{left, left_by, write_told}
use Rattle.core_state.specs.Lines.{after_write_last, after_write_step, ids_released, parts_at, with_table}
use Rattle.core_state.specs.State.{CoreState, seat_of, table_at}
use Rattle.core_state.specs.declared.seat.Seat.{Seat}
use Rattle.core_saves.proofs.Saved.{write_at}
use Rattle.core_saves.proofs.Steps.{mark_known, marking_taken}
use Rattle.core_saves.proofs.Taken.{StepTaken, after_taken}
use Rattle.core_saves.specs.Made.{IsMarkingOne, IsWriteMade}
use Rattle.core_state.specs.declared.seat.Job.TheVariants as jobs
use Rattle.toast_store.specs.Walks as walking
use Rattle.toast_store.specs.declared.walk.WalkStage.TheVariants as walks
use Rattle.write_steps.specs.declared.stage.WriteStage.TheVariants as stages
use Rattle.write_steps.specs.declared.stage.WriteStep.TheVariants as writes

-- ---- a walk

-- a batch and what is wanted beyond it are what was wanted
batch_and_rest : (index : Index) (walk : Walking) (after : Option Entry) (e : Entry) (es : List Entry) → IsIndex index → batch_of index.bounds (wanted_by walk after index.entries) ≡ e ∷ es
    → wanted_by walk after index.entries ≡ (e ∷ es) ++ wanted_by walk (slice_get (e ∷ es) (length (e ∷ es) - 1)) index.entries
batch_and_rest index walk after e es is some =
    let place : length (e ∷ es) - 1 ≡ length es = omega arith in
    let last : slice_get (e ∷ es) (length (e ∷ es) - 1) ≡ Some (get_or (e ∷ es) (length es) e) = ap (slice_get (e ∷ es)) place ∙ slice_get-get_or (e ∷ es) (length es) e (omega arith) in
    let count : length (batch_of index.bounds (wanted_by walk after index.entries)) ≡ length es + 1 = ap length some ∙ omega arith in
    subst (λ (ys : List Entry). wanted_by walk after index.entries ≡ ys ++ wanted_by walk (Some (get_or ys (length es) e)) index.entries) some
    (none_left_out walk.value_id walk.first (walk.end - 1) after index.entries index.bounds (length es) e is.entries_sorted count)
    ∙ ap (λ l. (e ∷ es) ++ wanted_by walk l index.entries) (sym last)

-- with a batch the steps left fall
falls_batch : (index : Index) (walk : Walking) (after : Option Entry) → IsIndex index → steps_at walk index.entries (walking.stage_after index walk (walks.Asking after)) < steps_at walk index.entries (walks.Asking after)
falls_batch index walk after is = by (batch_of index.bounds (wanted_by walk after index.entries)) refl
  where
    by : (batch : List Entry) → batch_of index.bounds (wanted_by walk after index.entries) ≡ batch → steps_at walk index.entries (walking.stage_of_batch (wanted_by walk after index.entries) batch) < max 1 (2 * length (wanted_by walk after index.entries))
    by [] none = omega arith
    by (e ∷ es) some = by_more (nat_lt (length (e ∷ es)) (length (wanted_by walk after index.entries))) refl
      where
        count : length (wanted_by walk after index.entries) ≡ length (e ∷ es) + length (wanted_by walk (slice_get (e ∷ es) (length (e ∷ es) - 1)) index.entries)
        count = ap length (batch_and_rest index walk after e es is some) ∙ length-append (e ∷ es) (wanted_by walk (slice_get (e ∷ es) (length (e ∷ es) - 1)) index.entries)

        by_more : (b : Bool) → nat_lt (length (e ∷ es)) (length (wanted_by walk after index.entries)) ≡ b
            → length (e ∷ es) - 0 + cond b (asks_left (wanted_by walk (slice_get (e ∷ es) (length (e ∷ es) - 1)) index.entries)) 0 < max 1 (2 * length (wanted_by walk after index.entries))
        by_more true more = omega (arith, count, ltb-true (length (e ∷ es)) (length (wanted_by walk after index.entries)) more)
        by_more false no_more = omega (arith, count)

-- and with an entry taken
falls_pass : (index : Index) (walk : Walking) (entries : List Entry) (batch : Batch) (at : ℕ) → at < length batch.entries → steps_at walk entries (walking.stage_after index walk (walks.Reading batch at)) < steps_at walk entries (walks.Reading batch at)
falls_pass index walk entries batch at low = by_test (nat_lt (at + 1) (length batch.entries)) refl
  where
    rest : Bool → ℕ
    rest b = cond b (asks_left (wanted_by walk (slice_get batch.entries (length batch.entries - 1)) entries)) 0

    by_more : (b : Bool) → length batch.entries - 1 ≡ at → steps_at walk entries (cond b (walks.Asking (slice_get batch.entries at)) walks.Over) ≡ cond b (asks_left (wanted_by walk (slice_get batch.entries (length batch.entries - 1)) entries)) 0
    by_more true last = ap (λ i. asks_left (wanted_by walk (slice_get batch.entries i) entries)) (sym last)
    by_more false last = refl

    by_test : (b : Bool) → nat_lt (at + 1) (length batch.entries) ≡ b
        → steps_at walk entries (cond b (walks.Reading batch (at + 1)) (cond batch.more (walks.Asking (slice_get batch.entries at)) walks.Over)) < length batch.entries - at + rest batch.more
    by_test true more = omega (arith, ltb-true (at + 1) (length batch.entries) more)
    by_test false last =
        let at_end : length batch.entries ≤ at + 1 = ltb-false (at + 1) (length batch.entries) last in
        omega (arith, at_end, by_more batch.more (omega arith))

-- so a walk's step takes one of the steps left, at least
walk_falls : (index : Index) (walk : Walking) → IsIndex index → IsOverSome walk.stage → walking.IsUnderWay walk.stage → steps_left index.entries (walk_after index walk) < steps_left index.entries walk
walk_falls index walk is some under =
    subst (λ (n : ℕ). n < steps_left index.entries walk) (sym (steps_at-stage walk (walking.stage_after index walk walk.stage) index.entries (walking.stage_after index walk walk.stage))) (by walk.stage some under)
  where
    by : (stage : WalkStage) → IsOverSome stage → walking.IsUnderWay stage → steps_at walk index.entries (walking.stage_after index walk stage) < steps_at walk index.entries stage
    by walks.Empty its u = absurd its
    by (walks.Asking after) its u = falls_batch index walk after is
    by (walks.Reading batch at) its u = falls_pass index walk index.entries batch at its
    by walks.Over its u = absurd u

-- ---- a step of a mark

-- the marks from a place in what is dropped on
marks_more : (entries : List Entry) (owner : Owner) (dropped : List Pointer) (at : ℕ) (pointer : Pointer) → slice_get dropped at ≡ Some pointer
    → marks_left entries owner dropped at ≡ steps_left entries (Marking.walk (new_mark pointer owner.xid owner.session)) + marks_left entries owner dropped (at + 1)
marks_more entries owner dropped at pointer here =
    sum_by-drop_more (λ (p : Pointer). steps_left entries (Marking.walk (new_mark p owner.xid owner.session))) dropped at pointer (slice_get_within dropped at pointer here)
    ∙ ap (λ (p : Pointer). steps_left entries (Marking.walk (new_mark p owner.xid owner.session)) + marks_left entries owner dropped (at + 1)) (get_or_from_slice_get dropped at pointer pointer here)

mark_falls : (index : Index) (owner : Owner) (dropped : List Pointer) (at : ℕ) (mark next : Marking) → next.walk ≡ walk_after index mark.walk → IsIndex index → IsOverSome mark.walk.stage → walking.IsUnderWay mark.walk.stage
    → write_left_at index.entries owner (marked_on owner dropped at next) < write_left_at index.entries owner (stages.Marking dropped at mark)
mark_falls index owner dropped at mark next walk is some under = by (is_over (Walking.stage (Marking.walk next)))
  where
    less : steps_left index.entries (Marking.walk next) < steps_left index.entries (Marking.walk mark)
    less = subst (λ (its : Walking). steps_left index.entries its < steps_left index.entries (Marking.walk mark)) (sym walk) (walk_falls index mark.walk is some under)

    by_next : (o : Option Pointer) → slice_get dropped (at + 1) ≡ o → write_left_at index.entries owner (to_mark owner dropped (at + 1) o) < steps_left index.entries (Marking.walk mark) + marks_left index.entries owner dropped (at + 1)
    by_next None e = omega (arith, less)
    by_next (Some pointer) e =
        let all = marks_more index.entries owner dropped (at + 1) pointer e in
        omega (arith, less, all)

    by : (b : Bool) → write_left_at index.entries owner (cond b (marking_from owner dropped (at + 1)) (stages.Marking dropped at next)) < steps_left index.entries (Marking.walk mark) + marks_left index.entries owner dropped (at + 1)
    by true = by_next (slice_get dropped (at + 1)) refl
    by false = omega (arith, less)

-- ---- what is left of the core's session

pub left_before : (c : CoreState) (s t : ℕ) (write : Writing) → (seat_of c s).job ≡ jobs.Writing t write → left c s ≡ write_left_at (table_at c.tables t).toast.index.entries write.owner write.stage
left_before c s t write is = ap (left_by c s) is

pub left_after : (c : CoreState) (s t : ℕ) (ids : Pool) (log : LogState) (tables : List Table) (toast : Store) (write : Writing) (own added : Option ℕ) → StepTaken c s t ids log tables toast (jobs.Writing t write) own added
    → left (after_taken c s ids log tables (jobs.Writing t write)) s ≡ write_left_at toast.index.entries write.owner write.stage
left_after c s t ids log tables toast write own added step =
    let later = after_taken c s ids log tables (jobs.Writing t write) in
    ap (left_by later s) (ap (λ (seat : Seat). seat.job) (seat_written c.seats s (record (seat_of c s) { job = jobs.Writing t write }) step.session))
    ∙ ap (λ (table : Table). write_left_at table.toast.index.entries write.owner write.stage) step.restored.here

pub marks_fall_all : (c : CoreState) (s t : ℕ) (write : Writing) (toast : Store) → IsMarkingOne write.stage → write_told c t write ≡ writes.More → IsWriteMade c s t write toast → left (after_write_step c s t write toast) s < left c s
marks_fall_all c s t write toast is goes made = by write.owner write.stage is goes made
  where
    by : (owner : Owner) (stage : WriteStage) → IsMarkingOne stage → write_told c t (write_at owner stage) ≡ writes.More → IsWriteMade c s t (write_at owner stage) toast → left (after_write_step c s t (write_at owner stage) toast) s < left c s
    by owner (stages.Saving old new plan at save) is goes made = absurd is
    by owner (stages.Put old new plan) is goes made = absurd is
    by owner (stages.Remove old) is goes made = absurd is
    by owner (stages.Marking dropped at mark) is goes made =
        let known = mark_known c s t owner dropped at mark toast made in
        let step = marking_taken c s t owner dropped at mark toast goes made in
        let was = (table_at c.tables t).toast in
        let entries : toast.index.entries ≡ was.index.entries = ap (λ (store : Store). store.index.entries) known.left ∙ entries_walked was.index mark.walk in
        let fall = mark_falls was.index owner dropped at mark (mark_after (parts_at c t) mark) refl known.step.old.index known.step.write.own.stage.walk known.stands.can.0 in
        let after = left_after c s t c.ids c.log _ toast (write_after (parts_at c t) (write_at owner (stages.Marking dropped at mark))) _ _ step in
        let before = left_before c s t (write_at owner (stages.Marking dropped at mark)) made.job in
        let same : write_left_at toast.index.entries owner (stage_after (parts_at c t) owner (stages.Marking dropped at mark)) ≡ write_left_at was.index.entries owner (stage_after (parts_at c t) owner (stages.Marking dropped at mark)) = ap (λ (es : List Entry). write_left_at es owner (stage_after (parts_at c t) owner (stages.Marking dropped at mark))) entries in
        subst (λ (n : ℕ). n < left c s) (sym (after ∙ same)) (subst (λ (n : ℕ). write_left_at was.index.entries owner (stage_after (parts_at c t) owner (stages.Marking dropped at mark)) < n) (sym before) fall)
    by owner stages.Over is goes made = absurd is

pub marks_last_fall : (c : CoreState) (s t : ℕ) (write : Writing) (toast : Store) → IsMarkingOne write.stage → write_told c t write ≡ writes.Done → IsWriteMade c s t write toast → left (after_write_last c s t write toast) s < left c s
marks_last_fall c s t write toast is done made = by write.owner write.stage is done made
  where
    by : (owner : Owner) (stage : WriteStage) → IsMarkingOne stage → write_told c t (write_at owner stage) ≡ writes.Done → IsWriteMade c s t (write_at owner stage) toast → left (after_write_last c s t (write_at owner stage) toast) s < left c s
    by owner (stages.Saving old new plan at save) is done made = absurd is
    by owner (stages.Put old new plan) is done made = absurd is
    by owner (stages.Remove old) is done made = absurd is
    by owner (stages.Marking dropped at mark) is done made =
        let known = mark_known c s t owner dropped at mark toast made in
        let was = (table_at c.tables t).toast in
        let tables = with_table c.tables t (with_toast (table_at c.tables t) toast) in
        let later = after_taken c s (ids_released c.ids s) c.log tables jobs.Idle in
        let none : left later s ≡ 0 = ap (left_by later s) (ap (λ (seat : Seat). seat.job) (seat_written c.seats s (record (seat_of c s) { job = jobs.Idle }) made.session)) in
        let fall = walk_falls was.index mark.walk known.step.old.index known.step.write.own.stage.walk known.stands.can.0 in
        let before : left c s ≡ steps_left was.index.entries mark.walk + marks_left was.index.entries owner dropped (at + 1) = left_before c s t (write_at owner (stages.Marking dropped at mark)) made.job in
        subst (λ (n : ℕ). n < left c s) (sym none) (subst (λ (n : ℕ). 0 < n) (sym before) (omega (arith, fall)))
    by owner stages.Over is done made = absurd is
