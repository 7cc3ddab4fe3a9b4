-- What is left of a write falls with its version step.
use Rattle.std.proofs.Common.{ap, arith, refl, ◌∙◌}
use Rattle.std.proofs.lemmas.List.Sums.{sum_by-cons}
use Rattle.std.specs.Prelude.{List, None, Option, Some, [], slice_get, ℕ, ◌+◌, ◌<◌, ◌∷◌, ◌≡◌}
use Rattle.external_pointer.specs.declared.external.Pointer.{Pointer}
use Rattle.tuple_layout.specs.declared.cell.Stored.{Stored}
use Rattle.row_versions.specs.Relations.{Pages}
use Rattle.row_versions.specs.declared.keys.KeyEntry.{KeyEntry}
use Rattle.value_ids.specs.Ids.{Pool}
use Rattle.chunk_index.specs.declared.entry.Entry.{Entry}
use Rattle.change_log.specs.declared.entry.LogEntry.{LogEntry}
use Rattle.toast_store.specs.Marks.{Marking, new_mark}
use Rattle.toast_store.specs.Stores.{Store}
use Rattle.toast_store.specs.Walks.{steps_left}
use Rattle.table_state.specs.declared.table.Table.{Table}
use Rattle.write_steps.specs.Dropped.{dropped_of}
use Rattle.write_steps.specs.Writes.{row_entry}
use Rattle.write_steps.specs.declared.stage.OldRow.{OldRow}
use Rattle.write_steps.specs.declared.stage.Owner.{Owner}
use Rattle.write_steps.specs.declared.stage.WriteStage.{WriteStage}
use Rattle.write_steps.specs.declared.stage.WriteStep.{WriteStep}
use Rattle.core_state.proofs.Seats.{seat_written}
use Rattle.core_state.specs.Coming.{marks_left, write_left_at}
use Rattle.core_state.specs.Events.{left, left_by, write_on_by, write_told}
use Rattle.core_state.specs.Lines.{ids_released}
use Rattle.core_state.specs.State.{CoreState, IsSession, seat_of, table_at}
use Rattle.core_state.specs.declared.seat.Job.{Job}
use Rattle.core_state.specs.declared.seat.Seat.{Seat}
use Rattle.core_versions.proofs.Goes.{at_stage, step_by}
use Rattle.core_versions.proofs.Keeps.{IsWriting, parts_moved, parts_put, parts_removed, tables_then}
use Rattle.core_versions.proofs.Made.{rows_moved, rows_put, rows_removed}
use Rattle.core_versions.proofs.Sound.{stepped}
use Rattle.core_versions.proofs.Tables.{steps_at, toast_same}
use Rattle.change_log.specs.declared.entry.LogEntry.TheVariants as entries
use Rattle.core_state.specs.declared.seat.Job.TheVariants as jobs
use Rattle.write_steps.specs.declared.stage.WriteStage.TheVariants as stages

-- the marks that are left are the first and those after it
marks_first : (index : List Entry) (owner : Owner) (dropped : List Pointer) (first : Pointer) → slice_get dropped 0 ≡ Some first
    → marks_left index owner dropped 0 ≡ steps_left index (Marking.walk (new_mark first owner.xid owner.session)) + marks_left index owner dropped 1
marks_first index owner [] first e = absurd (cc)
marks_first index owner (q ∷ rest) first e =
    let is : q ≡ first = cc in
    sum_by-cons (λ (pointer : Pointer). steps_left index (Marking.walk (new_mark pointer owner.xid owner.session))) q rest
    ∙ ap (λ (pointer : Pointer). steps_left index (Marking.walk (new_mark pointer owner.xid owner.session)) + marks_left index owner (q ∷ rest) 1) is

-- what is left after the step, by the session's job then
left_then : (c : CoreState) (s : ℕ) (ids : Pool) (later : List Table) (entry : LogEntry) (job : Job) → IsSession c.seats s → left (stepped c s ids later entry job) s ≡ left_by (stepped c s ids later entry job) s job
left_then c s ids later entry job there = ap (λ (seat : Seat). left_by (stepped c s ids later entry job) s seat.job) (seat_written c.seats s (record (seat_of c s) { job = job }) there)

left_before : (c : CoreState) (s t : ℕ) (owner : Owner) (stage : WriteStage) (dropped : List Pointer) → IsWriting c s t owner stage → write_left_at (table_at c.tables t).toast.index.entries owner stage ≡ 1 + marks_left (table_at c.tables t).toast.index.entries owner dropped 0
    → left c s ≡ 1 + marks_left (table_at c.tables t).toast.index.entries owner dropped 0
left_before c s t owner stage dropped writing is = ap (left_by c s) writing.job ∙ is

falls_last : (c : CoreState) (s t : ℕ) (owner : Owner) (stage : WriteStage) (dropped : List Pointer) (later : List Table) (entry : LogEntry) → IsWriting c s t owner stage
    → write_left_at (table_at c.tables t).toast.index.entries owner stage ≡ 1 + marks_left (table_at c.tables t).toast.index.entries owner dropped 0
    → left (stepped c s (ids_released c.ids s) later entry jobs.Idle) s < left c s
falls_last c s t owner stage dropped later entry writing is =
    let before = left_before c s t owner stage dropped writing is in
    let after : left (stepped c s (ids_released c.ids s) later entry jobs.Idle) s ≡ 0 = left_then c s (ids_released c.ids s) later entry jobs.Idle writing.session in
    rw (before, after) (omega arith)

falls_marking : (c : CoreState) (s t : ℕ) (owner : Owner) (stage : WriteStage) (pages : Pages) (names : List KeyEntry) (dropped : List Pointer) (entry : LogEntry) (first : Pointer) → IsWriting c s t owner stage
    → write_left_at (table_at c.tables t).toast.index.entries owner stage ≡ 1 + marks_left (table_at c.tables t).toast.index.entries owner dropped 0 → slice_get dropped 0 ≡ Some first
    → left (stepped c s c.ids (tables_then c t pages names) entry (jobs.Writing t (at_stage owner (stages.Marking dropped 0 (new_mark first owner.xid owner.session))))) s < left c s
falls_marking c s t owner stage pages names dropped entry first writing is e =
    let before = left_before c s t owner stage dropped writing is in
    let same = toast_same c.tables (tables_then c t pages names) t t pages names (steps_at c.tables t pages names writing.works.of_table) in
    let after = left_then c s c.ids (tables_then c t pages names) entry (jobs.Writing t (at_stage owner (stages.Marking dropped 0 (new_mark first owner.xid owner.session)))) writing.session
    ∙ ap (λ (store : Store). write_left_at store.index.entries owner (stages.Marking dropped 0 (new_mark first owner.xid owner.session))) same in
    let marks = marks_first (table_at c.tables t).toast.index.entries owner dropped first e in
    rw (before, after, marks) (omega arith)

pub falls_put : (c : CoreState) (s t : ℕ) (owner : Owner) (toast : Store) (old : Option OldRow) (new : Stored) (plan : List ℕ) → IsWriting c s t owner (stages.Put old new plan) → toast ≡ (table_at c.tables t).toast
    → left (write_on_by c s t (at_stage owner (stages.Put old new plan)) toast (write_told c t (at_stage owner (stages.Put old new plan)))) s < left c s
falls_put c s t owner toast None new plan writing same =
    let rows = rows_put (table_at c.tables t) owner.xid new in
    step_by c s t owner (stages.Put None new plan) toast (tables_then c t rows.pages rows.entries) (row_entry owner None new) [] (λ (core : CoreState) (told : WriteStep). left core s < left c s) refl (parts_put c t owner new plan toast same)
    (falls_last c s t owner (stages.Put None new plan) [] (tables_then c t rows.pages rows.entries) (row_entry owner None new) writing refl)
    (λ first e. falls_marking c s t owner (stages.Put None new plan) rows.pages rows.entries [] (row_entry owner None new) first writing refl e)
falls_put c s t owner toast (Some row) new plan writing same =
    let rows = rows_moved (table_at c.tables t) owner.xid row new in
    step_by c s t owner (stages.Put (Some row) new plan) toast (tables_then c t rows.pages rows.entries) (row_entry owner (Some row) new) (dropped_of row.stored.cells new.cells) (λ (core : CoreState) (told : WriteStep). left core s < left c s) refl (parts_moved c t owner row new plan toast same)
    (falls_last c s t owner (stages.Put (Some row) new plan) (dropped_of row.stored.cells new.cells) (tables_then c t rows.pages rows.entries) (row_entry owner (Some row) new) writing refl)
    (λ first e. falls_marking c s t owner (stages.Put (Some row) new plan) rows.pages rows.entries (dropped_of row.stored.cells new.cells) (row_entry owner (Some row) new) first writing refl e)

pub falls_removed : (c : CoreState) (s t : ℕ) (owner : Owner) (toast : Store) (row : OldRow) → IsWriting c s t owner (stages.Remove row) → toast ≡ (table_at c.tables t).toast
    → left (write_on_by c s t (at_stage owner (stages.Remove row)) toast (write_told c t (at_stage owner (stages.Remove row)))) s < left c s
falls_removed c s t owner toast row writing same =
    let rows = rows_removed (table_at c.tables t) owner.xid row in
    let entry = entries.Delete owner.xid owner.table row.stored.key in
    step_by c s t owner (stages.Remove row) toast (tables_then c t rows.pages rows.entries) entry (dropped_of row.stored.cells []) (λ (core : CoreState) (told : WriteStep). left core s < left c s) refl (parts_removed c t owner row toast same)
    (falls_last c s t owner (stages.Remove row) (dropped_of row.stored.cells []) (tables_then c t rows.pages rows.entries) entry writing refl)
    (λ first e. falls_marking c s t owner (stages.Remove row) rows.pages rows.entries (dropped_of row.stored.cells []) entry first writing refl e)
