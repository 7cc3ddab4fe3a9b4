-- What follows a version step: the write marks what it drops, or it is over.
use Rattle.std.proofs.Common.{refl, subst, sym}
use Rattle.std.specs.Prelude.{List, None, Option, Some, slice_get, ℕ, ◌≡◌}
use Rattle.external_pointer.specs.declared.external.Pointer.{Pointer}
use Rattle.change_log.specs.declared.entry.LogEntry.{LogEntry}
use Rattle.toast_store.specs.Marks.{new_mark}
use Rattle.toast_store.specs.Stores.{Store}
use Rattle.table_state.specs.declared.table.Table.{Table}
use Rattle.write_steps.specs.Writes.{Writing, answer_at, marking_from, stage_after, to_mark, with_logged}
use Rattle.write_steps.specs.declared.stage.Owner.{Owner}
use Rattle.write_steps.specs.declared.stage.WriteStage.{WriteStage}
use Rattle.write_steps.specs.declared.stage.WriteStep.{WriteStep}
use Rattle.core_state.specs.Events.{write_on_by, write_told}
use Rattle.core_state.specs.Lines.{after_write_last, after_write_parts, ids_released, parts_at, seated}
use Rattle.core_state.specs.State.{CoreState, seat_of}
use Rattle.core_versions.proofs.Sound.{stepped}
use Rattle.core_state.specs.declared.seat.Job.TheVariants as jobs
use Rattle.write_steps.specs.declared.stage.WriteStage.TheVariants as stages
use Rattle.write_steps.specs.declared.stage.WriteStep.TheVariants as writes

-- the write at a stage
abbrev pub at_stage : Owner → WriteStage → Writing
at_stage owner stage = record { owner = owner; stage = stage }

-- the core after a step that leaves the write at a stage
abbrev on_by : CoreState → ℕ → ℕ → Writing → Store → WriteStage → WriteStep → CoreState
on_by c s t write toast stage writes.More = seated (after_write_parts c t write toast) s (record (seat_of c s) { job = jobs.Writing t (at_stage write.owner stage) })
on_by c s t write toast stage writes.Done = after_write_last c s t write toast

on_is : (c : CoreState) (s t : ℕ) (write : Writing) (toast : Store) (told : WriteStep) → write_on_by c s t write toast told ≡ on_by c s t write toast (stage_after (parts_at c t) write.owner write.stage) told
on_is c s t write toast writes.More = refl
on_is c s t write toast writes.Done = refl

-- what holds of the core and of the answer, by what follows
pub step_by : (c : CoreState) (s t : ℕ) (owner : Owner) (stage : WriteStage) (toast : Store) (later : List Table) (entry : LogEntry) (dropped : List Pointer) (Q : CoreState → WriteStep → Type 0)
    → stage_after (parts_at c t) owner stage ≡ marking_from owner dropped 0 → after_write_parts c t (at_stage owner stage) toast ≡ record c { log = with_logged c.log entry; tables = later }
    → Q (stepped c s (ids_released c.ids s) later entry jobs.Idle) writes.Done
    → ((first : Pointer) → slice_get dropped 0 ≡ Some first → Q (stepped c s c.ids later entry (jobs.Writing t (at_stage owner (stages.Marking dropped 0 (new_mark first owner.xid owner.session))))) writes.More)
    → Q (write_on_by c s t (at_stage owner stage) toast (write_told c t (at_stage owner stage))) (write_told c t (at_stage owner stage))
step_by c s t owner stage toast later entry dropped Q after parts last more =
    subst (λ (core : CoreState). Q core (write_told c t (at_stage owner stage))) (sym (on_is c s t (at_stage owner stage) toast (write_told c t (at_stage owner stage))))
    (subst (λ (next : WriteStage). Q (on_by c s t (at_stage owner stage) toast next (answer_at next)) (answer_at next)) (sym after) (by (slice_get dropped 0) refl))
  where
    by : (o : Option Pointer) → slice_get dropped 0 ≡ o → Q (on_by c s t (at_stage owner stage) toast (to_mark owner dropped 0 o) (answer_at (to_mark owner dropped 0 o))) (answer_at (to_mark owner dropped 0 o))
    by None e = subst (λ (core : CoreState). Q (seated (record core { ids = ids_released core.ids s }) s (record (seat_of c s) { job = jobs.Idle })) writes.Done) (sym parts) last
    by (Some first) e = subst (λ (core : CoreState). Q (seated core s (record (seat_of c s) { job = jobs.Writing t (at_stage owner (stages.Marking dropped 0 (new_mark first owner.xid owner.session))) })) writes.More) (sym parts) (more first e)
