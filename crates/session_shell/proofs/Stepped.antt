-- What a later step of a command leaves under way.
use Rattle.std.proofs.Common.{◌≡◌, ◌+◌, ℕ, Bool, true, false, List, Option, Some, None, refl, sym, ap, ◌∙◌}
use Rattle.std.specs.Prelude.{if◌then◌else◌}
use Rattle.external_pointer.specs.declared.external.Pointer.{Pointer}
use Rattle.value_ids.specs.declared.fault.DrawFault.TheVariants.{NoValueId}
use Rattle.toast_store.specs.Marks.{Marking}
use Rattle.toast_store.specs.Stores.{Store}
use Rattle.read_steps.specs.Reads.{Reading}
use Rattle.read_steps.specs.declared.stage.ReadStep.{ReadStep}
use Rattle.read_steps.specs.declared.stage.ReadStep.TheVariants as reads
use Rattle.write_steps.specs.Steps.{IsWriteCause}
use Rattle.write_steps.specs.Writes.{Parts, Writing, marking_from, stage_after, to_mark}
use Rattle.write_steps.specs.declared.stage.Owner.{Owner}
use Rattle.write_steps.specs.declared.stage.WriteStage.{WriteStage}
use Rattle.write_steps.specs.declared.stage.WriteStage.TheVariants as stages
use Rattle.write_steps.specs.declared.stage.WriteStep.{WriteStep}
use Rattle.write_steps.specs.declared.stage.WriteStep.TheVariants as writes
use Rattle.command_set.specs.declared.Reply.TheVariants as replies
use Rattle.core_state.proofs.Seats.{seat_written}
use Rattle.core_state.specs.Events.{Event, IsDue, read_on_by, read_told, told_by_read, told_by_write, write_on_by, write_told}
use Rattle.core_state.specs.Lines.{parts_at}
use Rattle.core_state.specs.State.{CoreState, IsSession, is_past_moment, seat_of}
use Rattle.core_state.specs.declared.advance.Advance.TheVariants as advances
use Rattle.core_state.specs.declared.seat.Job.{Job}
use Rattle.core_state.specs.declared.seat.Job.TheVariants as jobs
use Rattle.core_state.specs.declared.seat.Seat.{Seat}
use Rattle.session_shell.specs.Hubs.{is_at_save, is_saving}

mark_saves_none : (owner : Owner) (dropped : List Pointer) (at : ℕ) (o : Option Pointer) → is_at_save (to_mark owner dropped at o) ≡ false
mark_saves_none owner dropped at None = refl
mark_saves_none owner dropped at (Some pointer) = refl

marking_saves_none : (b : Bool) (owner : Owner) (dropped : List Pointer) (at : ℕ) (mark : Marking) → is_at_save (if b then marking_from owner dropped (at + 1) else stages.Marking dropped at mark) ≡ false
marking_saves_none true owner dropped at mark = mark_saves_none owner dropped (at + 1) _
marking_saves_none false owner dropped at mark = refl

-- a write saves a value only if it did so before
saves_on : (parts : Parts) (owner : Owner) (stage : WriteStage) → is_at_save (stage_after parts owner stage) ≡ true → is_at_save stage ≡ true
saves_on parts owner (stages.Saving old new plan at save) e = refl
saves_on parts owner (stages.Put old new plan) e = sym (mark_saves_none owner _ 0 _) ∙ e
saves_on parts owner (stages.Remove old) e = sym (mark_saves_none owner _ 0 _) ∙ e
saves_on parts owner (stages.Marking dropped at mark) e = sym (marking_saves_none _ owner dropped at _) ∙ e
saves_on parts owner stages.Over e = e

read_on : (old new : CoreState) (s t : ℕ) (snapshot : Option ℕ) (read : Reading) (step : ReadStep) → IsSession old.seats s → new ≡ read_on_by old s t snapshot read step → advances.More ≡ told_by_read step → is_saving (seat_of new s).job ≡ false
read_on old new s t snapshot read reads.More there is told = ap (λ (c : CoreState). is_saving (seat_of c s).job) is ∙ ap (λ (seat : Seat). is_saving seat.job) (seat_written old.seats s _ there)
read_on old new s t snapshot read (reads.Done reply) there is told = absurd (cc)

write_on : (old new : CoreState) (s t : ℕ) (write : Writing) (toast : Store) (step : WriteStep) → IsSession old.seats s → new ≡ write_on_by old s t write toast step → advances.More ≡ told_by_write step → is_saving (seat_of new s).job ≡ true → is_at_save write.stage ≡ true
write_on old new s t write toast writes.More there is told saves =
    saves_on (parts_at old t) write.owner write.stage (sym (ap (λ (c : CoreState). is_saving (seat_of c s).job) is ∙ ap (λ (seat : Seat). is_saving seat.job) (seat_written old.seats s _ there)) ∙ saves)
write_on old new s t write toast writes.Done there is told saves = absurd (cc)

on_by : (job : Job) (old new : CoreState) (s : ℕ) → IsSession old.seats s → is_past_moment job ≡ true → IsDue job old s new advances.More → is_saving (seat_of new s).job ≡ true → is_saving job ≡ true
on_by jobs.Idle old new s there past due saves = absurd (cc)
on_by (jobs.Submitted command) old new s there past due saves = absurd (cc)
on_by (jobs.Reading t snapshot read) old new s there past due saves = absurd (let no = read_on old new s t snapshot read (read_told old t read) there due.0 due.1 in cc)
on_by (jobs.Writing t write) old new s there past due saves = write_on old new s t write due.toast (write_told old t write) there due.is due.told saves

-- a job that saves a value after a step did so before
pub saved_before : (old new : CoreState) (s : ℕ) → IsSession old.seats s → is_past_moment (seat_of old s).job ≡ true → Event old s new advances.More → is_saving (seat_of new s).job ≡ true → is_saving (seat_of old s).job ≡ true
saved_before old new s there past event saves = on_by (seat_of old s).job old new s there past event.is saves

-- an id is refused at a draw alone
refused_at_save : (parts : Parts) (stage : WriteStage) (in_use : ℕ) → IsWriteCause parts stage (NoValueId in_use) → is_at_save stage ≡ true
refused_at_save parts (stages.Saving old new plan at save) in_use cause = refl
refused_at_save parts (stages.Put old new plan) in_use cause = absurd (cc)
refused_at_save parts (stages.Remove old) in_use cause = absurd (cc)
refused_at_save parts (stages.Marking dropped at mark) in_use cause = absurd (cc)
refused_at_save parts stages.Over in_use cause = absurd cause

pub refused_saving : (old new : CoreState) (s t : ℕ) (write : Writing) → IsDue (jobs.Writing t write) old s new (advances.Done replies.NoValueId) → is_at_save write.stage ≡ true
refused_saving old new s t write due = refused_at_save (parts_at old t) write.stage due.in_use due.cause
