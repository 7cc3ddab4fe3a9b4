-- A later event of a command is one of the turns that it takes at least.
use Rattle.std.proofs.Common.{ap, refl, subst, sym, ◌∙◌}
use Rattle.std.specs.Prelude.{Option, suc, true, ℕ, ◌≡◌, ◌≢◌, ◌≤◌}
use Rattle.command_set.specs.declared.Reply.{Reply}
use Rattle.toast_store.specs.Stores.{Store}
use Rattle.read_steps.specs.Reads.{Reading, read_after}
use Rattle.read_steps.specs.declared.stage.ReadStep.{ReadStep}
use Rattle.write_steps.specs.Standing.{StandsAt}
use Rattle.write_steps.specs.Writes.{Writing, write_after}
use Rattle.write_steps.specs.declared.stage.WriteStep.{WriteStep}
use Rattle.core_state.proofs.Seats.{seat_written, sound_of}
use Rattle.core_state.specs.Events.{IsDue, IsWriteDue, IsWriteOn, read_on_by, read_told, told_by_read, told_by_write, write_on_by, write_told}
use Rattle.core_state.specs.Facts.{JobIsSound}
use Rattle.core_state.specs.Lines.{after_read_step, after_write_step, parts_at}
use Rattle.core_state.specs.State.{CoreState, IsSession, is_past_moment, seat_of, table_at}
use Rattle.core_state.specs.declared.seat.Job.{Job}
use Rattle.core_state.specs.declared.seat.Seat.{Seat}
use Rattle.lock_table.specs.Locks.{held_by}
use Rattle.core_events.specs.Laws.{IsSoundAt}
use Rattle.core_counts.proofs.Reading as reading
use Rattle.core_counts.proofs.Writing as writing
use Rattle.core_counts.specs.Laws.{CountsFall}
use Rattle.core_counts.specs.Least.{job_least, read_least, write_least}
use Rattle.command_set.specs.declared.Reply.TheVariants as replies
use Rattle.core_state.specs.declared.advance.Advance.TheVariants as advances
use Rattle.core_state.specs.declared.seat.Job.TheVariants as jobs
use Rattle.read_steps.specs.declared.stage.ReadStep.TheVariants as steps
use Rattle.write_steps.specs.declared.stage.WriteStep.TheVariants as writes

-- ---- what the session's job is then

job_read : (c : CoreState) (s t : ℕ) (snapshot : Option ℕ) (read : Reading) → IsSession c.seats s → (seat_of (after_read_step c s t snapshot read) s).job ≡ jobs.Reading t snapshot (read_after (table_at c.tables t).toast read)
job_read c s t snapshot read there = ap (λ (seat : Seat). seat.job) (seat_written c.seats s (record (seat_of c s) { job = jobs.Reading t snapshot (read_after (table_at c.tables t).toast read) }) there)

job_written : (c : CoreState) (s t : ℕ) (write : Writing) (toast : Store) → IsSession c.seats s → (seat_of (after_write_step c s t write toast) s).job ≡ jobs.Writing t (write_after (parts_at c t) write)
job_written c s t write toast there = ap (λ (seat : Seat). seat.job) (seat_written c.seats s (record (seat_of c s) { job = jobs.Writing t (write_after (parts_at c t) write) }) there)

-- a write under way relies on what it stands on
stands_of : (c : CoreState) (s t : ℕ) (write : Writing) → IsSoundAt c s → (seat_of c s).job ≡ jobs.Writing t write → StandsAt (parts_at c t) write.owner write.stage
stands_of c s t write at is = (subst (λ (job : Job). JobIsSound c.xacts c.snaps c.ids (held_by c.locks s) c.tables s (seat_of c s) job) is (sound_of c s at.there at.sound).job).1.stands c.log

-- ---- a step that goes on

read_more : (c : CoreState) (s t : ℕ) (snapshot : Option ℕ) (read : Reading) (new : CoreState) → IsSession c.seats s → new ≡ read_on_by c s t snapshot read (read_told c t read) → advances.More ≡ told_by_read (read_told c t read)
    → read_least read.stage ≤ suc (job_least (seat_of new s).job)
read_more c s t snapshot read new there is told = by (read_told c t read) refl is told
  where
    by : (step : ReadStep) → read_told c t read ≡ step → new ≡ read_on_by c s t snapshot read step → advances.More ≡ told_by_read step → read_least read.stage ≤ suc (job_least (seat_of new s).job)
    by steps.More at e f =
        let more = reading.stage_more (table_at c.tables t).toast read.session read.stage at in
        let then : job_least (seat_of new s).job ≡ read_least (Reading.stage (read_after (table_at c.tables t).toast read)) = ap (λ (core : CoreState). job_least (seat_of core s).job) e ∙ ap job_least (job_read c s t snapshot read there) in
        subst (λ (n : ℕ). read_least read.stage ≤ suc n) (sym then) more
    by (steps.Done reply) at e f = absurd (cc)

write_more : (c : CoreState) (s t : ℕ) (write : Writing) (new : CoreState) → IsSession c.seats s → StandsAt (parts_at c t) write.owner write.stage → IsWriteOn c s t write new advances.More → write_least write.stage ≤ suc (job_least (seat_of new s).job)
write_more c s t write new there stands on = by (write_told c t write) refl on.is on.told
  where
    by : (step : WriteStep) → write_told c t write ≡ step → new ≡ write_on_by c s t write on.toast step → advances.More ≡ told_by_write step → write_least write.stage ≤ suc (job_least (seat_of new s).job)
    by writes.More at e f =
        let more = writing.stage_more (parts_at c t) write.owner write.stage stands in
        let then : job_least (seat_of new s).job ≡ write_least (Writing.stage (write_after (parts_at c t) write)) = ap (λ (core : CoreState). job_least (seat_of core s).job) e ∙ ap job_least (job_written c s t write on.toast there) in
        subst (λ (n : ℕ). write_least write.stage ≤ suc n) (sym then) more
    by writes.Done at e f = absurd (cc)

-- ---- a step that ends its command

read_done : (c : CoreState) (t : ℕ) (read : Reading) (reply : Reply) → advances.Done reply ≡ told_by_read (read_told c t read) → read_least read.stage ≤ 1
read_done c t read reply told = by (read_told c t read) refl told
  where
    by : (step : ReadStep) → read_told c t read ≡ step → advances.Done reply ≡ told_by_read step → read_least read.stage ≤ 1
    by steps.More at f = absurd (cc)
    by (steps.Done said) at f = reading.stage_done (table_at c.tables t).toast read.session read.stage said at

write_done : (c : CoreState) (s t : ℕ) (write : Writing) (new : CoreState) (reply : Reply) → StandsAt (parts_at c t) write.owner write.stage → IsWriteOn c s t write new (advances.Done reply) → write_least write.stage ≤ 1
write_done c s t write new reply stands on = by (write_told c t write) refl on.told
  where
    by : (step : WriteStep) → write_told c t write ≡ step → advances.Done reply ≡ told_by_write step → write_least write.stage ≤ 1
    by writes.More at f = absurd (cc)
    by writes.Done at f = writing.stage_done (parts_at c t) write.owner write.stage stands at

-- a step that answers another reply is no refused draw
on_of : (c : CoreState) (s t : ℕ) (write : Writing) (new : CoreState) (reply : Reply) → reply ≢ replies.NoValueId → IsWriteDue c s t write new (advances.Done reply) → IsWriteOn c s t write new (advances.Done reply)
on_of c s t write new replies.NoValueId other due = absurd (other refl)
on_of c s t write new reply other due = due

-- ---- an event

pub counts_fall : CountsFall
counts_fall = record {
  more = λ c s new at past event. more_by c s new at (seat_of c s).job refl past event.is;
  over = λ c s new reply at past other event. done_by c s new reply at other (seat_of c s).job refl past event.is;
}
  where
    more_by : (c : CoreState) (s : ℕ) (new : CoreState) → IsSoundAt c s → (job : Job) → (seat_of c s).job ≡ job → is_past_moment job ≡ true → IsDue job c s new advances.More → job_least job ≤ suc (job_least (seat_of new s).job)
    more_by c s new at jobs.Idle is past due = absurd (cc)
    more_by c s new at (jobs.Submitted command) is past due = absurd (cc)
    more_by c s new at (jobs.Reading t snapshot read) is past due = read_more c s t snapshot read new at.there due.0 due.1
    more_by c s new at (jobs.Writing t write) is past due = write_more c s t write new at.there (stands_of c s t write at is) due

    done_by : (c : CoreState) (s : ℕ) (new : CoreState) (reply : Reply) → IsSoundAt c s → reply ≢ replies.NoValueId → (job : Job) → (seat_of c s).job ≡ job → is_past_moment job ≡ true → IsDue job c s new (advances.Done reply) → job_least job ≤ 1
    done_by c s new reply at other jobs.Idle is past due = absurd (cc)
    done_by c s new reply at other (jobs.Submitted command) is past due = absurd (cc)
    done_by c s new reply at other (jobs.Reading t snapshot read) is past due = read_done c t read reply due.1
    done_by c s new reply at other (jobs.Writing t write) is past due = write_done c s t write new reply (stands_of c s t write at is) (on_of c s t write new reply other due)
