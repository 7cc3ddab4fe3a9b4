-- The table of a write under way is that of its command.
use Rattle.std.proofs.Common.{ap, inl, refl, subst, sym}
use Rattle.std.specs.Option.{option_map_or}
use Rattle.std.specs.Prelude.{Bool, List, None, Option, Some, [], cond, false, true, ℕ, ◌∷◌, ◌≡◌, ◌≢◌, ℤ}
use Rattle.snapshot_registry.specs.Snapshots.{after_take, least_free}
use Rattle.command_set.specs.Answers.{table_of}
use Rattle.command_set.specs.Journals.{is_data}
use Rattle.command_set.specs.declared.Command.{Command}
use Rattle.toast_store.specs.Stores.{Store}
use Rattle.read_steps.specs.Reads.{Reading, held_read}
use Rattle.read_steps.specs.declared.stage.ReadStep.{ReadStep}
use Rattle.write_steps.specs.Writes.{Writing}
use Rattle.write_steps.specs.declared.stage.OldRow.{OldRow}
use Rattle.write_steps.specs.declared.stage.WriteStep.{WriteStep}
use Rattle.core_state.proofs.Seats.{seat_written}
use Rattle.core_state.specs.Begun.{held_size, part_wanted, row_read, span_of, updated_row, write_begun}
use Rattle.core_state.specs.Events.{Event, IsDue, IsMoment, IsWriteDue, IsWriteOn, MomentLine, at_moment, line_granted, read_on_by, read_told, write_on_by, write_told}
use Rattle.core_state.specs.Lines.{after_use, seated}
use Rattle.core_state.specs.State.{CoreState, IsSession, handle_of, is_past_moment, is_repeatable, seat_of}
use Rattle.core_state.specs.Views.{row_seen}
use Rattle.core_state.specs.Moves.{Says}
use Rattle.command_set.specs.declared.Reply.{Reply}
use Rattle.core_state.specs.declared.advance.Advance.{Advance}
use Rattle.core_state.specs.declared.seat.Job.{Job}
use Rattle.core_state.specs.declared.seat.Seat.{Seat}
use Rattle.core_outs.proofs.Quiet.{IsQuiet, fetching_quiet, found_quiet, reading_quiet, use_leaves}
use Rattle.draw_counts.specs.Drawn.{IsOfTable}
use Rattle.command_set.specs.declared.Command.TheVariants as commands
use Rattle.command_set.specs.declared.Reply.TheVariants as replies
use Rattle.core_state.specs.Events as lines
use Rattle.core_state.specs.declared.advance.Advance.TheVariants as advances
use Rattle.core_state.specs.declared.seat.Job.TheVariants as jobs
use Rattle.read_steps.specs.declared.stage.ReadStep.TheVariants as reads
use Rattle.read_steps.specs.declared.wanted.Wanted.TheVariants as wanteds
use Rattle.write_steps.specs.declared.stage.WriteStep.TheVariants as writes

-- a job that is this one
pub is_job : (o : Option ℕ) (job one : Job) → job ≡ one → IsOfTable o one → IsOfTable o job
is_job o job one is of = subst (IsOfTable o) (sym is) of

-- ---- the moment

-- after a quiet line no write is under way
quiet_table : (c : CoreState) (s : ℕ) (o : Option ℕ) (line : MomentLine) → IsSession c.seats s → IsQuiet c s line → IsOfTable o (seat_of (at_moment line c s) s).job
quiet_table c s o (lines.Over state) there quiet = is_job o _ jobs.Idle (ap (λ (seat : Seat). seat.job) (seat_written c.seats s _ there)) tt
quiet_table c s o (lines.Looked t) there quiet = is_job o _ jobs.Idle (ap (λ (seat : Seat). seat.job) (seat_written (after_use c s t).seats s _ (use_leaves c s t there).there)) tt
quiet_table c s o lines.Committed there quiet = absurd quiet
quiet_table c s o (lines.GivenUp state) there quiet = is_job o _ jobs.Idle (ap (λ (seat : Seat). seat.job) (seat_written c.seats s _ there)) tt
quiet_table c s o (lines.ReadBegun t read) there quiet = by (is_repeatable (seat_of (after_use c s t) s).state)
  where
    u : CoreState
    u = after_use c s t

    by : (b : Bool) → IsOfTable o (seat_of (cond b (seated u s (record (seat_of u s) { job = jobs.Reading t None read })) (seated (record u { snaps = after_take u.snaps u.xacts }) s (record (seat_of u s) { job = jobs.Reading t (Some (least_free u.snaps)) read }))) s).job
    by true = is_job o _ (jobs.Reading t None read) (ap (λ (seat : Seat). seat.job) (seat_written u.seats s _ (use_leaves c s t there).there)) tt
    by false = is_job o _ (jobs.Reading t (Some (least_free u.snaps)) read) (ap (λ (seat : Seat). seat.job) (seat_written u.seats s _ (use_leaves c s t there).there)) tt
quiet_table c s o (lines.FetchBegun t read) there quiet = is_job o _ (jobs.Reading t None read) (ap (λ (seat : Seat). seat.job) (seat_written c.seats s _ there)) tt
quiet_table c s o (lines.WriteBegun t keys write) there quiet = absurd quiet
quiet_table c s o (lines.Opened t name held) there quiet = is_job o _ jobs.Idle (ap (λ (seat : Seat). seat.job) (seat_written (after_use c s t).seats s _ (use_leaves c s t there).there)) tt
quiet_table c s o (lines.Closed handle) there quiet = is_job o _ jobs.Idle (ap (λ (seat : Seat). seat.job) (seat_written c.seats s _ there)) tt

-- a write that begins
begun_table : (c : CoreState) (s t : ℕ) (keys : List ℤ) (write : Writing) → IsSession c.seats s → IsOfTable (Some t) (seat_of (at_moment (lines.WriteBegun t keys write) c s) s).job
begun_table c s t keys write there = is_job (Some t) _ (jobs.Writing t write) (ap (λ (seat : Seat). seat.job) (seat_written (after_use c s t).seats s _ (use_leaves c s t there).there)) refl

-- one that begins if a row is found
found_table : (c : CoreState) (s t : ℕ) (keys : List ℤ) (write : OldRow → Writing) (o : Option OldRow) → IsSession c.seats s → IsOfTable (Some t) (seat_of (at_moment (option_map_or (λ old. lines.WriteBegun t keys (write old)) o (lines.Looked t)) c s) s).job
found_table c s t keys write None there = quiet_table c s (Some t) (lines.Looked t) there tt
found_table c s t keys write (Some old) there = begun_table c s t keys (write old) there

-- the granted moment of a data command
granted_table : (c : CoreState) (s : ℕ) (command : Command) → IsSession c.seats s → is_data command ≡ true → IsOfTable (table_of command) (seat_of (at_moment (line_granted c s command) c s) s).job
granted_table c s (commands.Begin level) there data_is = absurd (cc)
granted_table c s commands.Commit there data_is = absurd (cc)
granted_table c s commands.Rollback there data_is = absurd (cc)
granted_table c s (commands.Get t key) there data_is =
    quiet_table c s (Some t) (line_granted c s (commands.Get t key)) there (found_quiet c s _ (row_seen c s t key) (lines.Looked t) (λ old. reading_quiet c s t (row_read s wanteds.Row old)) tt)
granted_table c s (commands.Part t key column offset len) there data_is =
    quiet_table c s (Some t) (line_granted c s (commands.Part t key column offset len)) there (found_quiet c s _ (row_seen c s t key) (lines.Looked t) (λ old. reading_quiet c s t (row_read s (part_wanted old column offset len) old)) tt)
granted_table c s (commands.Open name t key column) there data_is =
    quiet_table c s (Some t) (line_granted c s (commands.Open name t key column)) there (found_quiet c s _ (row_seen c s t key) (lines.Looked t) (λ old. tt) tt)
granted_table c s (commands.Fetch name offset len) there data_is =
    quiet_table c s None (line_granted c s (commands.Fetch name offset len)) there
    (found_quiet c s _ (handle_of (seat_of c s).handles name) (lines.Over (seat_of c s).state) (λ handle. fetching_quiet c s handle.table (held_read handle.held (span_of (held_size handle.held) offset len) s)) (inl refl))
granted_table c s (commands.Close name) there data_is =
    quiet_table c s None (line_granted c s (commands.Close name)) there (found_quiet c s _ (handle_of (seat_of c s).handles name) (lines.Over (seat_of c s).state) (λ handle. tt) (inl refl))
granted_table c s (commands.Insert t key row) there data_is = begun_table c s t (key ∷ []) _ there
granted_table c s (commands.Update t key sets) there data_is = found_table c s t (key ∷ []) (λ old. write_begun c s t (Some old) (Some (updated_row old.stored key sets))) (row_seen c s t key) there
granted_table c s (commands.Rekey t from to sets) there data_is = found_table c s t (from ∷ to ∷ []) (λ old. write_begun c s t (Some old) (Some (updated_row old.stored to sets))) (row_seen c s t from) there
granted_table c s (commands.Delete t key) there data_is = found_table c s t (key ∷ []) (λ old. write_begun c s t (Some old) None) (row_seen c s t key) there
granted_table c s (commands.VacuumMain t) there data_is = absurd (cc)
granted_table c s (commands.VacuumToast t) there data_is = absurd (cc)
granted_table c s (commands.Rewrite t) there data_is = absurd (cc)

-- any moment
pub moment_table : (c : CoreState) (s : ℕ) (command : Command) (new : CoreState) (advance : Advance) (reply : Reply) → IsSession c.seats s → IsMoment c s command new advance → Says command (seat_of new s).job advance reply → IsOfTable (table_of command) (seat_of new s).job
moment_table c s command new advances.Idle reply there due says = absurd due
moment_table c s command new advances.More reply there due says = subst (λ (v : CoreState). IsOfTable (table_of command) (seat_of v s).job) (sym due.0) (granted_table c s command there says.0)
moment_table c s command new (advances.Done said) reply there due says = is_job (table_of command) (seat_of new s).job jobs.Idle due.1 tt

-- ---- later steps

read_table : (c : CoreState) (s t : ℕ) (snapshot : Option ℕ) (read : Reading) (o : Option ℕ) (step : ReadStep) → IsSession c.seats s → IsOfTable o (seat_of (read_on_by c s t snapshot read step) s).job
read_table c s t snapshot read o reads.More there = is_job o _ (jobs.Reading t snapshot _) (ap (λ (seat : Seat). seat.job) (seat_written c.seats s _ there)) tt
read_table c s t snapshot read o (reads.Done reply) there = is_job o _ jobs.Idle (ap (λ (seat : Seat). seat.job) (seat_written c.seats s _ there)) tt

write_table : (c : CoreState) (s t : ℕ) (write : Writing) (toast : Store) (o : Option ℕ) (step : WriteStep) → IsSession c.seats s → o ≡ Some t → IsOfTable o (seat_of (write_on_by c s t write toast step) s).job
write_table c s t write toast o writes.More there of = is_job o _ (jobs.Writing t _) (ap (λ (seat : Seat). seat.job) (seat_written c.seats s _ there)) of
write_table c s t write toast o writes.Done there of = is_job o _ jobs.Idle (ap (λ (seat : Seat). seat.job) (seat_written c.seats s _ there)) tt

written_due : (c : CoreState) (s t : ℕ) (write : Writing) (new : CoreState) (advance : Advance) → advance ≢ advances.Done replies.NoValueId → IsWriteDue c s t write new advance → IsWriteOn c s t write new advance
written_due c s t write new (advances.Done replies.NoValueId) differ due = absurd (differ refl)
written_due c s t write new advance differ due = due

pub step_table : (c : CoreState) (s : ℕ) (new : CoreState) (advance : Advance) (o : Option ℕ) → IsSession c.seats s → is_past_moment (seat_of c s).job ≡ true → Event c s new advance → advance ≢ advances.Done replies.NoValueId → IsOfTable o (seat_of c s).job → IsOfTable o (seat_of new s).job
step_table c s new advance o there past event differ old = by (seat_of c s).job past event.is old
  where
    by : (job : Job) → is_past_moment job ≡ true → IsDue job c s new advance → IsOfTable o job → IsOfTable o (seat_of new s).job
    by jobs.Idle e due was = absurd (cc)
    by (jobs.Submitted command) e due was = absurd (cc)
    by (jobs.Reading t snapshot read) e due was = subst (λ (v : CoreState). IsOfTable o (seat_of v s).job) (sym due.0) (read_table c s t snapshot read o (read_told c t read) there)
    by (jobs.Writing t write) e due was =
        let on = written_due c s t write new advance differ due in
        subst (λ (v : CoreState). IsOfTable o (seat_of v s).job) (sym on.is) (write_table c s t write on.toast o (write_told c t write) there was)
