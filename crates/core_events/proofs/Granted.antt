-- What a command's moment comes to: it is refused, or granted.
use Rattle.std.proofs.Common.{ap, cond, refl, subst, sym, ◌∙◌}
use Rattle.std.specs.Option.{option_map_or}
use Rattle.std.specs.Prelude.{Bool, None, Option, Some, false, if◌then◌else◌, true, ℕ, ℤ, ◌<◌, ◌≡◌}
use Rattle.snapshot_registry.specs.Snapshots.{after_take, least_free}
use Rattle.command_set.specs.Answers.{table_of}
use Rattle.command_set.specs.Replies.{is_granted}
use Rattle.command_set.specs.declared.Command.{Command}
use Rattle.command_set.specs.declared.Level.{Level}
use Rattle.command_set.specs.declared.Reply.{Reply}
use Rattle.read_steps.specs.Reads.{Reading, cell_of, held_read, needs_store}
use Rattle.read_steps.specs.declared.wanted.Wanted.{Wanted}
use Rattle.write_steps.specs.declared.stage.OldRow.{OldRow}
use Rattle.core_state.proofs.Begins.{left_over}
use Rattle.core_state.proofs.Proved.{ends_keep, ends_stand, over_keeps, over_runs}
use Rattle.core_state.proofs.Seats.{seat_written}
use Rattle.core_state.specs.Begun.{begun, handle_read, held_in, held_size, job_reading, own_snapshot, part_wanted, row_read, span_of}
use Rattle.core_state.specs.Events.{IsMoment, MomentLine, at_moment, left, line_due, line_fetching, line_granted, line_reading, line_refused}
use Rattle.core_state.specs.Facts.{IsSound, PartsAreSound}
use Rattle.core_state.specs.Lines.{after_commit_of, after_giving_up, after_over, after_use, seated}
use Rattle.core_state.specs.Moves.{Runs}
use Rattle.core_state.specs.State.{CoreState, IsSession, handle_of, is_open, is_past_moment, is_repeatable, seat_of}
use Rattle.core_state.specs.Views.{row_seen}
use Rattle.core_state.specs.declared.advance.Advance.{Advance}
use Rattle.core_state.specs.declared.seat.Handle.{Handle}
use Rattle.core_state.specs.declared.seat.Job.{Job}
use Rattle.core_state.specs.declared.seat.Seat.{Seat}
use Rattle.core_state.specs.declared.seat.State.{State}
use Rattle.core_looks.proofs.Before.{fits_at}
use Rattle.core_looks.proofs.Commits.{job_committed}
use Rattle.core_looks.proofs.Proved.{commits_run, refused_moments}
use Rattle.core_looks.proofs.Refused.{job_given, job_looked, job_over, refused_is}
use Rattle.core_looks.proofs.Replies.{begin_due, commit_due, rollback_due}
use Rattle.core_looks.proofs.Used.{session_used}
use Rattle.core_looks.specs.Due.{is_outside, reply_due}
use Rattle.core_reads.proofs.Proved.{handles_begin, reads_begin}
use Rattle.core_reads.specs.Laws.{Begins, advance_by}
use Rattle.core_writes.proofs.Proved.{writes_fall, writes_keep, writes_run}
use Rattle.core_writes.specs.Laws.{IsDueGranted, WriteGoesOn}
use Rattle.core_events.proofs.Coming.{Comes}
use Rattle.core_parts.specs.Moments.{IsMade, told_at}
use Rattle.command_set.specs.declared.Command.TheVariants as commands
use Rattle.command_set.specs.declared.Reply.TheVariants as replies
use Rattle.core_state.specs.Events as lines
use Rattle.core_state.specs.declared.advance.Advance.TheVariants as advances
use Rattle.core_state.specs.declared.seat.Job.TheVariants as jobs
use Rattle.core_state.specs.declared.seat.State.TheVariants as states
use Rattle.read_steps.specs.declared.wanted.Wanted.TheVariants as wanteds

-- what a granted moment comes to
record Granted (c : CoreState) (s : ℕ) (command : Command) (new : CoreState) : Type 0 where
  sound : IsSound new
  runs : Runs c s command new (told_at (is_past_moment (seat_of new s).job) (reply_due c s command))
  over : is_past_moment (seat_of new s).job ≡ false → (seat_of new s).job ≡ jobs.Idle
  falls : left new s < left c s

-- ---- with which the command is over

ends_at : (c : CoreState) (s : ℕ) (command : Command) (new : CoreState) (reply : Reply) → (seat_of c s).job ≡ jobs.Submitted command → reply_due c s command ≡ reply → (seat_of new s).job ≡ jobs.Idle → IsSound new → Runs c s command new (advances.Done reply) → Granted c s command new
ends_at c s command new reply job due idle sound runs = record {
  sound = sound;
  runs = subst (Runs c s command new) (ap advances.Done (sym due) ∙ ap (λ (j : Job). told_at (is_past_moment j) (reply_due c s command)) (sym idle)) runs;
  over = λ e. idle;
  falls = left_over c new s command job idle;
}

granted_begin : (c : CoreState) (s : ℕ) (level : Level) → IsSession c.seats s → IsSound c → (seat_of c s).job ≡ jobs.Submitted (commands.Begin level) → is_granted (reply_due c s (commands.Begin level)) ≡ true
    → Granted c s (commands.Begin level) (at_moment (line_granted c s (commands.Begin level)) c s)
granted_begin c s level there sound job granted = by (seat_of c s).state refl
  where
    inside : is_outside (seat_of c s).state ≡ false → Granted c s (commands.Begin level) (at_moment (line_granted c s (commands.Begin level)) c s)
    inside e =
        let refuses : is_granted (reply_due c s (commands.Begin level)) ≡ false = ap is_granted (begin_due c s level false e) in
        absurd (cc)

    by : (state : State) → (seat_of c s).state ≡ state → Granted c s (commands.Begin level) (at_moment (line_granted c s (commands.Begin level)) c s)
    by states.Outside is =
        ends_at c s (commands.Begin level) (after_over c s (states.Open level None None)) replies.Okay job (begin_due c s level true (ap is_outside is)) (job_over c s (states.Open level None None) there)
        (over_keeps.turned c s (commands.Begin level) (states.Open level None None) there job (ap is_open is) (record { xid = refl; snapshot = refl }) sound) (over_runs.begin c s level there job is sound)
    by states.Failed is = inside (ap is_outside is)
    by (states.Open its xid snapshot) is = inside (ap is_outside is)

granted_commit : (c : CoreState) (s : ℕ) → IsSession c.seats s → IsSound c → (seat_of c s).job ≡ jobs.Submitted commands.Commit → is_granted (reply_due c s commands.Commit) ≡ true → Granted c s commands.Commit (after_commit_of c s)
granted_commit c s there sound job granted = by (seat_of c s).state refl
  where
    by : (state : State) → (seat_of c s).state ≡ state → Granted c s commands.Commit (after_commit_of c s)
    by states.Outside is =
        let refuses : is_granted (reply_due c s commands.Commit) ≡ false = ap is_granted (commit_due c s states.Outside is) in
        absurd (cc)
    by states.Failed is =
        let refuses : is_granted (reply_due c s commands.Commit) ≡ false = ap is_granted (commit_due c s states.Failed is) in
        absurd (cc)
    by (states.Open level xid snapshot) is =
        ends_at c s commands.Commit (after_commit_of c s) replies.Okay job (commit_due c s (states.Open level xid snapshot) is) (job_committed c s there) (ends_keep.committed c s there sound) (commits_run.runs c s there sound job (ap is_open is))

granted_rollback : (c : CoreState) (s : ℕ) → IsSession c.seats s → IsSound c → (seat_of c s).job ≡ jobs.Submitted commands.Rollback → is_granted (reply_due c s commands.Rollback) ≡ true
    → Granted c s commands.Rollback (at_moment (line_granted c s commands.Rollback) c s)
granted_rollback c s there sound job granted = by (seat_of c s).state refl
  where
    by_open : (b : Bool) → is_open (seat_of c s).state ≡ b → Granted c s commands.Rollback (at_moment (if b then lines.GivenUp states.Outside else lines.Over states.Outside) c s) → Granted c s commands.Rollback (at_moment (line_granted c s commands.Rollback) c s)
    by_open b e = subst (λ (x : Bool). Granted c s commands.Rollback (at_moment (if x then lines.GivenUp states.Outside else lines.Over states.Outside) c s)) (sym e)

    by : (state : State) → (seat_of c s).state ≡ state → Granted c s commands.Rollback (at_moment (line_granted c s commands.Rollback) c s)
    by states.Outside is =
        let refuses : is_granted (reply_due c s commands.Rollback) ≡ false = ap is_granted (rollback_due c s states.Outside is) in
        absurd (cc)
    by states.Failed is = by_open false (ap is_open is)
        (ends_at c s commands.Rollback (after_over c s states.Outside) replies.Okay job (rollback_due c s states.Failed is) (job_over c s states.Outside there)
        (over_keeps.turned c s commands.Rollback states.Outside there job (ap is_open is) (record { xid = refl; snapshot = refl }) sound) (over_runs.rollback_failed c s there job is))
    by (states.Open level xid snapshot) is = by_open true (ap is_open is)
        (ends_at c s commands.Rollback (after_giving_up c s states.Outside) replies.Okay job (rollback_due c s (states.Open level xid snapshot) is) (job_given c s states.Outside there)
        (ends_keep.given_up c s states.Outside there sound (record { xid = refl; snapshot = refl })) (ends_stand.rolled_back c s there sound job (λ e. inside (sym is ∙ e))))
      where
        inside : states.Open level xid snapshot ≡ states.Outside → ⊥
        inside e = absurd (cc)

-- ---- a write, which goes on

goes_on : (c : CoreState) (s : ℕ) (command : Command) (new : CoreState) → IsSound new → Runs c s command new advances.More → WriteGoesOn c new s → Granted c s command new
goes_on c s command new sound runs goes = record {
  sound = sound;
  runs = subst (Runs c s command new) (ap (λ (b : Bool). told_at b (reply_due c s command)) (sym goes.past)) runs;
  over = λ e. never e;
  falls = goes.falls;
}
  where
    never : is_past_moment (seat_of new s).job ≡ false → (seat_of new s).job ≡ jobs.Idle
    never e =
        let past = goes.past in
        absurd (cc)

-- ---- a read, which goes on or is over

-- a job that goes on where a command's begun one does
record GoesAs (begins job : Job) : Type 0 where
  past : is_past_moment begins ≡ is_past_moment job
  over : is_past_moment job ≡ false → job ≡ jobs.Idle

ends_as : (begins job : Job) → is_past_moment begins ≡ false → job ≡ jobs.Idle → GoesAs begins job
ends_as begins job none idle = record { past = none ∙ sym (ap is_past_moment idle); over = λ e. idle }

goes_as : (begins job : Job) → is_past_moment begins ≡ true → is_past_moment job ≡ true → GoesAs begins job
goes_as begins job one past = record { past = one ∙ sym past; over = λ e. never e }
  where
    never : is_past_moment job ≡ false → job ≡ jobs.Idle
    never e = absurd (cc)

told_by : (begins : Job) (reply : Reply) → advance_by begins reply ≡ told_at (is_past_moment begins) reply
told_by jobs.Idle reply = refl
told_by (jobs.Submitted command) reply = refl
told_by (jobs.Reading t snapshot read) reply = refl
told_by (jobs.Writing t write) reply = refl

reads_on : (c : CoreState) (s : ℕ) (command : Command) → IsSession c.seats s → IsSound c → PartsAreSound c → (seat_of c s).job ≡ jobs.Submitted command → is_granted (reply_due c s command) ≡ true → Begins command
    → GoesAs (begun c s command) (seat_of (at_moment (line_granted c s command) c s) s).job → Granted c s command (at_moment (line_granted c s command) c s)
reads_on c s command there sound parts job granted begins goes = record {
  sound = begins.sound c s there job granted parts sound;
  runs = subst (Runs c s command (at_moment (line_granted c s command) c s)) (told_by (begun c s command) (reply_due c s command) ∙ ap (λ (b : Bool). told_at b (reply_due c s command)) goes.past) (begins.runs c s there job granted parts sound);
  over = goes.over;
  falls = begins.falls c s there job granted;
}

past_begun : (u : CoreState) (s t : ℕ) (read : Reading) (b : Bool) → IsSession u.seats s
    → is_past_moment (seat_of (cond b (seated u s (record (seat_of u s) { job = jobs.Reading t None read })) (seated (record u { snaps = after_take u.snaps u.xacts }) s (record (seat_of u s) { job = jobs.Reading t (Some (least_free u.snaps)) read }))) s).job ≡ true
past_begun u s t read true there = ap (λ (x : Seat). is_past_moment x.job) (seat_written u.seats s (record (seat_of u s) { job = jobs.Reading t None read }) there)
past_begun u s t read false there = ap (λ (x : Seat). is_past_moment x.job) (seat_written u.seats s (record (seat_of u s) { job = jobs.Reading t (Some (least_free u.snaps)) read }) there)

goes_reading : (c : CoreState) (s t : ℕ) (snapshot : Option ℕ) (read : Reading) → IsSession c.seats s → GoesAs (job_reading t snapshot read) (seat_of (at_moment (line_reading t read) c s) s).job
goes_reading c s t snapshot read there = by (needs_store read)
  where
    by : (b : Bool) → GoesAs (if b then jobs.Reading t snapshot read else jobs.Idle) (seat_of (at_moment (if b then lines.ReadBegun t read else lines.Looked t) c s) s).job
    by true = goes_as (jobs.Reading t snapshot read) _ refl (past_begun (after_use c s t) s t read (is_repeatable (seat_of (after_use c s t) s).state) (session_used c s t there))
    by false = ends_as jobs.Idle _ refl (job_looked c s t there)

goes_row : (c : CoreState) (s t : ℕ) (snapshot : Option ℕ) (wanted : OldRow → Wanted) (o : Option OldRow) → IsSession c.seats s
    → GoesAs (option_map_or (λ old. job_reading t snapshot (row_read s (wanted old) old)) o jobs.Idle) (seat_of (at_moment (option_map_or (λ old. line_reading t (row_read s (wanted old) old)) o (lines.Looked t)) c s) s).job
goes_row c s t snapshot wanted None there = ends_as jobs.Idle _ refl (job_looked c s t there)
goes_row c s t snapshot wanted (Some old) there = goes_reading c s t snapshot (row_read s (wanted old) old) there

goes_fetching : (c : CoreState) (s t : ℕ) (state : State) (read : Reading) → IsSession c.seats s → GoesAs (job_reading t None read) (seat_of (at_moment (line_fetching state t read) c s) s).job
goes_fetching c s t state read there = by (needs_store read)
  where
    by : (b : Bool) → GoesAs (if b then jobs.Reading t None read else jobs.Idle) (seat_of (at_moment (if b then lines.FetchBegun t read else lines.Over state) c s) s).job
    by true = goes_as (jobs.Reading t None read) _ refl (ap (λ (x : Seat). is_past_moment x.job) (seat_written c.seats s (record (seat_of c s) { job = jobs.Reading t None read }) there))
    by false = ends_as jobs.Idle _ refl (job_over c s state there)

goes_handle : (c : CoreState) (s : ℕ) (offset len : ℤ) (o : Option Handle) → IsSession c.seats s
    → GoesAs (option_map_or (handle_read s offset len) o jobs.Idle) (seat_of (at_moment (option_map_or (λ (handle : Handle). line_fetching (seat_of c s).state handle.table (held_read handle.held (span_of (held_size handle.held) offset len) s)) o (lines.Over (seat_of c s).state)) c s) s).job
goes_handle c s offset len None there = ends_as jobs.Idle _ refl (job_over c s (seat_of c s).state there)
goes_handle c s offset len (Some handle) there = goes_fetching c s handle.table (seat_of c s).state (held_read handle.held (span_of (held_size handle.held) offset len) s) there

goes_open : (c : CoreState) (s name t column : ℕ) (o : Option OldRow) → IsSession c.seats s
    → GoesAs jobs.Idle (seat_of (at_moment (option_map_or (λ (old : OldRow). lines.Opened t name (held_in (cell_of old.stored.cells column))) o (lines.Looked t)) c s) s).job
goes_open c s name t column None there = ends_as jobs.Idle _ refl (job_looked c s t there)
goes_open c s name t column (Some old) there = ends_as jobs.Idle _ refl (ap (λ (x : Seat). x.job) (seat_written (after_use c s t).seats s _ (session_used c s t there)))

goes_close : (c : CoreState) (s : ℕ) (o : Option Handle) → IsSession c.seats s → GoesAs jobs.Idle (seat_of (at_moment (option_map_or lines.Closed o (lines.Over (seat_of c s).state)) c s) s).job
goes_close c s None there = ends_as jobs.Idle _ refl (job_over c s (seat_of c s).state there)
goes_close c s (Some handle) there = ends_as jobs.Idle _ refl (ap (λ (x : Seat). x.job) (seat_written c.seats s _ there))

-- ---- by the command

granted_moment : (c : CoreState) (s : ℕ) (command : Command) → IsSession c.seats s → IsSound c → PartsAreSound c → (seat_of c s).job ≡ jobs.Submitted command → is_granted (reply_due c s command) ≡ true → Granted c s command (at_moment (line_granted c s command) c s)
granted_moment c s (commands.Begin level) there sound parts job granted = granted_begin c s level there sound job granted
granted_moment c s commands.Commit there sound parts job granted = granted_commit c s there sound job granted
granted_moment c s commands.Rollback there sound parts job granted = granted_rollback c s there sound job granted
granted_moment c s (commands.Get t key) there sound parts job granted =
    reads_on c s (commands.Get t key) there sound parts job granted (reads_begin.row t key) (goes_row c s t (own_snapshot c.snaps (seat_of c s).state) (λ old. wanteds.Row) (row_seen c s t key) there)
granted_moment c s (commands.Part t key column offset len) there sound parts job granted =
    reads_on c s (commands.Part t key column offset len) there sound parts job granted (reads_begin.part t key column offset len) (goes_row c s t (own_snapshot c.snaps (seat_of c s).state) (λ old. part_wanted old column offset len) (row_seen c s t key) there)
granted_moment c s (commands.Open name t key column) there sound parts job granted =
    reads_on c s (commands.Open name t key column) there sound parts job granted (handles_begin.opening name t key column) (goes_open c s name t column (row_seen c s t key) there)
granted_moment c s (commands.Fetch name offset len) there sound parts job granted =
    reads_on c s (commands.Fetch name offset len) there sound parts job granted (handles_begin.fetch name offset len) (goes_handle c s offset len (handle_of (seat_of c s).handles name) there)
granted_moment c s (commands.Close name) there sound parts job granted =
    reads_on c s (commands.Close name) there sound parts job granted (handles_begin.closing name) (goes_close c s (handle_of (seat_of c s).handles name) there)
granted_moment c s (commands.Insert t key row) there sound parts job granted =
    let due : IsDueGranted c s (commands.Insert t key row) = record { there = there; sound = sound; parts = parts; job = job; granted = granted } in
    goes_on c s (commands.Insert t key row) _ (writes_keep.insert c s t key row due) (writes_run.insert c s t key row due) (writes_fall.insert c s t key row due)
granted_moment c s (commands.Update t key sets) there sound parts job granted =
    let due : IsDueGranted c s (commands.Update t key sets) = record { there = there; sound = sound; parts = parts; job = job; granted = granted } in
    goes_on c s (commands.Update t key sets) _ (writes_keep.update c s t key sets due) (writes_run.update c s t key sets due) (writes_fall.update c s t key sets due)
granted_moment c s (commands.Delete t key) there sound parts job granted =
    let due : IsDueGranted c s (commands.Delete t key) = record { there = there; sound = sound; parts = parts; job = job; granted = granted } in
    goes_on c s (commands.Delete t key) _ (writes_keep.delete c s t key due) (writes_run.delete c s t key due) (writes_fall.delete c s t key due)
granted_moment c s (commands.Rekey t from to sets) there sound parts job granted =
    let due : IsDueGranted c s (commands.Rekey t from to sets) = record { there = there; sound = sound; parts = parts; job = job; granted = granted } in
    goes_on c s (commands.Rekey t from to sets) _ (writes_keep.rekey c s t from to sets due) (writes_run.rekey c s t from to sets due) (writes_fall.rekey c s t from to sets due)
granted_moment c s (commands.VacuumMain t) there sound parts job granted = absurd (fits_at c s (commands.VacuumMain t) there sound job)
granted_moment c s (commands.VacuumToast t) there sound parts job granted = absurd (fits_at c s (commands.VacuumToast t) there sound job)
granted_moment c s (commands.Rewrite t) there sound parts job granted = absurd (fits_at c s (commands.Rewrite t) there sound job)

-- ---- a moment

granted_comes : (c : CoreState) (s : ℕ) (command : Command) → IsSession c.seats s → IsSound c → PartsAreSound c → (seat_of c s).job ≡ jobs.Submitted command → is_granted (reply_due c s command) ≡ true
    → Comes (jobs.Submitted command) c s (at_moment (line_granted c s command) c s) (told_at (is_past_moment (seat_of (at_moment (line_granted c s command) c s) s).job) (reply_due c s command))
granted_comes c s command there sound parts job granted =
    let its = granted_moment c s command there sound parts job granted in
    record { sound = its.sound; due = by (is_past_moment (seat_of new s).job) refl its.over; moved = its.runs; falls = λ works. its.falls }
  where
    new : CoreState
    new = at_moment (line_granted c s command) c s

    line : line_granted c s command ≡ line_due c s command (reply_due c s command)
    line = ap (λ (b : Bool). if b then line_granted c s command else line_refused (seat_of c s).state (table_of command) (reply_due c s command)) (sym granted)

    by : (b : Bool) → is_past_moment (seat_of new s).job ≡ b → (is_past_moment (seat_of new s).job ≡ false → (seat_of new s).job ≡ jobs.Idle) → IsMoment c s command new (told_at b (reply_due c s command))
    by true e over = (refl, e)
    by false e over = (ap (λ (l : MomentLine). at_moment l c s) line, over e)

refused_comes : (c : CoreState) (s : ℕ) (command : Command) → IsSession c.seats s → IsSound c → PartsAreSound c → (seat_of c s).job ≡ jobs.Submitted command → is_granted (reply_due c s command) ≡ false
    → Comes (jobs.Submitted command) c s (at_moment (line_due c s command (reply_due c s command)) c s) (told_at (is_past_moment (seat_of (at_moment (line_due c s command (reply_due c s command)) c s) s).job) (reply_due c s command))
refused_comes c s command there sound parts job refused =
    let new = at_moment (line_due c s command (reply_due c s command)) c s in
    let over : (seat_of new s).job ≡ jobs.Idle = (refused_is c s command there sound job refused).over in
    subst (Comes (jobs.Submitted command) c s new) (ap (λ (j : Job). told_at (is_past_moment j) (reply_due c s command)) (sym over)) (record {
      sound = refused_moments.sound c s command there sound job refused;
      due = (refl, over);
      moved = refused_moments.runs c s command there sound parts job refused;
      falls = λ works. refused_moments.falls c s command there sound job refused;
    })

pub moment_comes : (c : CoreState) (s : ℕ) (command : Command) (new : CoreState) (advance : Advance) → IsSession c.seats s → IsSound c → PartsAreSound c → (seat_of c s).job ≡ jobs.Submitted command → IsMade c s command new advance → Comes (jobs.Submitted command) c s new advance
moment_comes c s command new advance there sound parts job made = at (is_granted (reply_due c s command)) refl
  where
    as_told : (later : CoreState) → new ≡ later → Comes (jobs.Submitted command) c s later (told_at (is_past_moment (seat_of later s).job) (reply_due c s command)) → Comes (jobs.Submitted command) c s new advance
    as_told later is comes = subst (Comes (jobs.Submitted command) c s new) (sym made.told) (subst (λ (v : CoreState). Comes (jobs.Submitted command) c s v (told_at (is_past_moment (seat_of v s).job) (reply_due c s command))) (sym is) comes)

    at : (b : Bool) → is_granted (reply_due c s command) ≡ b → Comes (jobs.Submitted command) c s new advance
    at true granted =
        let line : line_due c s command (reply_due c s command) ≡ line_granted c s command = ap (λ (b : Bool). if b then line_granted c s command else line_refused (seat_of c s).state (table_of command) (reply_due c s command)) granted in
        as_told (at_moment (line_granted c s command) c s) (made.is ∙ ap (λ (l : MomentLine). at_moment l c s) line) (granted_comes c s command there sound parts job granted)
    at false refused = as_told (at_moment (line_due c s command (reply_due c s command)) c s) made.is (refused_comes c s command there sound parts job refused)
