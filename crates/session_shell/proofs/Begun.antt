-- What the moment of a command leaves under way.
use Rattle.std.proofs.Common.{◌≡◌, ℕ, Bool, true, false, Option, Some, None, refl, sym, ap, ◌∙◌, subst}
use Rattle.std.specs.Prelude.{⊤, if◌then◌else◌}
use Rattle.std.specs.Option.{option_map_or}
use Rattle.command_set.specs.Journals.{writes_values}
use Rattle.command_set.specs.declared.Command.{Command}
use Rattle.command_set.specs.declared.Command.TheVariants as commands
use Rattle.read_steps.specs.Reads.{Reading, held_read, needs_store}
use Rattle.read_steps.specs.declared.wanted.Wanted.TheVariants as wanteds
use Rattle.core_state.proofs.Seats.{seat_written, session_written}
use Rattle.core_state.specs.Begun.{held_size, part_wanted, row_read, span_of}
use Rattle.core_state.specs.Events.{Event, IsDue, IsMoment, MomentLine, Over, Looked, Committed, GivenUp, ReadBegun, FetchBegun, WriteBegun, Opened, Closed, at_moment, line_fetching, line_granted, line_reading}
use Rattle.core_state.specs.Lines.{after_submit, after_use, takes_copy}
use Rattle.core_state.specs.State.{CoreState, IsSession, handle_of, is_open, is_past_moment, is_repeatable, seat_of}
use Rattle.core_state.specs.Views.{row_seen}
use Rattle.core_state.specs.declared.advance.Advance.TheVariants as advances
use Rattle.core_state.specs.declared.seat.Job.{Job}
use Rattle.core_state.specs.declared.seat.Job.TheVariants as jobs
use Rattle.core_state.specs.declared.seat.Seat.{Seat}
use Rattle.core_state.specs.declared.seat.State.{State}
use Rattle.session_shell.specs.Hubs.{is_at_save, is_one_step, is_saving}

-- a session is there once it has used a table
session_used : (c : CoreState) (s t : ℕ) → IsSession c.seats s → IsSession (after_use c s t).seats s
session_used c s t there = by (takes_copy (seat_of c s).state) refl
  where
    by : (b : Bool) → takes_copy (seat_of c s).state ≡ b → IsSession (after_use c s t).seats s
    by true e = rw e (session_written c.seats s s _ there)
    by false e = rw e there

abbrev job_in : Seat → Job
job_in seat = seat.job

-- what is under way after a line
abbrev JobAfter : MomentLine → Job → Type 0
JobAfter (Over state) job = job ≡ jobs.Idle
JobAfter (Looked t) job = job ≡ jobs.Idle
JobAfter Committed job = job ≡ jobs.Idle
JobAfter (GivenUp state) job = job ≡ jobs.Idle
JobAfter (ReadBegun t read) job = is_saving job ≡ false
JobAfter (FetchBegun t read) job = is_saving job ≡ false
JobAfter (WriteBegun t keys write) job = job ≡ jobs.Writing t write
JobAfter (Opened t name held) job = job ≡ jobs.Idle
JobAfter (Closed handle) job = job ≡ jobs.Idle

job_after : (line : MomentLine) (c : CoreState) (s : ℕ) → IsSession c.seats s → JobAfter line (seat_of (at_moment line c s) s).job
job_after (Over state) c s there = ap job_in (seat_written c.seats s _ there)
job_after (Looked t) c s there = ap job_in (seat_written (after_use c s t).seats s _ (session_used c s t there))
job_after Committed c s there = ap job_in (seat_written c.seats s _ there)
job_after (GivenUp state) c s there = ap job_in (seat_written c.seats s _ there)
job_after (ReadBegun t read) c s there = by (is_repeatable (seat_of (after_use c s t) s).state) refl
  where
    by : (b : Bool) → is_repeatable (seat_of (after_use c s t) s).state ≡ b → is_saving (seat_of (at_moment (ReadBegun t read) c s) s).job ≡ false
    by true e = rw e (ap (λ (seat : Seat). is_saving seat.job) (seat_written (after_use c s t).seats s _ (session_used c s t there)))
    by false e = rw e (ap (λ (seat : Seat). is_saving seat.job) (seat_written (after_use c s t).seats s _ (session_used c s t there)))
job_after (FetchBegun t read) c s there = ap (λ (seat : Seat). is_saving seat.job) (seat_written c.seats s _ there)
job_after (WriteBegun t keys write) c s there = ap job_in (seat_written (after_use c s t).seats s _ (session_used c s t there))
job_after (Opened t name held) c s there = ap job_in (seat_written (after_use c s t).seats s _ (session_used c s t there))
job_after (Closed handle) c s there = ap job_in (seat_written c.seats s _ there)

-- a line by which a command goes on is one of a command of several steps, and one that saves a value one of a command with values
abbrev LineFits : Command → MomentLine → Type 0
LineFits command (Over state) = ⊤
LineFits command (Looked t) = ⊤
LineFits command Committed = ⊤
LineFits command (GivenUp state) = ⊤
LineFits command (ReadBegun t read) = is_one_step command ≡ false
LineFits command (FetchBegun t read) = is_one_step command ≡ false
LineFits command (WriteBegun t keys write) = (is_one_step command ≡ false) × (is_at_save write.stage ≡ true → writes_values command ≡ true)
LineFits command (Opened t name held) = ⊤
LineFits command (Closed handle) = ⊤

-- what was found, or not
found_fits : {X : Type 0} (command : Command) (line : X → MomentLine) (o : Option X) (other : MomentLine) → ((x : X) → LineFits command (line x)) → LineFits command other → LineFits command (option_map_or line o other)
found_fits command line None other h k = k
found_fits command line (Some x) other h k = h x

either_fits : (command : Command) (b : Bool) (one other : MomentLine) → LineFits command one → LineFits command other → LineFits command (if b then one else other)
either_fits command true one other h k = h
either_fits command false one other h k = k

read_fits : (command : Command) (t : ℕ) (read : Reading) → is_one_step command ≡ false → LineFits command (line_reading t read)
read_fits command t read more = either_fits command (needs_store read) (ReadBegun t read) (Looked t) more tt

fetch_fits : (command : Command) (state : State) (t : ℕ) (read : Reading) → is_one_step command ≡ false → LineFits command (line_fetching state t read)
fetch_fits command state t read more = either_fits command (needs_store read) (FetchBegun t read) (Over state) more tt

line_fits : (c : CoreState) (s : ℕ) (command : Command) → LineFits command (line_granted c s command)
line_fits c s (commands.Begin level) = tt
line_fits c s commands.Commit = tt
line_fits c s commands.Rollback = either_fits commands.Rollback (is_open (seat_of c s).state) _ _ tt tt
line_fits c s (commands.Get t key) = found_fits (commands.Get t key) _ (row_seen c s t key) (Looked t) (λ old. read_fits (commands.Get t key) t (row_read s wanteds.Row old) refl) tt
line_fits c s (commands.Part t key column offset len) = found_fits (commands.Part t key column offset len) _ (row_seen c s t key) (Looked t) (λ old. read_fits (commands.Part t key column offset len) t (row_read s (part_wanted old column offset len) old) refl) tt
line_fits c s (commands.Open name t key column) = found_fits (commands.Open name t key column) _ (row_seen c s t key) (Looked t) (λ old. tt) tt
line_fits c s (commands.Fetch name offset len) = found_fits (commands.Fetch name offset len) _ (handle_of (seat_of c s).handles name) _ (λ handle. fetch_fits (commands.Fetch name offset len) (seat_of c s).state handle.table (held_read handle.held (span_of (held_size handle.held) offset len) s) refl) tt
line_fits c s (commands.Close name) = found_fits (commands.Close name) Closed (handle_of (seat_of c s).handles name) _ (λ handle. tt) tt
line_fits c s (commands.Insert t key row) = (refl, λ saves. refl)
line_fits c s (commands.Update t key sets) = found_fits (commands.Update t key sets) _ (row_seen c s t key) (Looked t) (λ old. (refl, λ saves. refl)) tt
line_fits c s (commands.Delete t key) = found_fits (commands.Delete t key) _ (row_seen c s t key) (Looked t) (λ old. (refl, λ saves. absurd (cc))) tt
line_fits c s (commands.Rekey t from to sets) = found_fits (commands.Rekey t from to sets) _ (row_seen c s t from) (Looked t) (λ old. (refl, λ saves. refl)) tt
line_fits c s (commands.VacuumMain t) = tt
line_fits c s (commands.VacuumToast t) = tt
line_fits c s (commands.Rewrite t) = tt

-- what is known of a command that goes on from its moment
pub record GoesOnFrom (command : Command) (job : Job) : Type 0 where
  pub steps : is_one_step command ≡ false
  pub values : is_saving job ≡ true → writes_values command ≡ true

idle_ends : (command : Command) (job : Job) → job ≡ jobs.Idle → is_past_moment job ≡ true → GoesOnFrom command job
idle_ends command job idle past = absurd (let no : is_past_moment job ≡ false = ap is_past_moment idle in cc)

goes_by : (command : Command) (line : MomentLine) (job : Job) → JobAfter line job → LineFits command line → is_past_moment job ≡ true → GoesOnFrom command job
goes_by command (Over state) job after fits past = idle_ends command job after past
goes_by command (Looked t) job after fits past = idle_ends command job after past
goes_by command Committed job after fits past = idle_ends command job after past
goes_by command (GivenUp state) job after fits past = idle_ends command job after past
goes_by command (ReadBegun t read) job after fits past = record { steps = fits; values = λ saves. absurd (cc) }
goes_by command (FetchBegun t read) job after fits past = record { steps = fits; values = λ saves. absurd (cc) }
goes_by command (WriteBegun t keys write) job after fits past = record { steps = fits.0; values = λ saves. fits.1 (sym (ap is_saving after) ∙ saves) }
goes_by command (Opened t name held) job after fits past = idle_ends command job after past
goes_by command (Closed handle) job after fits past = idle_ends command job after past

-- the command that was submitted is the session's
pub seat_submitted : (c : CoreState) (s : ℕ) (command : Command) → IsSession c.seats s → (seat_of (after_submit c s command) s).job ≡ jobs.Submitted command
seat_submitted c s command there = ap job_in (seat_written c.seats s _ there)

goes_from : (c new : CoreState) (s : ℕ) (command : Command) → IsSession c.seats s → IsMoment c s command new advances.More → GoesOnFrom command (seat_of new s).job
goes_from c new s command there moment =
    let line = line_granted c s command in
    goes_by command line (seat_of new s).job (subst (λ (x : CoreState). JobAfter line (seat_of x s).job) (sym moment.0) (job_after line c s there)) (line_fits c s command) moment.1

pub goes_on_from : (old new : CoreState) (s : ℕ) (command : Command) → IsSession old.seats s → IsSession (after_submit old s command).seats s → Event (after_submit old s command) s new advances.More → GoesOnFrom command (seat_of new s).job
goes_on_from old new s command there there' event =
    goes_from (after_submit old s command) new s command there'
    (subst (λ (job : Job). IsDue job (after_submit old s command) s new advances.More) (seat_submitted old s command there) event.is)
