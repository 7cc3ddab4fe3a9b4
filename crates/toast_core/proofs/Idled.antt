-- A command that is taken out of its session's job changes nothing of what its moment makes: each line gives the session its job itself, and none reads it.
use Rattle.std.proofs.Common.{ap, cond, refl, sym, ◌∙◌}
use Rattle.std.specs.List.{filter}
use Rattle.std.specs.Option.{option_map, unwrap_or}
use Rattle.std.specs.Prelude.{Bool, List, None, Option, Some, [], false, if◌then◌else◌, is_none, not, slice_set, true, ℕ, ℤ, ◌-◌, ◌==◌, ◌≡◌}
use Rattle.list_facts.proofs.Changed.{set_twice}
use Rattle.xact_status.specs.Xacts.{Xacts, next_xid}
use Rattle.snapshot_registry.specs.Snapshots.{after_release, after_share, after_take, least_free}
use Rattle.change_log.specs.declared.entry.LogEntry.{LogEntry}
use Rattle.lock_table.specs.Locks.{after_end}
use Rattle.command_set.specs.declared.Command.{Command}
use Rattle.command_set.specs.declared.Reply.{Reply}
use Rattle.read_steps.specs.Reads.{Reading}
use Rattle.read_steps.specs.declared.wanted.Held.{Held}
use Rattle.write_steps.specs.Writes.{Writing}
use Rattle.core_state.proofs.Seats.{seat_written}
use Rattle.core_state.specs.Events.{MomentLine, at_moment, line_due}
use Rattle.core_state.specs.Lines.{after_close, after_commit_of, after_end_of, after_failing, after_fetch_begun, after_giving_up, after_looking, after_open, after_over, after_read_begun, after_use, after_write_begun, failed_state, ids_released, once_aborted, once_assigned, once_claimed, once_committed, once_ended, once_kept, once_released, once_unpinned, seated, takes_copy, with_handle, with_snapshot, with_xid}
use Rattle.core_state.specs.State.{CoreState, IsSession, is_past_moment, is_repeatable, job_table, seat_of, snapshot_of, uses_of, xid_of}
use Rattle.core_state.specs.declared.advance.Advance.{Advance}
use Rattle.core_state.specs.declared.seat.Handle.{Handle}
use Rattle.core_state.specs.declared.seat.Job.{Job}
use Rattle.core_state.specs.declared.seat.Seat.{Seat}
use Rattle.core_state.specs.declared.seat.State.{State}
use Rattle.core_looks.proofs.Used.{session_used}
use Rattle.core_looks.specs.Due.{reply_due}
use Rattle.core_parts.specs.Moments.{IsMade, idled, told_at}
use Rattle.core_parts.specs.Takes.{locked}
use Rattle.toast_core.proofs.Alike.{line_idled, reply_idled}
use Rattle.change_log.specs.declared.entry.LogEntry.TheVariants as entries
use Rattle.core_state.specs.Events as lines
use Rattle.core_state.specs.declared.seat.Job.TheVariants as jobs
use Rattle.core_state.specs.declared.seat.State.TheVariants as states

-- ---- a seat that is written

-- a session has this to do
abbrev with_job : CoreState → ℕ → Job → CoreState
with_job c s job = seated c s (record (seat_of c s) { job = job })

seat_with : (c : CoreState) (s : ℕ) (job : Job) → IsSession c.seats s → seat_of (with_job c s job) s ≡ record (seat_of c s) { job = job }
seat_with c s job there = seat_written c.seats s (record (seat_of c s) { job = job }) there

-- the second of two seats that are written counts
again : (c : CoreState) (s : ℕ) (x y : Seat) → seated (seated c s x) s y ≡ seated c s y
again c s x y = ap (λ (seats : List Seat). record c { seats = seats }) (set_twice c.seats (s - 1) x y)

-- parts and a seat that are made by what a session's seat is, whatever its job
written : (c : CoreState) (s : ℕ) (job : Job) (rest : Seat → CoreState) (made : Seat → Seat) → IsSession c.seats s
    → ◌≡◌ {A = CoreState} (record (rest (seat_of (with_job c s job) s)) { seats = slice_set (with_job c s job).seats (s - 1) (made (seat_of (with_job c s job) s)) })
    (record (rest (record (seat_of c s) { job = job })) { seats = slice_set c.seats (s - 1) (made (record (seat_of c s) { job = job })) })
written c s job rest made there =
    ap (λ (seat : Seat). record (rest seat) { seats = slice_set (with_job c s job).seats (s - 1) (made seat) }) (seat_with c s job there)
    ∙ ap (λ (seats : List Seat). record (rest (record (seat_of c s) { job = job })) { seats = seats }) (set_twice c.seats (s - 1) (record (seat_of c s) { job = job }) (made (record (seat_of c s) { job = job })))

-- ---- each line

over_with : (c : CoreState) (s : ℕ) (job : Job) (state : State) → IsSession c.seats s → after_over (with_job c s job) s state ≡ after_over c s state
over_with c s job state there = written c s job (λ seat. c) (λ seat. record seat { state = state; job = jobs.Idle }) there

-- a table is used by a session with this seat, which takes its copy or not
abbrev used_by : CoreState → ℕ → ℕ → Seat → Bool → CoreState
used_by c s t seat copies = cond copies (seated (record (locked c s t) { snaps = after_take c.snaps c.xacts }) s (record seat { state = with_snapshot seat.state (least_free c.snaps) })) (locked c s t)

use_with : (c : CoreState) (s t : ℕ) (job : Job) → IsSession c.seats s → after_use (with_job c s job) s t ≡ with_job (after_use c s t) s job
use_with c s t job there =
    ap (λ (seat : Seat). used_by (with_job c s job) s t seat (takes_copy seat.state)) (seat_with c s job there) ∙ by (takes_copy (seat_of c s).state)
  where
    copied : Seat → Seat
    copied seat = record seat { state = with_snapshot seat.state (least_free c.snaps) }

    taken : CoreState
    taken = record (locked c s t) { snaps = after_take c.snaps c.xacts }

    by : (b : Bool) → used_by (with_job c s job) s t (record (seat_of c s) { job = job }) b ≡ with_job (used_by c s t (seat_of c s) b) s job
    by true =
        again taken s (record (seat_of c s) { job = job }) (record (copied (seat_of c s)) { job = job })
        ∙ sym (again taken s (copied (seat_of c s)) (record (copied (seat_of c s)) { job = job }))
        ∙ ap (λ (seat : Seat). seated (seated taken s (copied (seat_of c s))) s (record seat { job = job })) (sym (seat_written c.seats s (copied (seat_of c s)) there))
    by false = refl

looked_with : (c : CoreState) (s t : ℕ) (job : Job) → IsSession c.seats s → after_looking (with_job c s job) s t ≡ after_looking c s t
looked_with c s t job there =
    let used = after_use c s t in
    let later = session_used c s t there in
    ap (λ (v : CoreState). after_over v s (seat_of v s).state) (use_with c s t job there)
    ∙ ap (λ (seat : Seat). after_over (with_job used s job) s seat.state) (seat_with used s job later)
    ∙ over_with used s job (seat_of used s).state later

-- a read goes on in a core that uses its table
abbrev read_from : CoreState → ℕ → ℕ → Reading → Seat → Bool → CoreState
read_from c s t read seat repeats = cond repeats (seated c s (record seat { job = jobs.Reading t None read })) (seated (record c { snaps = after_take c.snaps c.xacts }) s (record seat { job = jobs.Reading t (Some (least_free c.snaps)) read }))

read_with : (c : CoreState) (s t : ℕ) (read : Reading) (job : Job) → IsSession c.seats s → after_read_begun (with_job c s job) s t read ≡ after_read_begun c s t read
read_with c s t read job there =
    let used = after_use c s t in
    ap (λ (v : CoreState). read_from v s t read (seat_of v s) (is_repeatable (seat_of v s).state)) (use_with c s t job there)
    ∙ ap (λ (seat : Seat). read_from (with_job used s job) s t read seat (is_repeatable seat.state)) (seat_with used s job (session_used c s t there))
    ∙ by used (is_repeatable (seat_of used s).state)
  where
    by : (used : CoreState) (b : Bool) → read_from (with_job used s job) s t read (record (seat_of used s) { job = job }) b ≡ read_from used s t read (seat_of used s) b
    by used true = again used s (record (seat_of used s) { job = job }) (record (seat_of used s) { job = jobs.Reading t None read })
    by used false = again (record used { snaps = after_take used.snaps used.xacts }) s (record (seat_of used s) { job = job }) (record (seat_of used s) { job = jobs.Reading t (Some (least_free used.snaps)) read })

fetch_with : (c : CoreState) (s t : ℕ) (read : Reading) (job : Job) → IsSession c.seats s → after_fetch_begun (with_job c s job) s t read ≡ after_fetch_begun c s t read
fetch_with c s t read job there = written c s job (λ seat. c) (λ seat. record seat { job = jobs.Reading t None read }) there

-- a write goes on in a core that uses its table
abbrev write_from : CoreState → ℕ → ℕ → List ℤ → Writing → CoreState
write_from c s t keys write =
    let seat = seat_of c s in
    let xid = xid_of seat.state in
    record c {
      xacts = once_assigned c.xacts s xid;
      locks = once_claimed c.locks s t keys;
      log = once_kept c.log xid;
      seats = slice_set c.seats (s - 1) (record seat { state = with_xid seat.state (unwrap_or xid (next_xid c.xacts)); job = jobs.Writing t write });
    }

write_with : (c : CoreState) (s t : ℕ) (keys : List ℤ) (write : Writing) (job : Job) → IsSession c.seats s → after_write_begun (with_job c s job) s t keys write ≡ after_write_begun c s t keys write
write_with c s t keys write job there =
    let used = after_use c s t in
    ap (λ (v : CoreState). write_from v s t keys write) (use_with c s t job there)
    ∙ written used s job
    (λ seat. record used { xacts = once_assigned used.xacts s (xid_of seat.state); locks = once_claimed used.locks s t keys; log = once_kept used.log (xid_of seat.state) })
    (λ seat. record seat { state = with_xid seat.state (unwrap_or (xid_of seat.state) (next_xid used.xacts)); job = jobs.Writing t write })
    (session_used c s t there)

-- a handle is opened in a core that uses its table
abbrev opened_snapshot : CoreState → Seat → ℕ
opened_snapshot c seat = unwrap_or (snapshot_of seat.state) (least_free c.snaps)

abbrev opened_handle : CoreState → ℕ → ℕ → Held → Seat → Handle
opened_handle c t name held seat = record { name = name; snapshot = opened_snapshot c seat; table = t; held = held }

abbrev open_parts : CoreState → Seat → CoreState
open_parts c seat = record c { snaps = if is_none (snapshot_of seat.state) then after_take c.snaps c.xacts else after_share c.snaps (opened_snapshot c seat) }

abbrev open_from : CoreState → ℕ → ℕ → ℕ → Held → CoreState
open_from c s t name held = let seat = seat_of c s in seated (open_parts c seat) s (record seat { handles = with_handle seat.handles (opened_handle c t name held seat); job = jobs.Idle })

open_with : (c : CoreState) (s t name : ℕ) (held : Held) (job : Job) → IsSession c.seats s → after_open (with_job c s job) s t name held ≡ after_open c s t name held
open_with c s t name held job there =
    let used = after_use c s t in
    ap (λ (v : CoreState). open_from v s t name held) (use_with c s t job there)
    ∙ written used s job (open_parts used) (λ seat. record seat { handles = with_handle seat.handles (opened_handle used t name held seat); job = jobs.Idle }) (session_used c s t there)

close_with : (c : CoreState) (s : ℕ) (handle : Handle) (job : Job) → IsSession c.seats s → after_close (with_job c s job) s handle ≡ after_close c s handle
close_with c s handle job there =
    written c s job (λ seat. record c { snaps = after_release c.snaps handle.snapshot }) (λ seat. record seat { handles = filter (λ other. not (other.name == handle.name)) seat.handles; job = jobs.Idle }) there

-- ---- an end, which gives up what the session's job holds: before a command's moment that is nothing

abbrev ended : CoreState → ℕ → Xacts → Option LogEntry → State → Seat → List Seat → CoreState
ended c s xacts end state seat seats = record c {
  ids = ids_released c.ids s;
  xacts = xacts;
  snaps = once_released c.snaps (uses_of seat);
  locks = after_end c.locks s;
  log = once_ended c.log end;
  tables = once_unpinned c.tables s (job_table seat.job);
  seats = slice_set seats (s - 1) (record { state = state; handles = []; job = jobs.Idle });
}

end_idled : (c : CoreState) (s : ℕ) (command : Command) (xacts : Xacts) (end : Option LogEntry) (state : State) → IsSession c.seats s → (seat_of c s).job ≡ jobs.Submitted command → after_end_of (idled c s) s xacts end state ≡ after_end_of c s xacts end state
end_idled c s command xacts end state there job =
    ap (λ (seat : Seat). ended c s xacts end state seat (idled c s).seats) (seat_with c s jobs.Idle there)
    ∙ ap (λ (seats : List Seat). record (ended c s xacts end state (record (seat_of c s) { job = jobs.Submitted command }) c.seats) { seats = seats }) (set_twice c.seats (s - 1) (record (seat_of c s) { job = jobs.Idle }) (record { state = state; handles = []; job = jobs.Idle }))
    ∙ ap (λ (j : Job). ended c s xacts end state (record (seat_of c s) { job = j }) c.seats) (sym job)

committed_idled : (c : CoreState) (s : ℕ) (command : Command) → IsSession c.seats s → (seat_of c s).job ≡ jobs.Submitted command → after_commit_of (idled c s) s ≡ after_commit_of c s
committed_idled c s command there job =
    ap (λ (seat : Seat). after_end_of (idled c s) s (once_committed c.xacts (xid_of seat.state)) (option_map (λ xid. entries.Commit xid) (xid_of seat.state)) states.Outside) (seat_with c s jobs.Idle there)
    ∙ end_idled c s command (once_committed c.xacts (xid_of (seat_of c s).state)) (option_map (λ xid. entries.Commit xid) (xid_of (seat_of c s).state)) states.Outside there job

given_up_idled : (c : CoreState) (s : ℕ) (command : Command) (state : State) → IsSession c.seats s → (seat_of c s).job ≡ jobs.Submitted command → after_giving_up (idled c s) s state ≡ after_giving_up c s state
given_up_idled c s command state there job =
    ap (λ (seat : Seat). after_end_of (idled c s) s (once_aborted c.xacts (xid_of seat.state)) (option_map (λ xid. entries.Abort xid) (xid_of seat.state)) state) (seat_with c s jobs.Idle there)
    ∙ end_idled c s command (once_aborted c.xacts (xid_of (seat_of c s).state)) (option_map (λ xid. entries.Abort xid) (xid_of (seat_of c s).state)) state there job

pub fails_idled : (c : CoreState) (s : ℕ) (command : Command) → IsSession c.seats s → (seat_of c s).job ≡ jobs.Submitted command → after_failing (idled c s) s ≡ after_failing c s
fails_idled c s command there job =
    ap (λ (seat : Seat). after_giving_up (idled c s) s (failed_state seat.state)) (seat_with c s jobs.Idle there)
    ∙ given_up_idled c s command (failed_state (seat_of c s).state) there job

-- ---- by the line

moment_idled : (c : CoreState) (s : ℕ) (command : Command) (line : MomentLine) → IsSession c.seats s → (seat_of c s).job ≡ jobs.Submitted command → at_moment line (idled c s) s ≡ at_moment line c s
moment_idled c s command (lines.Over state) there job = over_with c s jobs.Idle state there
moment_idled c s command (lines.Looked t) there job = looked_with c s t jobs.Idle there
moment_idled c s command lines.Committed there job = committed_idled c s command there job
moment_idled c s command (lines.GivenUp state) there job = given_up_idled c s command state there job
moment_idled c s command (lines.ReadBegun t read) there job = read_with c s t read jobs.Idle there
moment_idled c s command (lines.FetchBegun t read) there job = fetch_with c s t read jobs.Idle there
moment_idled c s command (lines.WriteBegun t keys write) there job = write_with c s t keys write jobs.Idle there
moment_idled c s command (lines.Opened t name held) there job = open_with c s t name held jobs.Idle there
moment_idled c s command (lines.Closed handle) there job = close_with c s handle jobs.Idle there

-- a moment that was made once its command was taken out is that of the command
pub made_idled : (c : CoreState) (s : ℕ) (command : Command) (new : CoreState) (advance : Advance) → IsSession c.seats s → (seat_of c s).job ≡ jobs.Submitted command → IsMade (idled c s) s command new advance → IsMade c s command new advance
made_idled c s command new advance there job made =
    let reply = reply_idled c s command there in
    record {
      is = made.is
          ∙ ap (λ (r : Reply). at_moment (line_due (idled c s) s command r) (idled c s) s) reply
          ∙ ap (λ (line : MomentLine). at_moment line (idled c s) s) (line_idled c s command (reply_due c s command) there)
          ∙ moment_idled c s command (line_due c s command (reply_due c s command)) there job;
      told = made.told ∙ ap (λ (r : Reply). told_at (is_past_moment (seat_of new s).job) r) reply;
    }
