-- The lines of the table of events: what each makes of a core, as one total function. `record c { .. }` says that all else stays.
use Rattle.std.specs.List.{filter}
use Rattle.std.specs.Option.{unwrap_or}
use Rattle.std.specs.Prelude.{Bool, List, None, Option, Some, [], if◌then◌else◌, is_none, nat_lt, not, option_map, option_to_list, slice_set, ℕ, ℤ, ◌&&◌, ◌++◌, ◌+◌, ◌-◌, ◌==◌, ◌∷◌}
use Rattle.xact_status.specs.Xacts.{Xacts, after_abort, after_assign, after_commit, next_xid}
use Rattle.snapshot_registry.specs.Snapshots.{Snaps, after_release, after_share, after_take, least_free}
use Rattle.chunk_index.specs.Pinned.{without_pin}
use Rattle.value_ids.specs.Ids.{Pool, released}
use Rattle.change_log.specs.Logs.{LogState}
use Rattle.change_log.specs.declared.entry.LogEntry.{LogEntry}
use Rattle.lock_table.specs.Locks.{after_end, granted, row_lock, table_lock}
use Rattle.lock_table.specs.declared.held.SessionLocks.{SessionLocks}
use Rattle.lock_table.specs.declared.lock.LockMode.TheVariants.{Use}
use Rattle.toast_store.specs.Stores.{Store}
use Rattle.command_set.specs.declared.Command.{Command}
use Rattle.table_state.specs.declared.table.Table.{Table}
use Rattle.read_steps.specs.Reads.{Reading, read_after, store_read}
use Rattle.read_steps.specs.declared.wanted.Held.{Held}
use Rattle.write_steps.specs.Writes.{Parts, Writing, ids_at, log_at, parts_of, rows_at, write_after}
use Rattle.core_state.specs.State.{CoreState, is_repeatable, job_table, seat_of, snapshot_of, table_at, uses_of, xid_of}
use Rattle.core_state.specs.declared.seat.Handle.{Handle}
use Rattle.core_state.specs.declared.seat.Seat.{Seat}
use Rattle.core_state.specs.declared.seat.State.{State}
use Rattle.change_log.specs.declared.entry.LogEntry.TheVariants as entries
use Rattle.core_state.specs.declared.seat.Job.TheVariants as jobs
use Rattle.core_state.specs.declared.seat.State.TheVariants as states

-- ---- parts

-- the core with a session's seat in place of what it was
abbrev pub seated : CoreState → ℕ → Seat → CoreState
seated c s seat = record c { seats = slice_set c.seats (s - 1) seat }

-- the tables with one of them in place of what it was
abbrev pub with_table : List Table → ℕ → Table → List Table
with_table tables t table = slice_set tables (t - 1) table

-- the statuses once a session's transaction has an xid; and once it has committed, or aborted, if it has one
abbrev pub once_assigned : Xacts → ℕ → Option ℕ → Xacts
once_assigned xacts s None = after_assign xacts s
once_assigned xacts s (Some xid) = xacts

abbrev pub once_committed : Xacts → Option ℕ → Xacts
once_committed xacts None = xacts
once_committed xacts (Some xid) = after_commit xacts xid

abbrev pub once_aborted : Xacts → Option ℕ → Xacts
once_aborted xacts None = xacts
once_aborted xacts (Some xid) = after_abort xacts xid

-- the log with room kept for the end of a transaction that is given its xid; and with that end, if the transaction has an xid
abbrev pub once_kept : LogState → Option ℕ → LogState
once_kept log None = record log { ends = log.ends + 1 }
once_kept log (Some xid) = log

abbrev pub once_ended : LogState → Option LogEntry → LogState
once_ended log None = log
once_ended log (Some end) = record log { entries = log.entries ++ end ∷ []; ends = log.ends - 1 }

-- the snapshots once some uses of them are given up
abbrev pub once_released : Snaps → List ℕ → Snaps
once_released snaps [] = snaps
once_released snaps (id ∷ ids) = once_released (after_release snaps id) ids

-- the ids without those in hand for a session
abbrev pub ids_released : Pool → ℕ → Pool
ids_released ids s = record ids { in_hand = released ids.in_hand s }

-- a table without a session's pin
abbrev pub table_unpinned : Table → ℕ → Table
table_unpinned table s = record table { toast = record table.toast { index = record table.toast.index { pins = without_pin table.toast.index.pins s } } }

-- the tables without the pin of a session whose job works on one of them
abbrev pub once_unpinned : List Table → ℕ → Option ℕ → List Table
once_unpinned tables s None = tables
once_unpinned tables s (Some t) = with_table tables t (table_unpinned (table_at tables t) s)

-- ---- the ends of a transaction

-- a session's transaction is over: its end is in the log, its session is then in this state, and all that it held is given up
abbrev pub after_end_of : CoreState → ℕ → Xacts → Option LogEntry → State → CoreState
after_end_of c s xacts end state = record c {
  ids = ids_released c.ids s;
  xacts = xacts;
  snaps = once_released c.snaps (uses_of (seat_of c s));
  locks = after_end c.locks s;
  log = once_ended c.log end;
  tables = once_unpinned c.tables s (job_table (seat_of c s).job);
  seats = slice_set c.seats (s - 1) (record { state = state; handles = []; job = jobs.Idle });
}

abbrev pub after_commit_of : CoreState → ℕ → CoreState
after_commit_of c s = after_end_of c s (once_committed c.xacts (xid_of (seat_of c s).state)) (option_map (λ xid. entries.Commit xid) (xid_of (seat_of c s).state)) states.Outside

-- without a commit: a rollback, or a failing end
abbrev pub after_giving_up : CoreState → ℕ → State → CoreState
after_giving_up c s state = after_end_of c s (once_aborted c.xacts (xid_of (seat_of c s).state)) (option_map (λ xid. entries.Abort xid) (xid_of (seat_of c s).state)) state

-- what a session is in once an open transaction of it has failed
abbrev pub failed_state : State → State
failed_state states.Outside = states.Outside
failed_state states.Failed = states.Failed
failed_state (states.Open level xid snapshot) = states.Failed

abbrev pub after_failing : CoreState → ℕ → CoreState
after_failing c s = after_giving_up c s (failed_state (seat_of c s).state)

-- ---- a command's first step

-- a command is submitted
abbrev pub after_submit : CoreState → ℕ → Command → CoreState
after_submit c s command = seated c s (record (seat_of c s) { job = jobs.Submitted command })

-- a command is over that has changed nothing but what its session is in
abbrev pub after_over : CoreState → ℕ → State → CoreState
after_over c s state = seated c s (record (seat_of c s) { state = state; job = jobs.Idle })

-- whether a transaction is to take its copy: it reads repeatably, and has no snapshot yet
abbrev pub takes_copy : State → Bool
takes_copy state = is_repeatable state && is_none (snapshot_of state)

abbrev pub with_snapshot : State → ℕ → State
with_snapshot states.Outside id = states.Outside
with_snapshot states.Failed id = states.Failed
with_snapshot (states.Open level xid snapshot) id = states.Open level xid (Some id)

abbrev pub with_xid : State → ℕ → State
with_xid states.Outside xid = states.Outside
with_xid states.Failed xid = states.Failed
with_xid (states.Open level own snapshot) xid = states.Open level (Some xid) snapshot

-- a table is used, and its copy taken by a repeatable read transaction that has none
abbrev pub after_use : CoreState → ℕ → ℕ → CoreState
after_use c s t =
    let seat = seat_of c s in
    let used = record c { locks = granted c.locks s (table_lock t Use) } in
    if takes_copy seat.state
    then seated (record used { snaps = after_take c.snaps c.xacts }) s (record seat { state = with_snapshot seat.state (least_free c.snaps) })
    else used

-- a command is over that has used its table, and answered by what it found there
abbrev pub after_looking : CoreState → ℕ → ℕ → CoreState
after_looking c s t = after_over (after_use c s t) s (seat_of (after_use c s t) s).state

-- a read goes on from its moment: under read committed it takes a snapshot, to its end
abbrev pub after_read_begun : CoreState → ℕ → ℕ → Reading → CoreState
after_read_begun c s t read =
    let used = after_use c s t in
    let seat = seat_of used s in
    if is_repeatable seat.state
    then seated used s (record seat { job = jobs.Reading t None read })
    else seated (record used { snaps = after_take used.snaps used.xacts }) s (record seat { job = jobs.Reading t (Some (least_free used.snaps)) read })

-- so does a fetch of a handle's value, which holds that by the handle
abbrev pub after_fetch_begun : CoreState → ℕ → ℕ → Reading → CoreState
after_fetch_begun c s t read = seated c s (record (seat_of c s) { job = jobs.Reading t None read })

-- the claims of some keys of a table
abbrev pub once_claimed : List SessionLocks → ℕ → ℕ → List ℤ → List SessionLocks
once_claimed locks s t [] = locks
once_claimed locks s t (key ∷ keys) = once_claimed (granted locks s (row_lock t key)) s t keys

-- a write goes on from its moment: its rows are claimed, and its transaction has an xid
abbrev pub after_write_begun : CoreState → ℕ → ℕ → List ℤ → Writing → CoreState
after_write_begun c s t keys write =
    let used = after_use c s t in
    let seat = seat_of used s in
    let xid = xid_of seat.state in
    record used {
      xacts = once_assigned used.xacts s xid;
      locks = once_claimed used.locks s t keys;
      log = once_kept used.log xid;
      seats = slice_set used.seats (s - 1) (record seat { state = with_xid seat.state (unwrap_or xid (next_xid used.xacts)); job = jobs.Writing t write });
    }

-- the handles with one more, by name
abbrev pub with_handle : List Handle → Handle → List Handle
with_handle handles handle = filter (λ other. nat_lt other.name handle.name) handles ++ handle ∷ filter (λ other. nat_lt handle.name other.name) handles

-- a handle is opened: under read committed it takes a snapshot, else it has a share of its transaction's
abbrev pub after_open : CoreState → ℕ → ℕ → ℕ → Held → CoreState
after_open c s t name held =
    let used = after_use c s t in
    let seat = seat_of used s in
    let id = unwrap_or (snapshot_of seat.state) (least_free used.snaps) in
    let handle : Handle = record { name = name; snapshot = id; table = t; held = held } in
    seated (record used { snaps = if is_none (snapshot_of seat.state) then after_take used.snaps used.xacts else after_share used.snaps id }) s
    (record seat { handles = with_handle seat.handles handle; job = jobs.Idle })

-- and closed
abbrev pub after_close : CoreState → ℕ → Handle → CoreState
after_close c s handle =
    seated (record c { snaps = after_release c.snaps handle.snapshot }) s (record (seat_of c s) { handles = filter (λ other. not (other.name == handle.name)) (seat_of c s).handles; job = jobs.Idle })

-- ---- a later step

-- a step of a read: a batch, or an entry of one
abbrev pub tables_read : List Table → ℕ → Reading → List Table
tables_read tables t read = with_table tables t (record (table_at tables t) { toast = store_read (table_at tables t).toast read })

abbrev pub after_read_step : CoreState → ℕ → ℕ → Option ℕ → Reading → CoreState
after_read_step c s t snapshot read =
    seated (record c { tables = tables_read c.tables t read }) s (record (seat_of c s) { job = jobs.Reading t snapshot (read_after (table_at c.tables t).toast read) })

-- its last step gives up the read's own snapshot
abbrev pub after_read_last : CoreState → ℕ → ℕ → Option ℕ → Reading → CoreState
after_read_last c s t snapshot read =
    seated (record c { snaps = once_released c.snaps (option_to_list snapshot); tables = tables_read c.tables t read }) s (record (seat_of c s) { job = jobs.Idle })

-- what a write works on
abbrev pub parts_at : CoreState → ℕ → Parts
parts_at c t = parts_of (table_at c.tables t).rows (table_at c.tables t).toast c.ids c.log

-- a step of a write, which leaves this store: a draw, a chunk with its log entry, an index entry, the version with its log entry, a batch of a dropped value, or an entry of one
abbrev pub after_write_parts : CoreState → ℕ → Writing → Store → CoreState
after_write_parts c t write toast = record c {
  ids = ids_at (table_at c.tables t).toast c.ids write.stage;
  log = log_at c.log write.owner write.stage;
  tables = with_table c.tables t (record { rows = rows_at (table_at c.tables t).rows write.owner write.stage; toast = toast });
}

abbrev pub after_write_step : CoreState → ℕ → ℕ → Writing → Store → CoreState
after_write_step c s t write toast = seated (after_write_parts c t write toast) s (record (seat_of c s) { job = jobs.Writing t (write_after (parts_at c t) write) })

-- its last step gives up the ids that it has in hand
abbrev pub after_write_last : CoreState → ℕ → ℕ → Writing → Store → CoreState
after_write_last c s t write toast =
    let made = after_write_parts c t write toast in
    seated (record made { ids = ids_released made.ids s }) s (record (seat_of c s) { job = jobs.Idle })
