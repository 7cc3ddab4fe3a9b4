-- What a core holds, as its contracts see it: plain data, each part of it the public model of what keeps it.
use Rattle.std.specs.Prelude.{Bool, List, None, Option, Some, [], false, find, length, map, option_to_list, slice_index_or, suc, true, zero, ℕ, ◌++◌, ◌-◌, ◌==◌, ◌≡◌, ◌≤◌}
use Rattle.tuple_layout.specs.Schemas.{TableSchema, no_columns}
use Rattle.xact_status.specs.Xacts.{Xacts}
use Rattle.snapshot_registry.specs.Snapshots.{Snaps}
use Rattle.row_versions.specs.Relations.{no_versions}
use Rattle.value_ids.specs.Ids.{Pool}
use Rattle.change_log.specs.Logs.{LogState}
use Rattle.lock_table.specs.declared.held.SessionLocks.{SessionLocks}
use Rattle.table_state.specs.declared.table.Table.{Table}
use Rattle.core_state.specs.declared.seat.Handle.{Handle}
use Rattle.core_state.specs.declared.seat.Job.{Job}
use Rattle.core_state.specs.declared.seat.Seat.{Seat}
use Rattle.core_state.specs.declared.seat.State.{State}
use Rattle.command_set.specs.declared.Level.TheVariants as levels
use Rattle.core_state.specs.declared.seat.Job.TheVariants as jobs
use Rattle.core_state.specs.declared.seat.State.TheVariants as states

-- a core: the value ids, the transactions, the registered snapshots, what each session has locked, the log, the tables, and each session
pub record CoreState : Type 0 where
  pub ids : Pool
  pub xacts : Xacts
  pub snaps : Snaps
  pub locks : List SessionLocks
  pub log : LogState
  pub tables : List Table
  pub seats : List Seat

-- ---- sessions and tables by their numbers, from 1

-- the seat of a session that does not exist
abbrev pub nobody : Seat
nobody = record { state = states.Outside; handles = []; job = jobs.Idle }

abbrev pub seat_of : CoreState → ℕ → Seat
seat_of c s = slice_index_or c.seats (s - 1) nobody

-- a session's number is one of the core's
pub record IsSession (seats : List Seat) (s : ℕ) : Type 0 where
  pub from_one : 1 ≤ s
  pub within : s ≤ length seats

-- a table that does not exist
abbrev pub no_table : Table
no_table = record { rows = no_versions no_columns; toast = record { rel = record { rel_id = 0; pages = [] }; index = record { entries = []; bounds = []; pins = [] } } }

-- the table with a number; there is none with the number 0
abbrev pub table_at : List Table → ℕ → Table
table_at tables zero = no_table
table_at tables (suc i) = slice_index_or tables i no_table

-- the number is that of a table
pub record IsTableOf (tables : List Table) (t : ℕ) : Type 0 where
  pub from_one : 1 ≤ t
  pub within : t ≤ length tables

abbrev pub schemas_of : List Table → List TableSchema
schemas_of tables = map (λ table. table.rows.schema) tables

-- ---- what a session has

abbrev pub is_open : State → Bool
is_open states.Outside = false
is_open states.Failed = false
is_open (states.Open level xid snapshot) = true

-- whether it is in an open transaction that reads repeatably
abbrev pub is_repeatable : State → Bool
is_repeatable states.Outside = false
is_repeatable states.Failed = false
is_repeatable (states.Open levels.Rc xid snapshot) = false
is_repeatable (states.Open levels.Rr xid snapshot) = true

abbrev pub xid_of : State → Option ℕ
xid_of states.Outside = None
xid_of states.Failed = None
xid_of (states.Open level xid snapshot) = xid

-- the snapshot of a repeatable read transaction, once it has one
abbrev pub snapshot_of : State → Option ℕ
snapshot_of states.Outside = None
snapshot_of states.Failed = None
snapshot_of (states.Open level xid snapshot) = snapshot

-- a state of a transaction that has nothing yet, or of none
pub record IsBare (state : State) : Type 0 where
  pub xid : xid_of state ≡ None
  pub snapshot : snapshot_of state ≡ None

-- the snapshot that a job holds by itself
abbrev pub job_snapshot : Job → Option ℕ
job_snapshot jobs.Idle = None
job_snapshot (jobs.Submitted command) = None
job_snapshot (jobs.Reading table snapshot read) = snapshot
job_snapshot (jobs.Writing table write) = None

-- the table that a job works on
abbrev pub job_table : Job → Option ℕ
job_table jobs.Idle = None
job_table (jobs.Submitted command) = None
job_table (jobs.Reading table snapshot read) = Some table
job_table (jobs.Writing table write) = Some table

-- whether a job has passed its moment
abbrev pub is_past_moment : Job → Bool
is_past_moment jobs.Idle = false
is_past_moment (jobs.Submitted command) = false
is_past_moment (jobs.Reading table snapshot read) = true
is_past_moment (jobs.Writing table write) = true

-- every use of a snapshot that a session makes, each as often as it makes it: its transaction's, its job's and its handles'
abbrev pub uses_of : Seat → List ℕ
uses_of seat = option_to_list (snapshot_of seat.state) ++ (option_to_list (job_snapshot seat.job) ++ map (λ handle. handle.snapshot) seat.handles)

-- the handle of a name, if it is open
abbrev pub handle_of : List Handle → ℕ → Option Handle
handle_of handles name = find (λ handle. handle.name == name) handles
