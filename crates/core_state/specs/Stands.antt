-- How a core stands for a state of the plain store.
use Rattle.std.specs.List.{filter_map, list_any}
use Rattle.std.specs.Option.{unwrap_or}
use Rattle.std.specs.Ordering.{int_cmp, is_eq}
use Rattle.std.specs.Prelude.{List, None, Option, Some, [], if◌then◌else◌, length, map, option_map, option_to_list, slice_get, suc, ℕ, ⊤, ◌++◌, ◌==◌, ◌∷◌, ◌≡◌}
use Rattle.tuple_layout.specs.Places.{Row, Rows}
use Rattle.tuple_layout.specs.declared.Place.{Place}
use Rattle.tuple_layout.specs.declared.cell.Cell.{Cell}
use Rattle.xact_status.specs.Xacts.{Xacts, is_committed}
use Rattle.snapshot_registry.specs.Snapshots.{Snaps, committed_in}
use Rattle.snapshot_registry.specs.declared.Snapshot.{Snapshot}
use Rattle.change_log.specs.declared.entry.LogEntry.{LogEntry}
use Rattle.lock_table.specs.Held.{holds_row, holds_table}
use Rattle.lock_table.specs.Locks.{held_by}
use Rattle.lock_table.specs.declared.held.SessionLocks.{SessionLocks}
use Rattle.lock_table.specs.declared.lock.LockMode.TheVariants.{Use}
use Rattle.command_set.specs.Changes.{fold_changes, is_named, keys_of, outcome}
use Rattle.command_set.specs.declared.Level.{Level}
use Rattle.command_set.specs.declared.Reply.{Reply}
use Rattle.command_set.specs.declared.state.Change.{Change}
use Rattle.command_set.specs.declared.state.Change.TheVariants.{Insert, Move, Remove, Update}
use Rattle.command_set.specs.declared.state.Plain.{Plain}
use Rattle.command_set.specs.declared.state.Session.{Session}
use Rattle.command_set.specs.declared.state.Transaction.{Transaction}
use Rattle.table_rows.specs.Views.{IsSince}
use Rattle.table_state.specs.Rows.{cell_value}
use Rattle.table_state.specs.declared.table.Table.{Table}
use Rattle.read_steps.specs.Reads.{reply_of}
use Rattle.core_state.specs.Coming.{change_left, xid_logged}
use Rattle.core_state.specs.State.{CoreState, handle_of, snapshot_of, table_at, xid_of}
use Rattle.core_state.specs.Views.{held_value, in_sight, registered, row_at}
use Rattle.core_state.specs.declared.seat.Handle.{Handle}
use Rattle.core_state.specs.declared.seat.Job.{Job}
use Rattle.core_state.specs.declared.seat.Seat.{Seat}
use Rattle.core_state.specs.declared.seat.State.{State}
use Rattle.change_log.specs.declared.entry.LogEntry.TheVariants as entries
use Rattle.command_set.specs.declared.Reply.TheVariants as replies
use Rattle.command_set.specs.declared.state.Session.TheVariants as plain
use Rattle.core_state.specs.declared.seat.Job.TheVariants as jobs
use Rattle.core_state.specs.declared.seat.State.TheVariants as states
use Rattle.std.specs.FinMap as map

-- ---- what a transaction has changed

-- the values of cells in a table
abbrev pub row_in_table : List Table → ℕ → List Cell → Row
row_in_table tables t cells = map (cell_value (table_at tables t).toast) cells

-- the row's change that a log entry tells, if it tells one
abbrev pub change_logged : List Table → LogEntry → Option Change
change_logged tables (entries.Chunk xid t value_id seq bytes) = None
change_logged tables (entries.Insert xid t key cells) = Some (Insert t key (row_in_table tables t cells))
change_logged tables (entries.Update xid t from to cells) = Some (if is_eq (int_cmp from to) then Update t to (row_in_table tables t cells) else Move t from to (row_in_table tables t cells))
change_logged tables (entries.Delete xid t key) = Some (Remove t key)
change_logged tables (entries.Commit xid) = None
change_logged tables (entries.Abort xid) = None

-- the same, if the entry is of a transaction
abbrev pub change_of : List Table → ℕ → LogEntry → Option Change
change_of tables xid entry = if xid_logged entry == xid then change_logged tables entry else None

-- the changes of a transaction that the log tells, in order; of one without an xid none
abbrev pub logged_changes : List Table → List LogEntry → Option ℕ → List Change
logged_changes tables log None = []
logged_changes tables log (Some xid) = filter_map (change_of tables xid) log

-- the change that a job is still to make
abbrev pub coming : List Table → Job → List Change
coming tables jobs.Idle = []
coming tables (jobs.Submitted command) = []
coming tables (jobs.Reading t snapshot read) = []
coming tables (jobs.Writing t write) = option_to_list (change_left t (table_at tables t).toast write.stage)

-- all changes of a session's transaction so far, the write under way counted as done
abbrev pub changes_in : List Table → List LogEntry → Seat → List Change
changes_in tables log seat = logged_changes tables log (xid_of seat.state) ++ coming tables seat.job

-- ---- a session

-- a repeatable read transaction's copy is what its snapshot shows, and a place of it has changed since exactly where the version that it sees there has an end that has committed
pub record HasCopy (xacts : Xacts) (tables : List Table) (snapshot : Snapshot) (base : Rows) (places : List Place) : Type 0 where
  pub rows : (p : Place) → map.get base p ≡ row_at tables (committed_in xacts snapshot) p
  pub since : (p : Place) → IsSince xacts snapshot (table_at tables p.table).rows.pages p.key (is_named places p)

-- it has one exactly where it has a snapshot
abbrev pub CopyStands : Xacts → List Table → Option Snapshot → Option Rows → List Place → Type 0
CopyStands xacts tables None None since = ⊤
CopyStands xacts tables None (Some base) since = ⊥
CopyStands xacts tables (Some snapshot) None since = ⊥
CopyStands xacts tables (Some snapshot) (Some base) since = HasCopy xacts tables snapshot base since

-- an open transaction stands for the plain store's
pub record TransactionStands (xacts : Xacts) (snaps : Snaps) (held : SessionLocks) (log : List LogEntry) (tables : List Table) (latest : Rows) (seat : Seat) (level : Level) (t : Transaction) : Type 0 where
  pub level_is : t.level ≡ level
  pub copy : CopyStands xacts tables (registered snaps (snapshot_of seat.state)) t.base t.since
  pub changes : t.changes ≡ changes_in tables log seat
  -- what it has now: the rows that are there for its transaction, and the change that is still to come
  pub now : (p : Place) → map.get (fold_changes t.changes latest) p ≡ unwrap_or (outcome (coming tables seat.job) p) (row_at tables (in_sight xacts seat.state) p)
  pub used : (table : ℕ) → list_any (λ used. used == table) t.used ≡ holds_table held.tables (record { table = table; mode = Use })
  pub claimed : (p : Place) → is_named (keys_of t.changes) p ≡ holds_row held.rows (record { table = p.table; key = p.key })
  pub handles : (name : ℕ) → map.get t.handles name ≡ option_map (λ (handle : Handle). held_value tables handle.table handle.held) (handle_of seat.handles name)

-- a session stands for the plain store's: outside, failed and open alike
abbrev pub SessionStands : Xacts → Snaps → SessionLocks → List LogEntry → List Table → Rows → Seat → State → Session → Type 0
SessionStands xacts snaps held log tables latest seat states.Outside plain.Outside = ⊤
SessionStands xacts snaps held log tables latest seat states.Outside plain.Failed = ⊥
SessionStands xacts snaps held log tables latest seat states.Outside (plain.Open t) = ⊥
SessionStands xacts snaps held log tables latest seat states.Failed plain.Outside = ⊥
SessionStands xacts snaps held log tables latest seat states.Failed plain.Failed = ⊤
SessionStands xacts snaps held log tables latest seat states.Failed (plain.Open t) = ⊥
SessionStands xacts snaps held log tables latest seat (states.Open level xid snapshot) plain.Outside = ⊥
SessionStands xacts snaps held log tables latest seat (states.Open level xid snapshot) plain.Failed = ⊥
SessionStands xacts snaps held log tables latest seat (states.Open level xid snapshot) (plain.Open t) = TransactionStands xacts snaps held log tables latest seat level t

-- ---- the whole

-- the reply that a command past its moment was given then: what a read still comes to, and a write's
abbrev pub pending_of : List Table → Job → Option Reply
pending_of tables jobs.Idle = None
pending_of tables (jobs.Submitted command) = None
pending_of tables (jobs.Reading t snapshot read) = reply_of (table_at tables t).toast read
pending_of tables (jobs.Writing t write) = Some replies.Okay

-- the core stands for a state of the plain store, where `replies` are what each session's last moment answered
pub record Stands (c : CoreState) (m : Plain) (replies : List (Option Reply)) : Type 0 where
  -- the committed rows are those of the versions that have been committed and not ended
  pub latest : (p : Place) → map.get m.latest p ≡ row_at c.tables (is_committed c.xacts) p
  pub count : length m.sessions ≡ length c.seats
  pub sessions : (i : ℕ) (seat : Seat) (session : Session) → slice_get c.seats i ≡ Some seat → slice_get m.sessions i ≡ Some session
      → SessionStands c.xacts c.snaps (held_by c.locks (suc i)) c.log.entries c.tables m.latest seat seat.state session
  pub upkeep : m.upkeep ≡ []
  pub pending : (i : ℕ) (seat : Seat) (reply : Reply) → slice_get c.seats i ≡ Some seat → pending_of c.tables seat.job ≡ Some reply → slice_get replies i ≡ Some (Some reply)
