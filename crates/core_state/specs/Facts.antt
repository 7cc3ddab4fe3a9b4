-- What is true of every core, without any journal: the fact of its type. Each fact names the parts that it rests on, so that an event which leaves these owes nothing.
use Rattle.std.specs.Int.{w64}
use Rattle.std.specs.Int.RustNames.{FitsSigned}
use Rattle.std.specs.List.{IsDistinct}
use Rattle.std.specs.List.Sorted.{IsStrictlySortedBy}
use Rattle.std.specs.Ordering.{nat_cmp}
use Rattle.std.specs.Prelude.{Bool, Contains, IfSome, IsSome, List, None, Option, Some, [], count_by, false, length, map, nat_eq, option_map, option_to_list, slice_get, suc, sum_by, true, ℕ, ℤ, ⊤, ◌++◌, ◌-◌, ◌==◌, ◌∷◌, ◌≡◌, ◌≢◌, ◌≤◌, ◌⊎◌}
use Rattle.external_pointer.specs.declared.external.Pointer.{Pointer}
use Rattle.tuple_layout.specs.Schemas.{HasColumns}
use Rattle.tuple_layout.specs.declared.Place.{Place}
use Rattle.tuple_layout.specs.declared.Storage.{Storage}
use Rattle.tuple_layout.specs.declared.Storage.TheVariants.{External}
use Rattle.tuple_layout.specs.declared.cell.Cell.{Cell}
use Rattle.tuple_layout.specs.declared.cell.Cell.TheVariants.{Out}
use Rattle.tuple_layout.specs.declared.cell.Stored.{Stored}
use Rattle.slot_page.specs.Pages.{item_in}
use Rattle.slot_page.specs.declared.line.Tid.{Tid}
use Rattle.xact_status.specs.Versions.{counts_for}
use Rattle.xact_status.specs.Xacts.{IsAssigned, Xacts, is_running, session_at}
use Rattle.snapshot_registry.specs.Laws.{IsRegistryOf}
use Rattle.snapshot_registry.specs.Snapshots.{Snaps, holders_at, sees_at}
use Rattle.snapshot_registry.specs.declared.Snapshot.{Snapshot}
use Rattle.value_holders.specs.Holders.{AreEnded}
use Rattle.value_holders.specs.Stamps.{IsOpenFor}
use Rattle.row_versions.specs.Relations.{IsRelation}
use Rattle.row_versions.specs.Versions.{version_stamp}
use Rattle.row_versions.specs.declared.version.Version.{Version}
use Rattle.chunk_index.specs.Leaves.{Leaf}
use Rattle.chunk_index.specs.Pinned.{pin_of}
use Rattle.value_ids.specs.Ids.{IsPool, Pool}
use Rattle.value_ids.specs.declared.pool.InHand.{InHand}
use Rattle.change_log.specs.Logs.{LogState}
use Rattle.change_log.specs.declared.entry.LogEntry.{LogEntry}
use Rattle.lock_table.specs.Held.{holds_row, holds_table, nothing}
use Rattle.lock_table.specs.Locks.{held_by}
use Rattle.lock_table.specs.declared.held.SessionLocks.{SessionLocks}
use Rattle.lock_table.specs.declared.lock.LockMode.TheVariants.{Use}
use Rattle.lock_table.specs.declared.lock.RowKey.{RowKey}
use Rattle.lock_table.specs.declared.lock.TableLock.{TableLock}
use Rattle.toast_store.specs.Fetches.{Fetching}
use Rattle.toast_store.specs.Marks.{Marking}
use Rattle.toast_store.specs.Stores.{IsStore}
use Rattle.toast_store.specs.Walks.{Walking}
use Rattle.toast_store.specs.declared.walk.WalkStage.{WalkStage}
use Rattle.command_set.specs.Changes.{place}
use Rattle.table_rows.specs.Views.{IsOwnAt, IsViewNow}
use Rattle.table_rows.specs.Worlds.{tuple_in}
use Rattle.table_state.specs.Events.{IsUnheld}
use Rattle.table_state.specs.Holders.{holders_of}
use Rattle.table_state.specs.Rows.{has_id, pointers_in}
use Rattle.table_state.specs.Tables.{AreCellsOf, IsTable, cells_of, longest_value, toast_rel_of}
use Rattle.table_state.specs.declared.table.Table.{Table}
use Rattle.read_steps.specs.Reads.{CanRead, IsBatchKept, Reading, cell_of, fetch_due, reply_of}
use Rattle.read_steps.specs.declared.stage.ReadStage.{ReadStage}
use Rattle.write_steps.specs.Standing.{IsWriteStage, WriteStands}
use Rattle.write_steps.specs.Writes.{Writing, old_cells, parts_of}
use Rattle.write_steps.specs.declared.stage.OldRow.{OldRow}
use Rattle.write_steps.specs.declared.stage.WriteStage.{WriteStage}
use Rattle.core_state.specs.Begun.{held_size}
use Rattle.core_state.specs.Coming.{cells_left, id_drawn, ids_drawn, is_elsewhere, keys_left, new_left, old_left, to_drop, to_push, xid_logged}
use Rattle.core_state.specs.Commands.{IsFitting}
use Rattle.core_state.specs.State.{CoreState, IsTableOf, is_open, is_repeatable, schemas_of, seat_of, snapshot_of, table_at, uses_of, xid_of}
use Rattle.core_state.specs.Views.{registered}
use Rattle.core_state.specs.declared.seat.Handle.{Handle}
use Rattle.core_state.specs.declared.seat.Job.{Job}
use Rattle.core_state.specs.declared.seat.Seat.{Seat}
use Rattle.core_state.specs.declared.seat.State.{State}
use Rattle.change_log.specs.declared.entry.LogEntry.TheVariants as entries
use Rattle.core_state.specs.declared.seat.Job.TheVariants as jobs
use Rattle.read_steps.specs.declared.stage.ReadStage.TheVariants as read_stages
use Rattle.read_steps.specs.declared.wanted.Held.TheVariants as helds
use Rattle.toast_store.specs.declared.walk.WalkStage.TheVariants as walks
use Rattle.write_steps.specs.declared.stage.WriteStage.TheVariants as stages

-- ---- what is kept for a reader

-- a version is there for a session that uses these snapshots and has this xid: one of them sees it, or the session's running transaction inserted it. So it is protected
abbrev pub IsThereFor : Xacts → Snaps → List ℕ → Option ℕ → Version → Type 0
IsThereFor xacts snaps uses own version = (own ≡ Some version.inserter) ⊎ ((id : ℕ) × Contains uses id × (sees_at xacts snaps id version.inserter version.ender None ≡ true))

-- the value with an id stands in such a version
pub record KeepsId (xacts : Xacts) (snaps : Snaps) (table : Table) (uses : List ℕ) (own : Option ℕ) (value_id : ℕ) : Type 0 where
  pub tid : Tid
  pub version : Version
  pub there : item_in table.rows.pages tid ≡ Some version
  pub holds : has_id value_id (cells_of table version) ≡ true
  pub seen : IsThereFor xacts snaps uses own version

-- so does a pointer
pub record KeepsPointer (xacts : Xacts) (snaps : Snaps) (table : Table) (uses : List ℕ) (own : Option ℕ) (pointer : Pointer) : Type 0 where
  pub tid : Tid
  pub version : Version
  pub there : item_in table.rows.pages tid ≡ Some version
  pub holds : Contains (pointers_in (cells_of table version)) pointer
  pub seen : IsThereFor xacts snaps uses own version

-- ---- a read under way

-- the ids of a cell's value and of a fetch
abbrev pub ids_in : List Cell → List ℕ
ids_in cells = map (λ pointer. pointer.value_id) (pointers_in cells)

abbrev pub fetch_id : Fetching → ℕ
fetch_id fetch = Walking.value_id (Fetching.walk fetch)

-- the ids of the values that a read has still to read
abbrev pub ids_to_read : ReadStage → List ℕ
ids_to_read (read_stages.Row stored) = ids_in stored.cells
ids_to_read (read_stages.RowValue stored at fetch) = fetch_id fetch ∷ ids_in stored.cells
ids_to_read (read_stages.Part cell span) = ids_in (cell ∷ [])
ids_to_read (read_stages.PartValue fetch) = fetch_id fetch ∷ []
ids_to_read (read_stages.Ready bytes) = []
ids_to_read read_stages.Over = []

-- it is the session's, may make its next step, and comes to a reply; each value that it has still to read is kept for it
pub record ReadIsSound (xacts : Xacts) (snaps : Snaps) (table : Table) (s : ℕ) (seat : Seat) (read : Reading) : Type 0 where
  pub session : read.session ≡ s
  pub walk : IfSome (fetch_due read) (λ fetch. Walking.session (Fetching.walk fetch) ≡ s)
  pub can : CanRead table.toast read
  pub comes : IsSome (reply_of table.toast read)
  pub batch : IsBatchKept table.toast.index.entries read
  pub kept : (value_id : ℕ) → Contains (ids_to_read read.stage) value_id → KeepsId xacts snaps table (uses_of seat) (xid_of seat.state) value_id

-- ---- a write under way

-- its mark is for its transaction, and of the pointer that is dropped
abbrev pub IsOwnMark : ℕ → WriteStage → Type 0
IsOwnMark xid (stages.Saving old new plan at save) = ⊤
IsOwnMark xid (stages.Put old new plan) = ⊤
IsOwnMark xid (stages.Remove old) = ⊤
IsOwnMark xid (stages.Marking dropped at mark) = (mark.xid ≡ xid) × (option_map (λ (pointer : Pointer). pointer.value_id) (slice_get dropped at) ≡ Some (Walking.value_id (Marking.walk mark)))
IsOwnMark xid stages.Over = ⊤

-- it is the session's and its transaction's, and its keys are claimed
pub record IsOwnWrite (held : SessionLocks) (s t : ℕ) (state : State) (write : Writing) : Type 0 where
  pub session : write.owner.session ≡ s
  pub of_table : write.owner.table ≡ t
  pub xid : xid_of state ≡ Some write.owner.xid
  pub stage : IsWriteStage write.owner write.stage
  pub mark : IsOwnMark write.owner.xid write.stage
  pub claimed : (key : ℤ) → Contains (keys_left write.stage) key → holds_row held.rows (record { table = t; key = key }) ≡ true

-- until the version step: the old version has the row that the job works from, and is there for the transaction and for no other to end; at a new key nothing is there for it
pub record KnowsRows (xacts : Xacts) (table : Table) (write : Writing) : Type 0 where
  pub old : (row : OldRow) (version : Version) → old_left write.stage ≡ Some row → item_in table.rows.pages row.tid ≡ Some version
      → (version.key ≡ row.stored.key) × (cells_of table version ≡ row.stored.cells) × IsOpenFor xacts write.owner.xid (version_stamp version)
  pub alone : (new : Stored) → new_left write.stage ≡ Some new → is_elsewhere (old_left write.stage) new.key ≡ true → tuple_in (counts_for xacts (Some write.owner.xid)) table.rows.pages new.key ≡ None

-- the new row's key is a number of 64 bits; its columns have what they may have, and each pointer in it was saved for it or is the old row's in the same column; no two have one id
pub record HasNewRow (t : ℕ) (storages : List Storage) (stage : WriteStage) : Type 0 where
  pub key : (new : Stored) → new_left stage ≡ Some new → FitsSigned w64 new.key
  pub cells : AreCellsOf (toast_rel_of t) storages (cells_left stage)
  pub pushed : (column : ℕ) → Contains (to_push stage) column → slice_get storages (column - 1) ≡ Some External
  pub kept : (column : ℕ) (pointer : Pointer) → cell_of (cells_left stage) column ≡ Out pointer → Contains (ids_drawn stage) pointer.value_id ⊎ (cell_of (old_cells (old_left stage)) column ≡ Out pointer)
  pub distinct : IsDistinct nat_eq (option_to_list (id_drawn stage) ++ ids_in (cells_left stage))

-- no version that must be kept has the id of a value that the write has saved or is saving
pub record IsFresh (xacts : Xacts) (snaps : Snaps) (table : Table) (stage : WriteStage) : Type 0 where
  pub each : (value_id : ℕ) → Contains (ids_drawn stage) value_id → IsUnheld xacts snaps table value_id

-- from the version step on: each value that is dropped stands in a version that the transaction has ended, and each protected version with it has ended for the transaction
pub record IsDropping (xacts : Xacts) (snaps : Snaps) (table : Table) (xid : ℕ) (pointer : Pointer) : Type 0 where
  pub tid : Tid
  pub version : Version
  pub there : item_in table.rows.pages tid ≡ Some version
  pub holds : Contains (pointers_in (cells_of table version)) pointer
  pub inserted : counts_for xacts (Some xid) version.inserter ≡ true
  pub ended_by : version.ender ≡ Some xid
  pub ended : AreEnded xacts snaps (holders_of table.rows.schema.storages table.rows.pages pointer.value_id) xid

pub record WriteIsSound (xacts : Xacts) (snaps : Snaps) (ids : Pool) (held : SessionLocks) (table : Table) (s t : ℕ) (state : State) (write : Writing) : Type 0 where
  pub own : IsOwnWrite held s t state write
  -- whatever the log has
  pub stands : (log : LogState) → WriteStands (parts_of table.rows table.toast ids log) write
  pub rows : KnowsRows xacts table write
  pub new : HasNewRow t table.rows.schema.storages write.stage
  pub fresh : IsFresh xacts snaps table write.stage
  pub dropping : (pointer : Pointer) → Contains (to_drop write.stage) pointer → IsDropping xacts snaps table write.owner.xid pointer

-- ---- a session

-- a session that is in no open transaction has nothing; one whose transaction has no xid has claimed nothing; a claimed row's table is used; and a table is locked for use alone, as no upkeep is built
pub record LocksAreSound (held : SessionLocks) (state : State) : Type 0 where
  pub outside : is_open state ≡ false → held ≡ nothing
  pub unclaimed : (row : RowKey) → xid_of state ≡ None → holds_row held.rows row ≡ false
  pub used : (row : RowKey) → holds_row held.rows row ≡ true → holds_table held.tables (record { table = row.table; mode = Use }) ≡ true
  pub plain : (lock : TableLock) → Contains held.tables lock → lock.mode ≡ Use

-- only a repeatable read transaction has a snapshot, and at what it has claimed it sees by that what is there for it now
pub record ViewIsSound (xacts : Xacts) (snaps : Snaps) (held : SessionLocks) (tables : List Table) (state : State) : Type 0 where
  pub level : (id : ℕ) → snapshot_of state ≡ Some id → is_repeatable state ≡ true
  pub claimed : (snapshot : Snapshot) (own : ℕ) (row : RowKey) → registered snaps (snapshot_of state) ≡ Some snapshot → xid_of state ≡ Some own → holds_row held.rows row ≡ true
      → IsViewNow xacts snapshot own (table_at tables row.table).rows.pages row.key

-- a session uses a table
abbrev pub Uses : SessionLocks → ℕ → Type 0
Uses held t = holds_table held.tables (record { table = t; mode = Use }) ≡ true

-- an open handle: its table is used, and its pointer, if its value is out of line, is kept by its snapshot or its transaction
pub record HandleIsSound (xacts : Xacts) (snaps : Snaps) (held : SessionLocks) (tables : List Table) (own : Option ℕ) (handle : Handle) : Type 0 where
  pub of_table : IsTableOf tables handle.table
  pub used : Uses held handle.table
  pub kept : (pointer : Pointer) → handle.held ≡ helds.Out pointer → KeepsPointer xacts snaps (table_at tables handle.table) (handle.snapshot ∷ []) own pointer
  pub most : held_size handle.held ≤ longest_value

pub record HandlesAreSound (xacts : Xacts) (snaps : Snaps) (held : SessionLocks) (tables : List Table) (seat : Seat) : Type 0 where
  pub outside : is_open seat.state ≡ false → seat.handles ≡ []
  pub named : IsStrictlySortedBy (λ (handle other : Handle). nat_cmp handle.name other.name) seat.handles
  pub each : (handle : Handle) → Contains seat.handles handle → HandleIsSound xacts snaps held tables (xid_of seat.state) handle

-- a job past its moment: its table is there and used by an open transaction
pub record WorksOn (held : SessionLocks) (tables : List Table) (t : ℕ) (state : State) : Type 0 where
  pub of_table : IsTableOf tables t
  pub inside : is_open state ≡ true
  pub used : Uses held t

-- what is true of each job, by what it is
abbrev pub JobIsSound : Xacts → Snaps → Pool → SessionLocks → List Table → ℕ → Seat → Job → Type 0
JobIsSound xacts snaps ids held tables s seat jobs.Idle = ⊤
JobIsSound xacts snaps ids held tables s seat (jobs.Submitted command) = IsFitting (schemas_of tables) command
JobIsSound xacts snaps ids held tables s seat (jobs.Reading t snapshot read) = WorksOn held tables t seat.state × ReadIsSound xacts snaps (table_at tables t) s seat read
JobIsSound xacts snaps ids held tables s seat (jobs.Writing t write) = WorksOn held tables t seat.state × WriteIsSound xacts snaps ids held (table_at tables t) s t seat.state write

-- whether a walk has entries of a batch still to take
abbrev pub has_batch : WalkStage → Bool
has_batch walks.Empty = false
has_batch (walks.Asking after) = false
has_batch (walks.Reading batch at) = true
has_batch walks.Over = false

abbrev pub read_has_batch : ReadStage → Bool
read_has_batch (read_stages.Row stored) = false
read_has_batch (read_stages.RowValue stored at fetch) = has_batch (Walking.stage (Fetching.walk fetch))
read_has_batch (read_stages.Part cell span) = false
read_has_batch (read_stages.PartValue fetch) = has_batch (Walking.stage (Fetching.walk fetch))
read_has_batch (read_stages.Ready bytes) = false
read_has_batch read_stages.Over = false

abbrev pub write_has_batch : WriteStage → Bool
write_has_batch (stages.Saving old new plan at save) = false
write_has_batch (stages.Put old new plan) = false
write_has_batch (stages.Remove old) = false
write_has_batch (stages.Marking dropped at mark) = has_batch (Walking.stage (Marking.walk mark))
write_has_batch stages.Over = false

-- a session has a pin in a table only where its job works on it and has entries of a batch still to take
abbrev pub MayPin : ℕ → Job → Type 0
MayPin t jobs.Idle = ⊥
MayPin t (jobs.Submitted command) = ⊥
MayPin t (jobs.Reading table snapshot read) = (table ≡ t) × (read_has_batch read.stage ≡ true)
MayPin t (jobs.Writing table write) = (table ≡ t) × (write_has_batch write.stage ≡ true)

pub record PinsAreSound (tables : List Table) (s : ℕ) (job : Job) : Type 0 where
  pub each : (t : ℕ) (leaf : Leaf) → pin_of (table_at tables t).toast.index.pins s ≡ Some leaf → MayPin t job

-- ids are in hand for a table only where a write under way is of it
abbrev pub MayHold : ℕ → Job → Type 0
MayHold t jobs.Idle = ⊥
MayHold t (jobs.Submitted command) = ⊥
MayHold t (jobs.Reading table snapshot read) = ⊥
MayHold t (jobs.Writing table write) = table ≡ t

pub record HandsAreSound (in_hand : List InHand) (s : ℕ) (job : Job) : Type 0 where
  pub each : (one : InHand) → Contains in_hand one → one.session ≡ s → MayHold one.table job

-- what is true of each session, by its number
pub record SeatIsSound (xacts : Xacts) (snaps : Snaps) (ids : Pool) (held : SessionLocks) (tables : List Table) (s : ℕ) (seat : Seat) : Type 0 where
  pub runs : (xid : ℕ) → xid_of seat.state ≡ Some xid → session_at xacts xid ≡ Some s
  pub locks : LocksAreSound held seat.state
  pub view : ViewIsSound xacts snaps held tables seat.state
  pub handles : HandlesAreSound xacts snaps held tables seat
  pub job : JobIsSound xacts snaps ids held tables s seat seat.job
  pub pins : PinsAreSound tables s seat.job
  pub hands : HandsAreSound ids.in_hand s seat.job

-- ---- between sessions

-- no place is claimed by two, and none is locked by the session that does not exist
pub record AreApart (locks : List SessionLocks) : Type 0 where
  pub nobody : held_by locks 0 ≡ nothing
  pub claims : (s other : ℕ) (row : RowKey) → s ≢ other → holds_row (held_by locks s).rows row ≡ true → holds_row (held_by locks other).rows row ≡ false

-- of one table no id is in hand for two
pub record AreInHand (in_hand : List InHand) : Type 0 where
  pub once : (a b : InHand) → Contains in_hand a → Contains in_hand b → a.table ≡ b.table → a.id ≡ b.id → a.session ≡ b.session

-- what a running transaction has touched lies on a table that its session uses, at a key that it claims
pub record AreTouched (xacts : Xacts) (locks : List SessionLocks) (tables : List Table) : Type 0 where
  pub used : (xid s t : ℕ) (tid : Tid) (version : Version) → session_at xacts xid ≡ Some s → item_in (table_at tables t).rows.pages tid ≡ Some version
      → (version.inserter ≡ xid) ⊎ (version.ender ≡ Some xid) → Uses (held_by locks s) t
  pub claimed : (xid s t : ℕ) (tid : Tid) (version : Version) → session_at xacts xid ≡ Some s → item_in (table_at tables t).rows.pages tid ≡ Some version
      → (version.inserter ≡ xid) ⊎ (version.ender ≡ Some xid) → holds_row (held_by locks s).rows (record { table = t; key = version.key }) ≡ true

-- ---- the log

-- a version of a key with these cells was put by a transaction
pub record HasPut (table : Table) (xid : ℕ) (key : ℤ) (cells : List Cell) : Type 0 where
  pub tid : Tid
  pub version : Version
  pub there : item_in table.rows.pages tid ≡ Some version
  pub inserter : version.inserter ≡ xid
  pub of_key : version.key ≡ key
  pub is : cells_of table version ≡ cells

-- what an entry of a running transaction tells: the version that it put is there. None tells of its end
abbrev pub HasVersion : List Table → LogEntry → Type 0
HasVersion tables (entries.Chunk xid t value_id seq bytes) = ⊤
HasVersion tables (entries.Insert xid t key cells) = HasPut (table_at tables t) xid key cells
HasVersion tables (entries.Update xid t from to cells) = HasPut (table_at tables t) xid to cells
HasVersion tables (entries.Delete xid t key) = ⊤
HasVersion tables (entries.Commit xid) = ⊥
HasVersion tables (entries.Abort xid) = ⊥

-- the places that an entry's change names
abbrev pub places_logged : LogEntry → List Place
places_logged (entries.Chunk xid t value_id seq bytes) = []
places_logged (entries.Insert xid t key cells) = place t key ∷ []
places_logged (entries.Update xid t from to cells) = place t from ∷ place t to ∷ []
places_logged (entries.Delete xid t key) = place t key ∷ []
places_logged (entries.Commit xid) = []
places_logged (entries.Abort xid) = []

-- a place that a running transaction has changed: it is claimed, and the version that the transaction has there, if any, is one that it put
pub record IsChanged (xacts : Xacts) (locks : List SessionLocks) (tables : List Table) (s xid : ℕ) (p : Place) : Type 0 where
  pub claimed : holds_row (held_by locks s).rows (record { table = p.table; key = p.key }) ≡ true
  pub own : IsOwnAt xacts xid (table_at tables p.table).rows.pages p.key

pub record LogIsSound (xacts : Xacts) (locks : List SessionLocks) (log : List LogEntry) (tables : List Table) : Type 0 where
  pub given : (entry : LogEntry) → Contains log entry → IsAssigned xacts (xid_logged entry)
  pub put : (entry : LogEntry) → Contains log entry → is_running xacts (xid_logged entry) ≡ true → HasVersion tables entry
  pub changed : (entry : LogEntry) (s : ℕ) (p : Place) → Contains log entry → session_at xacts (xid_logged entry) ≡ Some s → Contains (places_logged entry) p → IsChanged xacts locks tables s (xid_logged entry) p

-- ---- a whole core

-- how often a snapshot is used
abbrev pub uses_in : List Seat → ℕ → ℕ
uses_in seats id = sum_by (λ seat. count_by (λ other. other == id) (uses_of seat)) seats

-- how many sessions have an xid, and so room for their end in the log
abbrev pub ends_in : List Seat → ℕ
ends_in seats = sum_by (λ seat. length (option_to_list (xid_of seat.state))) seats

pub record IsSound (c : CoreState) : Type 0 where
  pub few : (length c.tables ≤ 16) × (length c.seats ≤ 64)
  pub places : length c.locks ≡ suc (length c.seats)
  pub registry : IsRegistryOf c.xacts c.snaps
  -- each use of a snapshot is counted, and nothing else
  pub counted : (id : ℕ) → holders_at c.snaps id ≡ uses_in c.seats id
  pub room : c.log.ends ≡ ends_in c.seats
  pub tables : (i : ℕ) (table : Table) → slice_get c.tables i ≡ Some table → IsTable (suc i) c.xacts c.snaps table
  pub each : (i : ℕ) (seat : Seat) → slice_get c.seats i ≡ Some seat → SeatIsSound c.xacts c.snaps c.ids (held_by c.locks (suc i)) c.tables (suc i) seat
  pub owners : (xid s : ℕ) → session_at c.xacts xid ≡ Some s → (1 ≤ s) × (xid_of (seat_of c s).state ≡ Some xid)
  pub apart : AreApart c.locks
  pub hands : AreInHand c.ids.in_hand
  pub touched : AreTouched c.xacts c.locks c.tables
  pub log : LogIsSound c.xacts c.locks c.log.entries c.tables

-- ---- the parts

-- what the types of a table's parts tell of it
pub record IsTableMade (table : Table) : Type 0 where
  pub columns : HasColumns (length table.rows.schema.storages)
  pub rows : IsRelation table.rows
  pub toast : IsStore table.toast

-- what the types of a core's parts tell of them: the premise that a line takes beside `IsSound`
pub record PartsAreSound (c : CoreState) : Type 0 where
  pub ids : IsPool c.ids
  pub tables : (table : Table) → Contains c.tables table → IsTableMade table
