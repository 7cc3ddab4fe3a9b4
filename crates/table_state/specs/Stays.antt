-- What a change of a table's values out of line leaves of its values and rows.
use Rattle.std.specs.Prelude.{ℕ, ℤ, ◌≡◌, ◌≢◌, ◌≤◌, Bool, true, false, List, Some, Contains, map}
use Rattle.slot_page.specs.declared.line.Tid.{Tid}
use Rattle.slot_page.specs.Pages.{item_in}
use Rattle.external_pointer.specs.declared.external.Pointer.{Pointer}
use Rattle.tuple_layout.specs.declared.cell.Cell.{Cell}
use Rattle.xact_status.specs.Versions.{is_there}
use Rattle.xact_status.specs.Xacts.{Xacts, after_abort, after_assign, after_commit, is_running}
use Rattle.snapshot_registry.specs.Laws.{IsRegistryOf}
use Rattle.snapshot_registry.specs.Snapshots.{Snaps, after_release, after_share, after_take, horizon, is_protected}
use Rattle.value_holders.specs.Holders.{AreEnded}
use Rattle.value_holders.specs.Stamps.{IsOpenFor}
use Rattle.row_versions.specs.Relations.{Pages}
use Rattle.row_versions.specs.declared.keys.KeyEntry.{KeyEntry}
use Rattle.row_versions.specs.declared.version.Version.{Version}
use Rattle.chunk_relation.specs.declared.chunk.Chunk.{Chunk}
use Rattle.chunk_index.specs.Leaves.{Leaf}
use Rattle.chunk_index.specs.declared.entry.Entry.{Entry}
use Rattle.toast_store.specs.Between.{Adds, Ends, Pins, Prunes, Puts, Reaps, Sweeps}
use Rattle.toast_store.specs.Stores.{IsStore, Store}
use Rattle.toast_store.specs.Values.{value_in}
use Rattle.table_rows.specs.Steps.{IsEnded, IsPut, IsReplaced, SameVersions, TakesDead, stamp_of}
use Rattle.table_rows.specs.Worlds.{IsVersionAt}
use Rattle.table_state.specs.Events.{IsUnheld, with_rows, with_toast}
use Rattle.table_state.specs.Holders.{holders_of}
use Rattle.table_state.specs.Rows.{cell_value, has_id, pointers_in}
use Rattle.table_state.specs.Tables.{IsTable, cells_of, row_in}
use Rattle.table_state.specs.declared.table.Table.{Table}

-- a pointer leads to the same bytes
abbrev pub IsLeft : Store → Store → Pointer → Type 0
IsLeft old new pointer = value_in new pointer ≡ value_in old pointer

-- each of some cells has the same value
abbrev pub AreLeft : Store → Store → List Cell → Type 0
AreLeft old new cells = (pointer : Pointer) → Contains (pointers_in cells) pointer → IsLeft old new pointer

pub record ValuesStay : Type 0 where
  -- a piece is put, a chunk is ended, a batch is asked for or a pin dropped, a leaf is swept, a slot is freed
  pub put : (old new : Store) (size : ℕ) (chunk : Chunk) (pointer : Pointer) → IsStore old → Puts old new size chunk → IsLeft old new pointer
  pub ended : (old new : Store) (tid : Tid) (xid : ℕ) (pointer : Pointer) → Ends old new tid xid → IsLeft old new pointer
  pub pinned : (old new : Store) (pointer : Pointer) → Pins old new → IsLeft old new pointer
  pub swept : (old new : Store) (leaf : Leaf) (dead : List Tid) (pointer : Pointer) → Sweeps old new leaf dead → IsLeft old new pointer
  pub freed : (old new : Store) (tid : Tid) (pointer : Pointer) → Reaps old new tid → IsLeft old new pointer
  -- an entry is added: of every other value
  pub added : (old new : Store) (e : Entry) (pointer : Pointer) → Adds old new e → e.value_id ≢ pointer.value_id → IsLeft old new pointer
  -- a page of chunks is pruned: of each value of a version that must be kept
  pub pruned : (number : ℕ) (xacts : Xacts) (snaps : Snaps) (table : Table) (store : Store) (bound page : ℕ) (tid : Tid) (version : Version) (pointer : Pointer) → IsRegistryOf xacts snaps → bound ≤ horizon xacts snaps
      → Prunes table.toast store xacts bound page → IsTable number xacts snaps table → item_in table.rows.pages tid ≡ Some version → is_protected xacts snaps version.inserter version.ender ≡ true → Contains (pointers_in (cells_of table version)) pointer
      → IsLeft table.toast store pointer
  -- where its values are left, so is a row
  pub cells : (old new : Store) (cells : List Cell) → AreLeft old new cells → map (cell_value new) cells ≡ map (cell_value old) cells
  -- and so is the row that a world has at a key, where those of its version are
  pub world : (table : Table) (store : Store) (counts : ℕ → Bool) (key : ℤ)
      → ((tid : Tid) (version : Version) → IsVersionAt table.rows.pages key tid version → is_there counts version.inserter version.ender ≡ true → AreLeft table.toast store (cells_of table version))
      → row_in (with_toast table store) counts key ≡ row_in table counts key

-- ---- an id that is in hand, and values that a transaction has dropped, through what others do

-- whether a version has a pointer with an id
abbrev pub holds_id : Table → ℕ → Version → Bool
holds_id table value_id version = has_id value_id (cells_of table version)

-- the holders of a value
abbrev pub HaveEnded : Xacts → Snaps → Table → ℕ → ℕ → Type 0
HaveEnded xacts snaps table value_id xid = AreEnded xacts snaps (holders_of table.rows.schema.storages table.rows.pages value_id) xid

-- No protected version has an id: its session has drawn it, and no other puts a version with it. x is the transaction that acts
pub record UnheldStays : Type 0 where
  pub put : (xacts : Xacts) (snaps : Snaps) (table : Table) (later : Pages) (entries : List KeyEntry) (new : Tid) (version : Version) (value_id : ℕ) → IsPut table.rows.pages later new version → holds_id table value_id version ≡ false
      → IsUnheld xacts snaps table value_id → IsUnheld xacts snaps (with_rows table later entries) value_id
  pub ended : (xacts : Xacts) (snaps : Snaps) (table : Table) (later : Pages) (entries : List KeyEntry) (tid : Tid) (x : ℕ) (old : Version) (value_id : ℕ) → is_running xacts x ≡ true → IsOpenFor xacts x (stamp_of old) → IsEnded x table.rows.pages later tid old
      → IsUnheld xacts snaps table value_id → IsUnheld xacts snaps (with_rows table later entries) value_id
  pub replaced : (xacts : Xacts) (snaps : Snaps) (table : Table) (later : Pages) (entries : List KeyEntry) (tid new : Tid) (x : ℕ) (old version : Version) (value_id : ℕ) → is_running xacts x ≡ true → IsOpenFor xacts x (stamp_of old)
      → IsReplaced x table.rows.pages later tid new old version → holds_id table value_id version ≡ false → IsUnheld xacts snaps table value_id → IsUnheld xacts snaps (with_rows table later entries) value_id
  pub pruned : (xacts : Xacts) (snaps : Snaps) (table : Table) (bound : ℕ) (later : Pages) (entries : List KeyEntry) (value_id : ℕ) → TakesDead xacts bound table.rows.pages later
      → IsUnheld xacts snaps table value_id → IsUnheld xacts snaps (with_rows table later entries) value_id
  pub freed : (xacts : Xacts) (snaps : Snaps) (table : Table) (later : Pages) (entries : List KeyEntry) (value_id : ℕ) → SameVersions table.rows.pages later
      → IsUnheld xacts snaps table value_id → IsUnheld xacts snaps (with_rows table later entries) value_id
  pub assigned : (number : ℕ) (xacts : Xacts) (snaps : Snaps) (session : ℕ) (table : Table) (value_id : ℕ) → IsRegistryOf xacts snaps → IsTable number xacts snaps table → IsUnheld xacts snaps table value_id → IsUnheld (after_assign xacts session) snaps table value_id
  pub committed : (number : ℕ) (xacts : Xacts) (snaps : Snaps) (x : ℕ) (table : Table) (value_id : ℕ) → is_running xacts x ≡ true → IsRegistryOf xacts snaps → IsTable number xacts snaps table → IsUnheld xacts snaps table value_id → IsUnheld (after_commit xacts x) snaps table value_id
  pub aborted : (number : ℕ) (xacts : Xacts) (snaps : Snaps) (x : ℕ) (table : Table) (value_id : ℕ) → is_running xacts x ≡ true → IsRegistryOf xacts snaps → IsTable number xacts snaps table → IsUnheld xacts snaps table value_id → IsUnheld (after_abort xacts x) snaps table value_id
  pub taken : (number : ℕ) (xacts : Xacts) (snaps : Snaps) (table : Table) (value_id : ℕ) → IsTable number xacts snaps table → IsUnheld xacts snaps table value_id → IsUnheld xacts (after_take snaps xacts) table value_id
  pub shared : (number : ℕ) (xacts : Xacts) (snaps : Snaps) (id : ℕ) (table : Table) (value_id : ℕ) → IsTable number xacts snaps table → IsUnheld xacts snaps table value_id → IsUnheld xacts (after_share snaps id) table value_id
  pub released : (number : ℕ) (xacts : Xacts) (snaps : Snaps) (id : ℕ) (table : Table) (value_id : ℕ) → IsTable number xacts snaps table → IsUnheld xacts snaps table value_id → IsUnheld xacts (after_release snaps id) table value_id

-- Each protected version with a value has ended for a transaction y, which marks the value's chunks; x is the one that acts. Through statuses, snapshots and prunes `value_holders` has it
pub record EndedStays : Type 0 where
  pub put : (xacts : Xacts) (snaps : Snaps) (table : Table) (later : Pages) (entries : List KeyEntry) (new : Tid) (version : Version) (value_id y : ℕ) → IsPut table.rows.pages later new version → holds_id table value_id version ≡ false
      → HaveEnded xacts snaps table value_id y → HaveEnded xacts snaps (with_rows table later entries) value_id y
  pub ended : (xacts : Xacts) (snaps : Snaps) (table : Table) (later : Pages) (entries : List KeyEntry) (tid : Tid) (x : ℕ) (old : Version) (value_id y : ℕ) → is_running xacts x ≡ true → is_running xacts y ≡ true → IsOpenFor xacts x (stamp_of old)
      → IsEnded x table.rows.pages later tid old → HaveEnded xacts snaps table value_id y → HaveEnded xacts snaps (with_rows table later entries) value_id y
  pub replaced : (xacts : Xacts) (snaps : Snaps) (table : Table) (later : Pages) (entries : List KeyEntry) (tid new : Tid) (x : ℕ) (old version : Version) (value_id y : ℕ) → is_running xacts x ≡ true → is_running xacts y ≡ true → IsOpenFor xacts x (stamp_of old)
      → IsReplaced x table.rows.pages later tid new old version → holds_id table value_id version ≡ false → HaveEnded xacts snaps table value_id y → HaveEnded xacts snaps (with_rows table later entries) value_id y
