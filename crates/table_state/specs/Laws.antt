-- Every event on a table, and every event of transactions and snapshots, keeps what is true of the table.
-- x is the transaction of the session that acts: that it runs is a fact of that session. IsRegistryOf is the core's own fact of its statuses and snapshots. The bound of a vacuum is the horizon of its start, and no horizon falls.
use Rattle.std.specs.Prelude.{ℕ, ℤ, ◌≡◌, ◌≢◌, ◌≤◌, ◌⊎◌, true, false, List, [], Some, None}
use Rattle.slot_page.specs.declared.line.Tid.{Tid}
use Rattle.slot_page.specs.Pages.{item_in}
use Rattle.xact_status.specs.Xacts.{Xacts, is_running, after_assign, after_commit, after_abort}
use Rattle.snapshot_registry.specs.Snapshots.{Snaps, horizon, after_take, after_share, after_release}
use Rattle.snapshot_registry.specs.Laws.{IsRegistryOf}
use Rattle.row_versions.specs.declared.keys.KeyEntry.{KeyEntry}
use Rattle.row_versions.specs.declared.version.Version.{Version}
use Rattle.row_versions.specs.Versions.{new_version}
use Rattle.row_versions.specs.Relations.{Pages}
use Rattle.chunk_relation.specs.declared.chunk.Chunk.{Chunk}
use Rattle.chunk_relation.specs.Chunks.{IsChunkAssigned}
use Rattle.chunk_index.specs.declared.entry.Entry.{Entry}
use Rattle.chunk_index.specs.Leaves.{Leaf}
use Rattle.toast_store.specs.Stores.{Store, IsStore}
use Rattle.toast_store.specs.Between.{Puts, Adds, Ends, Prunes, Sweeps, Reaps, Pins}
use Rattle.xact_status.specs.Versions.{counts_for}
use Rattle.value_holders.specs.Stamps.{IsOpenFor}
use Rattle.value_holders.specs.Holders.{AreEnded}
use Rattle.table_rows.specs.Worlds.{IsUntouched, tuple_in}
use Rattle.table_rows.specs.Steps.{stamp_of, IsPut, IsEnded, IsReplaced, TakesDead, SameVersions}
use Rattle.table_state.specs.declared.table.Table.{Table}
use Rattle.table_state.specs.Rows.{pointers_in, has_id}
use Rattle.table_state.specs.Holders.{holders_of}
use Rattle.table_state.specs.Tables.{IsTable, cells_of}
use Rattle.table_state.specs.Events.{with_rows, with_toast, IsRowFor, IsUnheld}

-- Version steps. IsOpenFor: the write's old version was there for its transaction at the command's moment, and has been claimed since, so that nobody else has ended it
pub record VersionStepsKeep : Type 0 where
  -- an insert. The key: none in the transaction's world, by the test `taken`, and by the claim since. IsRowFor: what the write has formed and saved; it keeps nothing
  pub put : (number : ℕ) (xacts : Xacts) (snaps : Snaps) (table : Table) (later : Pages) (entries : List KeyEntry) (new : Tid) (x : ℕ) (key : ℤ) (tuple : List ℕ) → is_running xacts x ≡ true
      → tuple_in (counts_for xacts (Some x)) table.rows.pages key ≡ None → IsRowFor number xacts snaps table x key tuple [] → IsPut table.rows.pages later new (new_version key x tuple)
      → IsTable number xacts snaps table → IsTable number xacts snaps (with_rows table later entries)
  -- a delete
  pub ended : (number : ℕ) (xacts : Xacts) (snaps : Snaps) (table : Table) (later : Pages) (entries : List KeyEntry) (tid : Tid) (x : ℕ) (old : Version) → is_running xacts x ≡ true
      → IsOpenFor xacts x (stamp_of old) → IsEnded x table.rows.pages later tid old
      → IsTable number xacts snaps table → IsTable number xacts snaps (with_rows table later entries)
  -- an update, or a move to a key where the transaction's world has none. IsRowFor: each pointer of the new tuple was saved for it or is the old version's
  pub replaced : (number : ℕ) (xacts : Xacts) (snaps : Snaps) (table : Table) (later : Pages) (entries : List KeyEntry) (tid new : Tid) (x : ℕ) (old : Version) (key : ℤ) (tuple : List ℕ) → is_running xacts x ≡ true
      → IsOpenFor xacts x (stamp_of old) → (old.key ≡ key) ⊎ (tuple_in (counts_for xacts (Some x)) table.rows.pages key ≡ None) → IsRowFor number xacts snaps table x key tuple (pointers_in (cells_of table old))
      → IsReplaced x table.rows.pages later tid new old (new_version key x tuple)
      → IsTable number xacts snaps table → IsTable number xacts snaps (with_rows table later entries)
  -- each value that the step drops has then ended for the transaction, which may mark its chunks
  pub ended_for : (number : ℕ) (xacts : Xacts) (snaps : Snaps) (table : Table) (later : Pages) (tid : Tid) (x : ℕ) (old : Version) (value_id : ℕ) → is_running xacts x ≡ true
      → IsOpenFor xacts x (stamp_of old) → IsEnded x table.rows.pages later tid old → has_id value_id (cells_of table old) ≡ true
      → IsTable number xacts snaps table → AreEnded xacts snaps (holders_of table.rows.schema.storages later value_id) x
  pub dropped_for : (number : ℕ) (xacts : Xacts) (snaps : Snaps) (table : Table) (later : Pages) (tid new : Tid) (x : ℕ) (old version : Version) (value_id : ℕ) → is_running xacts x ≡ true
      → IsOpenFor xacts x (stamp_of old) → IsReplaced x table.rows.pages later tid new old version → has_id value_id (cells_of table old) ≡ true → has_id value_id (cells_of table version) ≡ false
      → IsTable number xacts snaps table → AreEnded xacts snaps (holders_of table.rows.schema.storages later value_id) x

-- The steps of a save and of a mark, and what is asked of the index. IsStore: the store's own invariant. The relation's id never changes
pub record ChunkStepsKeep : Type 0 where
  -- a piece is put. IsChunkAssigned: it bears the running xid alone
  pub put : (number : ℕ) (xacts : Xacts) (snaps : Snaps) (table : Table) (store : Store) (size : ℕ) (chunk : Chunk) → IsStore table.toast → store.rel.rel_id ≡ table.toast.rel.rel_id → IsChunkAssigned xacts chunk
      → Puts table.toast store size chunk → IsTable number xacts snaps table → IsTable number xacts snaps (with_toast table store)
  -- and indexed. IsUnheld: of the value that is being saved no protected version has the id, since it is in hand
  pub added : (number : ℕ) (xacts : Xacts) (snaps : Snaps) (table : Table) (store : Store) (e : Entry) → store.rel.rel_id ≡ table.toast.rel.rel_id → IsUnheld xacts snaps table e.value_id
      → Adds table.toast store e → IsTable number xacts snaps table → IsTable number xacts snaps (with_toast table store)
  -- a chunk is ended. AreEnded: from the version step on, by `ended_for` and `dropped_for` and what others keep of them
  pub ended : (number : ℕ) (xacts : Xacts) (snaps : Snaps) (table : Table) (store : Store) (tid : Tid) (x : ℕ) → IsStore table.toast → store.rel.rel_id ≡ table.toast.rel.rel_id → is_running xacts x ≡ true
      → ((chunk : Chunk) → item_in table.toast.rel.pages tid ≡ Some chunk → AreEnded xacts snaps (holders_of table.rows.schema.storages table.rows.pages chunk.value_id) x)
      → Ends table.toast store tid x → IsTable number xacts snaps table → IsTable number xacts snaps (with_toast table store)
  -- a batch is asked for, or a pin dropped
  pub pinned : (number : ℕ) (xacts : Xacts) (snaps : Snaps) (table : Table) (store : Store) → store.rel.rel_id ≡ table.toast.rel.rel_id
      → Pins table.toast store → IsTable number xacts snaps table → IsTable number xacts snaps (with_toast table store)

-- Vacuum
pub record VacuumKeeps : Type 0 where
  pub rows_pruned : (number : ℕ) (xacts : Xacts) (snaps : Snaps) (table : Table) (bound : ℕ) (later : Pages) (entries : List KeyEntry) → IsRegistryOf xacts snaps → bound ≤ horizon xacts snaps
      → TakesDead xacts bound table.rows.pages later → IsTable number xacts snaps table → IsTable number xacts snaps (with_rows table later entries)
  -- the key map is swept of the dead slots, or one is freed
  pub rows_freed : (number : ℕ) (xacts : Xacts) (snaps : Snaps) (table : Table) (later : Pages) (entries : List KeyEntry)
      → SameVersions table.rows.pages later → IsTable number xacts snaps table → IsTable number xacts snaps (with_rows table later entries)
  pub chunks_pruned : (number : ℕ) (xacts : Xacts) (snaps : Snaps) (table : Table) (store : Store) (bound page : ℕ) → IsRegistryOf xacts snaps → bound ≤ horizon xacts snaps → store.rel.rel_id ≡ table.toast.rel.rel_id
      → Prunes table.toast store xacts bound page → IsTable number xacts snaps table → IsTable number xacts snaps (with_toast table store)
  pub swept : (number : ℕ) (xacts : Xacts) (snaps : Snaps) (table : Table) (store : Store) (leaf : Leaf) (dead : List Tid) → store.rel.rel_id ≡ table.toast.rel.rel_id
      → Sweeps table.toast store leaf dead → IsTable number xacts snaps table → IsTable number xacts snaps (with_toast table store)
  pub chunk_freed : (number : ℕ) (xacts : Xacts) (snaps : Snaps) (table : Table) (store : Store) (tid : Tid) → store.rel.rel_id ≡ table.toast.rel.rel_id
      → Reaps table.toast store tid → IsTable number xacts snaps table → IsTable number xacts snaps (with_toast table store)

-- Transactions and snapshots, for each table by itself
pub record MomentsKeep : Type 0 where
  pub assigned : (number : ℕ) (xacts : Xacts) (snaps : Snaps) (session : ℕ) (table : Table) → IsRegistryOf xacts snaps → IsTable number xacts snaps table → IsTable number (after_assign xacts session) snaps table
  -- of two running transactions one has touched no version of a key: what each touched lies at its claims, and no place is claimed by two
  pub committed : (number : ℕ) (xacts : Xacts) (snaps : Snaps) (x : ℕ) (table : Table) → is_running xacts x ≡ true → IsRegistryOf xacts snaps
      → ((y : ℕ) (key : ℤ) → is_running xacts y ≡ true → y ≢ x → IsUntouched x table.rows.pages key ⊎ IsUntouched y table.rows.pages key)
      → IsTable number xacts snaps table → IsTable number (after_commit xacts x) snaps table
  pub aborted : (number : ℕ) (xacts : Xacts) (snaps : Snaps) (x : ℕ) (table : Table) → is_running xacts x ≡ true → IsRegistryOf xacts snaps → IsTable number xacts snaps table → IsTable number (after_abort xacts x) snaps table
  pub taken : (number : ℕ) (xacts : Xacts) (snaps : Snaps) (table : Table) → IsTable number xacts snaps table → IsTable number xacts (after_take snaps xacts) table
  pub shared : (number : ℕ) (xacts : Xacts) (snaps : Snaps) (id : ℕ) (table : Table) → IsTable number xacts snaps table → IsTable number xacts (after_share snaps id) table
  pub released : (number : ℕ) (xacts : Xacts) (snaps : Snaps) (id : ℕ) (table : Table) → IsTable number xacts snaps table → IsTable number xacts (after_release snaps id) table
