-- What transactions and snapshots keep of a rewrite, and what its end gives.
-- AreQuiet: while a table is rewritten no transaction that runs has put or ended one of its versions. IsRegistryOf is the core's own fact of its statuses and snapshots.
use Rattle.std.specs.Prelude.{ℕ, ℤ, ◌≡◌, ◌≤◌, true, Some, length, Contains}
use Rattle.slot_page.specs.declared.line.Tid.{Tid}
use Rattle.slot_page.specs.NextItems.{is_before}
use Rattle.slot_page.specs.Pages.{item_in, slot_of}
use Rattle.slot_page.specs.Slots.{IsDead}
use Rattle.external_pointer.specs.declared.external.Pointer.{Pointer}
use Rattle.xact_status.specs.Xacts.{Xacts, is_committed, is_running, after_assign, after_commit, after_abort}
use Rattle.snapshot_registry.specs.Snapshots.{Snaps, is_protected, after_take, after_share, after_release}
use Rattle.snapshot_registry.specs.Laws.{IsRegistryOf}
use Rattle.row_versions.specs.declared.version.Version.{Version}
use Rattle.row_versions.specs.Relations.{Pages}
use Rattle.chunk_relation.specs.declared.chunk.Chunk.{Chunk}
use Rattle.toast_store.specs.Values.{Whole, value_in}
use Rattle.value_holders.specs.Holders.{IsHeld}
use Rattle.table_rows.specs.Worlds.{World, IsWorld, AreOne, counts_in}
use Rattle.table_state.specs.declared.table.Table.{Table}
use Rattle.table_state.specs.Holders.{chunk_stamps, holders_of}
use Rattle.table_state.specs.Rows.{pointers_in}
use Rattle.table_state.specs.Tables.{IsTable, cells_of, row_in}
use Rattle.rewrite_facts.specs.Copies.{IsOldVersion, is_chosen}
use Rattle.rewrite_facts.specs.Chunks.{IsNamed}
use Rattle.rewrite_facts.specs.Holds.{RewriteHolds}
use Rattle.rewrite_facts.specs.Rewrites.{Rewriting, new_table}
use Rattle.rewrite_ends.specs.Quiet.{AreQuiet}
use Rattle.rewrite_ends.specs.Ends.{AreLaid, HasNewVersion, HasOldVersion, IsCopying, IsHad, IsReady}

-- No event makes a version one that is copied which was not, so that each visited version that is chosen now has its copy; and no event makes a transaction run that was over
pub record EventsKeep : Type 0 where
  pub assigned : (xacts : Xacts) (snaps : Snaps) (session : ℕ) (old : Table) (r : Rewriting) → IsRegistryOf xacts snaps → AreQuiet xacts old.rows.pages → RewriteHolds xacts snaps old r → RewriteHolds (after_assign xacts session) snaps old r
  pub committed : (xacts : Xacts) (snaps : Snaps) (x : ℕ) (old : Table) (r : Rewriting) → is_running xacts x ≡ true → IsRegistryOf xacts snaps → AreQuiet xacts old.rows.pages → RewriteHolds xacts snaps old r → RewriteHolds (after_commit xacts x) snaps old r
  pub aborted : (xacts : Xacts) (snaps : Snaps) (x : ℕ) (old : Table) (r : Rewriting) → is_running xacts x ≡ true → IsRegistryOf xacts snaps → AreQuiet xacts old.rows.pages → RewriteHolds xacts snaps old r → RewriteHolds (after_abort xacts x) snaps old r
  pub taken : (xacts : Xacts) (snaps : Snaps) (old : Table) (r : Rewriting) → AreQuiet xacts old.rows.pages → RewriteHolds xacts snaps old r → RewriteHolds xacts (after_take snaps xacts) old r
  pub shared : (xacts : Xacts) (snaps : Snaps) (id : ℕ) (old : Table) (r : Rewriting) → AreQuiet xacts old.rows.pages → RewriteHolds xacts snaps old r → RewriteHolds xacts (after_share snaps id) old r
  pub released : (xacts : Xacts) (snaps : Snaps) (id : ℕ) (old : Table) (r : Rewriting) → AreQuiet xacts old.rows.pages → RewriteHolds xacts snaps old r → RewriteHolds xacts (after_release snaps id) old r
  -- the versions stay quiet; the snapshots are no part of that
  pub quiet_assigned : (xacts : Xacts) (session : ℕ) (pages : Pages) → AreQuiet xacts pages → AreQuiet (after_assign xacts session) pages
  pub quiet_committed : (xacts : Xacts) (x : ℕ) (pages : Pages) → is_running xacts x ≡ true → AreQuiet xacts pages → AreQuiet (after_commit xacts x) pages
  pub quiet_aborted : (xacts : Xacts) (x : ℕ) (pages : Pages) → is_running xacts x ≡ true → AreQuiet xacts pages → AreQuiet (after_abort xacts x) pages

-- While a rewrite runs each visited version that must be kept has its copy, whose values are whole in the new table, and those of the version that is being copied are whole in the old one
pub record CopiesAreWhole : Type 0 where
  pub copied : (xacts : Xacts) (snaps : Snaps) (old : Table) (r : Rewriting) (tid : Tid) (version : Version) → length old.rows.schema.storages ≤ 8 → AreQuiet xacts old.rows.pages → RewriteHolds xacts snaps old r
      → item_in old.rows.pages tid ≡ Some version → is_before tid r.place ≡ true → is_protected xacts snaps version.inserter version.ender ≡ true → HasNewVersion old (new_table r) version
  pub whole : (xacts : Xacts) (snaps : Snaps) (old : Table) (r : Rewriting) (tid : Tid) (version : Version) (pointer : Pointer) → length old.rows.schema.storages ≤ 8 → RewriteHolds xacts snaps old r
      → item_in r.rows.pages tid ≡ Some version → Contains (pointers_in (cells_of (new_table r) version)) pointer → Whole r.toast pointer (value_in r.toast pointer)
  pub under_way : (xacts : Xacts) (snaps : Snaps) (old : Table) (r : Rewriting) → RewriteHolds xacts snaps old r → IsCopying r.stage → (version : Version) × IsOldVersion old r.place version

-- At the end the new versions are copies of old ones, and each old version that is chosen then has one. A copy may be of one that is no more chosen then, but who put it has committed, at the end as before
pub record CopiesAreTheChosen : Type 0 where
  pub laid : (xacts : Xacts) (snaps : Snaps) (old : Table) (r : Rewriting) → IsReady xacts snaps old r → AreLaid old r
  pub copied : (xacts : Xacts) (snaps : Snaps) (old : Table) (r : Rewriting) (tid : Tid) (version : Version) → IsReady xacts snaps old r → item_in r.rows.pages tid ≡ Some version → HasOldVersion old (new_table r) version
  pub chosen : (xacts : Xacts) (snaps : Snaps) (old : Table) (r : Rewriting) (tid : Tid) (version : Version) → IsReady xacts snaps old r → item_in old.rows.pages tid ≡ Some version → is_chosen xacts snaps version ≡ true → HasNewVersion old (new_table r) version
  pub inserted : (xacts : Xacts) (snaps : Snaps) (old : Table) (r : Rewriting) (tid : Tid) (version : Version) → RewriteHolds xacts snaps old r → item_in r.rows.pages tid ≡ Some version → is_committed xacts version.inserter ≡ true

-- Every world has the same row at each key in both tables, and in the new one too no two versions of it. AreOne: a fact of the old table
pub record WorldsSame : Type 0 where
  pub row : (xacts : Xacts) (snaps : Snaps) (old : Table) (r : Rewriting) (world : World) (key : ℤ) → IsWorld xacts world → AreQuiet xacts old.rows.pages → AreOne xacts snaps old.rows.pages → IsReady xacts snaps old r
      → row_in (new_table r) (counts_in xacts snaps world) key ≡ row_in old (counts_in xacts snaps world) key
  pub one_version : (xacts : Xacts) (snaps : Snaps) (old : Table) (r : Rewriting) → AreOne xacts snaps old.rows.pages → RewriteHolds xacts snaps old r → AreOne xacts snaps r.rows.pages

-- The chunks of each new value outlast all for whom a version holds it, once the rewrite's transaction, which has put them, has committed. IsTable: of two old versions that are there at most one had a kept value
pub record ValuesHeld : Type 0 where
  pub held : (number : ℕ) (xacts : Xacts) (snaps : Snaps) (old : Table) (r : Rewriting) (value_id : ℕ) → is_committed xacts r.xid ≡ true → AreQuiet xacts old.rows.pages → IsTable number xacts snaps old → IsReady xacts snaps old r
      → IsHeld xacts snaps (holders_of r.rows.schema.storages r.rows.pages value_id) (chunk_stamps r.toast value_id)

-- The new relations are a table once the rewrite's transaction has committed, and so at its commit
pub record TableAtEnd : Type 0 where
  pub at_end : (number : ℕ) (xacts : Xacts) (snaps : Snaps) (old : Table) (r : Rewriting) → is_committed xacts r.xid ≡ true → AreQuiet xacts old.rows.pages → IsTable number xacts snaps old → IsReady xacts snaps old r → IsTable number xacts snaps (new_table r)
  pub at_commit : (number : ℕ) (xacts : Xacts) (snaps : Snaps) (old : Table) (r : Rewriting) → is_running xacts r.xid ≡ true → IsRegistryOf xacts snaps → AreQuiet xacts old.rows.pages → IsTable number xacts snaps old → IsReady xacts snaps old r
      → IsTable number (after_commit xacts r.xid) snaps (new_table r)

-- Nothing else is in the new relations: each chunk is of a value that some version has, and the index names it; and no slot of the rows or of the chunks is dead
pub record NothingIsSpare : Type 0 where
  pub chunk : (xacts : Xacts) (snaps : Snaps) (old : Table) (r : Rewriting) (tid : Tid) (chunk : Chunk) → IsReady xacts snaps old r → item_in r.toast.rel.pages tid ≡ Some chunk → IsHad (new_table r) chunk.value_id
  pub named : (xacts : Xacts) (snaps : Snaps) (old : Table) (r : Rewriting) (tid : Tid) (chunk : Chunk) → IsReady xacts snaps old r → item_in r.toast.rel.pages tid ≡ Some chunk → IsNamed r.toast.index.entries tid
  pub row : (xacts : Xacts) (snaps : Snaps) (old : Table) (r : Rewriting) (tid : Tid) → RewriteHolds xacts snaps old r → IsDead (slot_of r.rows.pages tid) → ⊥
  pub slot : (xacts : Xacts) (snaps : Snaps) (old : Table) (r : Rewriting) (tid : Tid) → RewriteHolds xacts snaps old r → IsDead (slot_of r.toast.rel.pages tid) → ⊥
