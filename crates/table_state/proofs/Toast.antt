-- The facts of a table through each change of its values out of line.
use Rattle.std.proofs.Common.{ℕ, ◌≡◌, ◌≢◌, ◌≤◌, ◌⊎◌, inl, inr, true, List, Option, Some, None, Contains, map, refl, sym, subst, ◌∙◌}
use Rattle.std.proofs.lemmas.Bool.{cases_eq}
use Rattle.std.proofs.lemmas.Option.{none-some, same_Some}
use Rattle.slot_page.specs.declared.line.Tid.{Tid}
use Rattle.slot_page.specs.Pages.{item_in}
use Rattle.external_pointer.specs.declared.external.Pointer.{Pointer}
use Rattle.xact_status.specs.Xacts.{Xacts, is_running}
use Rattle.xact_status.proofs.Places.{assigned_from_running}
use Rattle.snapshot_registry.specs.Snapshots.{Snaps, is_protected, horizon}
use Rattle.snapshot_registry.specs.Laws.{IsRegistryOf}
use Rattle.row_versions.specs.declared.version.Version.{Version}
use Rattle.chunk_relation.specs.declared.chunk.Chunk.{Chunk}
use Rattle.chunk_relation.specs.Chunks.{chunk_stamp, IsChunkAssigned}
use Rattle.chunk_relation.specs.Relations.{AreAssigned}
use Rattle.chunk_relation.proofs.Events.{assigned_put, assigned_ended, assigned_pruned, assigned_reaped}
use Rattle.chunk_index.specs.declared.entry.Entry.{Entry}
use Rattle.chunk_index.specs.Leaves.{Leaf}
use Rattle.toast_store.specs.Stores.{Store, IsStore}
use Rattle.toast_store.specs.Values.{Whole}
use Rattle.toast_store.specs.Between.{LeavesValue, Puts, Adds, Ends, Prunes, Sweeps, Reaps, Pins}
use Rattle.toast_store.proofs.Kept.{whole_kept, put_leaves, add_leaves, end_leaves, end_keeps_whole, prune_leaves, sweep_leaves, reap_leaves, pin_leaves}
use Rattle.value_holders.specs.Holders.{Holders, IsHeld, Protects, AreEnded}
use Rattle.value_holders.specs.Laws.{StepsKeepHeld}
use Rattle.value_holders.proofs.Steps.{steps_keep_held}
use Rattle.table_rows.specs.Steps.{stamp_of}
use Rattle.table_state.specs.declared.table.Table.{Table}
use Rattle.table_state.specs.Cells.{cells_in}
use Rattle.toast_store.specs.Values.{value_in}
use Rattle.table_state.specs.Rows.{pointers_in, has_id}
use Rattle.table_state.specs.Holders.{holders_of, chunk_stamps}
use Rattle.table_state.specs.Tables.{IsTable, cells_of}
use Rattle.table_state.specs.Events.{with_toast, IsUnheld}
use Rattle.table_state.proofs.Ids.{id_from}
use Rattle.table_state.proofs.Places.{holder_from}
use Rattle.table_state.proofs.Chunks.{may_end, among_pruned, spared}
use Rattle.toast_store.proofs.ValueIn.{value_whole}

held_steps : StepsKeepHeld Tid
held_steps = steps_keep_held

-- ---- a value

-- a value that is whole has its bytes, whatever they were said to be
whole_read : (store : Store) (pointer : Pointer) (value : List ℕ) → Whole store pointer value → Whole store pointer (value_in store pointer)
whole_read store pointer value whole = subst (λ v. Whole store pointer v) (sym (value_whole store pointer value whole)) whole

whole_left : (old new : Store) (pointer : Pointer) → LeavesValue pointer.value_id old new → Whole old pointer (value_in old pointer) → Whole new pointer (value_in new pointer)
whole_left old new pointer left whole = whole_read new pointer (value_in old pointer) (whole_kept old new pointer (value_in old pointer) left whole)

held_left : (xacts : Xacts) (snaps : Snaps) (holders : Holders Tid) (old new : Store) (value_id : ℕ) → LeavesValue value_id old new → IsHeld xacts snaps holders (chunk_stamps old value_id) → IsHeld xacts snaps holders (chunk_stamps new value_id)
held_left xacts snaps holders old new value_id left held = subst (λ (chunks : List Chunk). IsHeld xacts snaps holders (map chunk_stamp chunks)) (sym left) held

-- a protected version with a pointer is a protected holder of its id
pub protects : (xacts : Xacts) (snaps : Snaps) (table : Table) (tid : Tid) (version : Version) (pointer : Pointer) → item_in table.rows.pages tid ≡ Some version → is_protected xacts snaps version.inserter version.ender ≡ true → Contains (pointers_in (cells_of table version)) pointer
    → Protects xacts snaps (holders_of table.rows.schema.storages table.rows.pages pointer.value_id) tid (stamp_of version)
protects xacts snaps table tid version pointer at protected has = record {
  there = holder_from (λ tuple. has_id pointer.value_id (cells_in table.rows.schema.storages tuple)) table.rows.pages tid version at (id_from pointer.value_id (cells_of table version) pointer refl has);
  protected = protected;
}

-- ---- the table with another store

keeps_toast : (number : ℕ) (xacts : Xacts) (snaps : Snaps) (table : Table) (store : Store) → store.rel.rel_id ≡ table.toast.rel.rel_id
    → ((tid : Tid) (version : Version) (pointer : Pointer) → Protects xacts snaps (holders_of table.rows.schema.storages table.rows.pages pointer.value_id) tid (stamp_of version) → Whole table.toast pointer (value_in table.toast pointer) → Whole store pointer (value_in store pointer))
    → ((value_id : ℕ) → IsHeld xacts snaps (holders_of table.rows.schema.storages table.rows.pages value_id) (chunk_stamps store value_id)) → AreAssigned xacts store.rel.pages
    → IsTable number xacts snaps table → IsTable number xacts snaps (with_toast table store)
keeps_toast number xacts snaps table store same whole held assigned is = record {
  relation = same ∙ is.relation;
  tuples = is.tuples;
  whole = λ tid version pointer at protected has. whole tid version pointer (protects xacts snaps table tid version pointer at protected has) (is.whole tid version pointer at protected has);
  one = is.one;
  held = held;
  sound = is.sound;
  given = is.given;
  assigned = assigned;
}

-- one in which each value is as it was
leaves_all : (number : ℕ) (xacts : Xacts) (snaps : Snaps) (table : Table) (store : Store) → store.rel.rel_id ≡ table.toast.rel.rel_id → ((value_id : ℕ) → LeavesValue value_id table.toast store) → AreAssigned xacts store.rel.pages
    → IsTable number xacts snaps table → IsTable number xacts snaps (with_toast table store)
leaves_all number xacts snaps table store same left assigned is = keeps_toast number xacts snaps table store same
    (λ tid version pointer at whole. whole_left table.toast store pointer (left pointer.value_id) whole)
    (λ value_id. held_left xacts snaps (holders_of table.rows.schema.storages table.rows.pages value_id) table.toast store value_id (left value_id) (is.held value_id)) assigned is

pub chunk_put : (number : ℕ) (xacts : Xacts) (snaps : Snaps) (table : Table) (store : Store) (size : ℕ) (chunk : Chunk) → IsStore table.toast → store.rel.rel_id ≡ table.toast.rel.rel_id → IsChunkAssigned xacts chunk → Puts table.toast store size chunk
    → IsTable number xacts snaps table → IsTable number xacts snaps (with_toast table store)
chunk_put number xacts snaps table store size chunk sound same given puts is = leaves_all number xacts snaps table store same (λ value_id. put_leaves table.toast store size chunk value_id sound puts) (subst (λ pages. AreAssigned xacts pages) (sym puts.pages) (assigned_put xacts size chunk table.toast.rel.pages is.assigned given)) is

pub pinned : (number : ℕ) (xacts : Xacts) (snaps : Snaps) (table : Table) (store : Store) → store.rel.rel_id ≡ table.toast.rel.rel_id → Pins table.toast store
    → IsTable number xacts snaps table → IsTable number xacts snaps (with_toast table store)
pinned number xacts snaps table store same pins is = leaves_all number xacts snaps table store same (λ value_id. pin_leaves table.toast store value_id pins) (subst (λ pages. AreAssigned xacts pages) (sym pins.pages) is.assigned) is

pub swept : (number : ℕ) (xacts : Xacts) (snaps : Snaps) (table : Table) (store : Store) (leaf : Leaf) (dead : List Tid) → store.rel.rel_id ≡ table.toast.rel.rel_id → Sweeps table.toast store leaf dead
    → IsTable number xacts snaps table → IsTable number xacts snaps (with_toast table store)
swept number xacts snaps table store leaf dead same sweeps is = leaves_all number xacts snaps table store same (λ value_id. sweep_leaves table.toast store leaf dead value_id sweeps) (subst (λ pages. AreAssigned xacts pages) (sym sweeps.pages) is.assigned) is

pub chunk_reaped : (number : ℕ) (xacts : Xacts) (snaps : Snaps) (table : Table) (store : Store) (tid : Tid) → store.rel.rel_id ≡ table.toast.rel.rel_id → Reaps table.toast store tid
    → IsTable number xacts snaps table → IsTable number xacts snaps (with_toast table store)
chunk_reaped number xacts snaps table store tid same reaps is = leaves_all number xacts snaps table store same (λ value_id. reap_leaves table.toast store tid value_id reaps) (subst (λ pages. AreAssigned xacts pages) (sym reaps.pages) (assigned_reaped xacts table.toast.rel.pages tid is.assigned)) is

-- ---- a value that nobody holds gets a chunk more

pub entry_added : (number : ℕ) (xacts : Xacts) (snaps : Snaps) (table : Table) (store : Store) (e : Entry) → store.rel.rel_id ≡ table.toast.rel.rel_id → IsUnheld xacts snaps table e.value_id → Adds table.toast store e
    → IsTable number xacts snaps table → IsTable number xacts snaps (with_toast table store)
entry_added number xacts snaps table store e same unheld adds is = keeps_toast number xacts snaps table store same (λ tid version pointer at whole. by_id tid version pointer at whole (cases_eq e.value_id pointer.value_id)) (λ value_id. held value_id (cases_eq e.value_id value_id)) (subst (λ pages. AreAssigned xacts pages) (sym adds.pages) is.assigned) is
  where
    by_id : (tid : Tid) (version : Version) (pointer : Pointer) → Protects xacts snaps (holders_of table.rows.schema.storages table.rows.pages pointer.value_id) tid (stamp_of version) → Whole table.toast pointer (value_in table.toast pointer) → (e.value_id ≡ pointer.value_id) ⊎ (e.value_id ≢ pointer.value_id) → Whole store pointer (value_in store pointer)
    by_id tid version pointer at whole (inl its) = absurd (unheld.none tid (stamp_of version) (subst (λ v. Protects xacts snaps (holders_of table.rows.schema.storages table.rows.pages v) tid (stamp_of version)) (sym its) at))
    by_id tid version pointer at whole (inr other) = whole_left table.toast store pointer (add_leaves table.toast store e pointer.value_id adds other) whole

    held : (value_id : ℕ) → (e.value_id ≡ value_id) ⊎ (e.value_id ≢ value_id) → IsHeld xacts snaps (holders_of table.rows.schema.storages table.rows.pages value_id) (chunk_stamps store value_id)
    held value_id (inl its) = held_steps.unheld xacts snaps (holders_of table.rows.schema.storages table.rows.pages value_id) (chunk_stamps store value_id) (IsHeld.sound (is.held value_id)) (λ tid stamp at. unheld.none tid stamp (subst (λ v. Protects xacts snaps (holders_of table.rows.schema.storages table.rows.pages v) tid stamp) (sym its) at))
    held value_id (inr other) = held_left xacts snaps (holders_of table.rows.schema.storages table.rows.pages value_id) table.toast store value_id (add_leaves table.toast store e value_id adds other) (is.held value_id)

-- ---- a chunk of a value that all have ended is ended

pub chunk_ended : (number : ℕ) (xacts : Xacts) (snaps : Snaps) (table : Table) (store : Store) (tid : Tid) (x : ℕ) → IsStore table.toast → store.rel.rel_id ≡ table.toast.rel.rel_id → is_running xacts x ≡ true
    → ((chunk : Chunk) → item_in table.toast.rel.pages tid ≡ Some chunk → AreEnded xacts snaps (holders_of table.rows.schema.storages table.rows.pages chunk.value_id) x) → Ends table.toast store tid x
    → IsTable number xacts snaps table → IsTable number xacts snaps (with_toast table store)
chunk_ended number xacts snaps table store tid x sound same runs all_ended ends is = keeps_toast number xacts snaps table store same
    (λ at version pointer protected whole. whole_read store pointer (value_in table.toast pointer) (end_keeps_whole table.toast store tid x pointer (value_in table.toast pointer) ends whole))
    (λ value_id. held value_id (item_in table.toast.rel.pages tid) refl)
    (subst (λ pages. AreAssigned xacts pages) (sym ends.pages) (assigned_ended xacts x table.toast.rel.pages tid is.assigned (assigned_from_running xacts x runs))) is
  where
    by_id : (value_id : ℕ) (chunk : Chunk) → item_in table.toast.rel.pages tid ≡ Some chunk → (chunk.value_id ≡ value_id) ⊎ (chunk.value_id ≢ value_id) → IsHeld xacts snaps (holders_of table.rows.schema.storages table.rows.pages value_id) (chunk_stamps store value_id)
    by_id value_id chunk at (inl its) = held_steps.marked xacts snaps (holders_of table.rows.schema.storages table.rows.pages value_id) (chunk_stamps table.toast value_id) (chunk_stamps store value_id) x runs (subst (λ v. AreEnded xacts snaps (holders_of table.rows.schema.storages table.rows.pages v) x) its (all_ended chunk at)) (may_end table.toast store tid x value_id ends) (is.held value_id)
    by_id value_id chunk at (inr other) = held_left xacts snaps (holders_of table.rows.schema.storages table.rows.pages value_id) table.toast store value_id (end_leaves table.toast store tid x value_id sound ends (λ c there. subst (λ (d : Chunk). d.value_id ≢ value_id) (same_Some _ _ (sym at ∙ there)) other)) (is.held value_id)

    held : (value_id : ℕ) (o : Option Chunk) → item_in table.toast.rel.pages tid ≡ o → IsHeld xacts snaps (holders_of table.rows.schema.storages table.rows.pages value_id) (chunk_stamps store value_id)
    held value_id None at = held_left xacts snaps (holders_of table.rows.schema.storages table.rows.pages value_id) table.toast store value_id (end_leaves table.toast store tid x value_id sound ends (λ c there. absurd (none-some c (sym at ∙ there)))) (is.held value_id)
    held value_id (Some chunk) at = by_id value_id chunk at (cases_eq chunk.value_id value_id)

-- ---- a page of chunks is pruned

pub chunks_pruned : (number : ℕ) (xacts : Xacts) (snaps : Snaps) (table : Table) (store : Store) (bound page : ℕ) → IsRegistryOf xacts snaps → bound ≤ horizon xacts snaps → store.rel.rel_id ≡ table.toast.rel.rel_id → Prunes table.toast store xacts bound page
    → IsTable number xacts snaps table → IsTable number xacts snaps (with_toast table store)
chunks_pruned number xacts snaps table store bound page registry le same prunes is = keeps_toast number xacts snaps table store same
    (λ tid version pointer at whole. whole_left table.toast store pointer (prune_leaves table.toast store xacts bound page pointer.value_id prunes (spared xacts snaps bound table.toast pointer.value_id (holders_of table.rows.schema.storages table.rows.pages pointer.value_id) tid (stamp_of version) registry le (is.held pointer.value_id) at)) whole)
    (λ value_id. held_steps.pruned xacts snaps (holders_of table.rows.schema.storages table.rows.pages value_id) (holders_of table.rows.schema.storages table.rows.pages value_id) (chunk_stamps table.toast value_id) (chunk_stamps store value_id) (record { each = λ place stamp at. at }) (among_pruned table.toast store xacts bound page value_id prunes) (is.held value_id))
    (subst (λ pages. AreAssigned xacts pages) (sym prunes.pages) (assigned_pruned xacts bound table.toast.rel.pages page is.assigned)) is
