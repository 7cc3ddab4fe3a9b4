-- What holds of a relation, of what names its slots, and of the batches of its readers, while a vacuum of it is under way.
use Rattle.std.specs.Prelude.{ℕ, ◌≡◌, ◌<◌, ◌≤◌, ◌⊎◌, true, false, Option, Some, None, List, [], Contains, drop, length, ⊤}
use Rattle.std.specs.List.Sorted.{IsStrictlySortedBy}
use Rattle.slot_page.specs.declared.line.Tid.{Tid}
use Rattle.slot_page.specs.declared.line.LinePointer.{LinePointer}
use Rattle.slot_page.specs.Slots.{IsDead}
use Rattle.slot_page.specs.Pages.{slot_of, item_in}
use Rattle.slot_page.specs.Tids.{tid_cmp}
use Rattle.xact_status.specs.declared.Stamp.{Stamp}
use Rattle.xact_status.specs.Versions.{is_dead}
use Rattle.xact_status.specs.Xacts.{Xacts, is_aborted, is_committed, is_running, next_xid}
use Rattle.chunk_relation.specs.Chunks.{chunk_stamp}
use Rattle.chunk_index.specs.declared.entry.Entry.{Entry}
use Rattle.chunk_index.specs.Leaves.{Leaf, is_at_most, is_from}
use Rattle.chunk_index.specs.Pinned.{IsPinnedFrom, pin_of}
use Rattle.chunk_index.specs.Indexes.{IsLeaf}
use Rattle.toast_store.specs.Stores.{Store}
use Rattle.toast_store.specs.Walks.{Walking, IsBatchHeld, batch_left}
use Rattle.row_versions.specs.declared.keys.KeyEntry.{KeyEntry}
use Rattle.row_versions.specs.Versions.{version_stamp}
use Rattle.row_versions.specs.Relations.{Relation}
use Rattle.toast_vacuum.specs.declared.stage.Stage.{Stage}
use Rattle.toast_vacuum.specs.declared.stage.Stage.TheVariants.{Pruning, Sweeping, Reaping, Ended}
use Rattle.toast_vacuum.specs.Vacuums.{Vacuuming}

-- the gathered slots that are not yet freed
abbrev pub waiting_at : List Tid → Stage → List Tid
waiting_at gathered (Pruning page) = gathered
waiting_at gathered (Sweeping from) = gathered
waiting_at gathered (Reaping page at) = drop at gathered
waiting_at gathered Ended = []

abbrev pub waiting : Vacuuming → List Tid
waiting v = waiting_at v.gathered v.stage

-- of so many pages, how many the first round has made, and how many the last one
abbrev pub made : ℕ → Stage → ℕ
made pages (Pruning page) = page
made pages (Sweeping from) = pages
made pages (Reaping page at) = pages
made pages Ended = pages

abbrev pub freed : Stage → ℕ
freed (Pruning page) = 0
freed (Sweeping from) = 0
freed (Reaping page at) = page
freed Ended = 0

-- a page that is next is one of the vacuum's
abbrev pub IsPlace : ℕ → Stage → Type 0
IsPlace pages (Pruning page) = page < pages
IsPlace pages (Sweeping from) = 0 < pages
IsPlace pages (Reaping page at) = page < pages
IsPlace pages Ended = ⊤

-- a slot lies on a page that the first round has still to make
pub record IsToMake (v : Vacuuming) (t : Tid) : Type 0 where
  pub unmade : made v.pages v.stage ≤ t.page
  pub there : t.page < v.pages

-- no aborted inserter below a horizon, and no committed ender below it
pub record IsSpared (xacts : Xacts) (horizon : ℕ) (stamp : Stamp) : Type 0 where
  pub inserted : is_aborted xacts stamp.inserter ≡ true → horizon ≤ stamp.inserter
  pub ended : (xid : ℕ) → stamp.ender ≡ Some xid → is_committed xacts xid ≡ true → horizon ≤ xid

-- a horizon is at most each xid that runs or is still to be given
pub record IsHorizon (xacts : Xacts) (horizon : ℕ) : Type 0 where
  pub running : (xid : ℕ) → is_running xacts xid ≡ true → horizon ≤ xid
  pub next : horizon ≤ next_xid xacts

-- what holds of the pages, whatever their items
pub record PagesHold {T : Type 0} (stamp_of : T → Stamp) (xacts : Xacts) (pages : List (List (LinePointer T))) (v : Vacuuming) : Type 0 where
  -- the vacuum's pages are there, and it stands at one of them
  pub within : v.pages ≤ length pages
  pub place : IsPlace v.pages v.stage
  -- the gathered slots are in order, each on a page that is made; those that wait to be freed lie on no page of the last round that is made
  pub ascending : IsStrictlySortedBy tid_cmp v.gathered
  pub gathered_made : (t : Tid) → Contains v.gathered t → t.page < made v.pages v.stage
  pub from_freed : (t : Tid) → Contains (waiting v) t → freed v.stage ≤ t.page
  -- they are dead, and each dead slot is one of them or lies on a page that the first round has still to make
  pub dead : (t : Tid) → Contains (waiting v) t → IsDead (slot_of pages t)
  pub each_dead : (t : Tid) → IsDead (slot_of pages t) → IsToMake v t ⊎ Contains (waiting v) t
  -- on each other page, also on one that has come since, no item has an aborted inserter or a committed ender below the horizon
  pub spared : (t : Tid) (item : T) → item_in pages t ≡ Some item → IsToMake v t ⊎ IsSpared xacts v.horizon (stamp_of item)

-- an entry may still name a slot that waits
abbrev pub IsUnswept : Stage → Entry → Type 0
IsUnswept (Pruning page) e = ⊤
IsUnswept (Sweeping from) e = is_from from e ≡ true
IsUnswept (Reaping page at) e = ⊥
IsUnswept Ended e = ⊥

-- the cursor is a leaf
abbrev pub IsCursor : List Entry → Stage → Type 0
IsCursor bounds (Pruning page) = ⊤
IsCursor bounds (Sweeping from) = IsLeaf bounds from
IsCursor bounds (Reaping page at) = ⊤
IsCursor bounds Ended = ⊤

-- no entry before the cursor names a slot that waits, and after the sweep none does
pub record SweepHolds (entries bounds : List Entry) (v : Vacuuming) : Type 0 where
  pub swept : (e : Entry) → Contains entries e → Contains (waiting v) e.tid → IsUnswept v.stage e
  pub cursor : IsCursor bounds v.stage

-- what holds of a store and a vacuum of it
pub record VacuumHolds (xacts : Xacts) (store : Store) (v : Vacuuming) : Type 0 where
  pub pages : PagesHold chunk_stamp xacts store.rel.pages v
  pub sweep : SweepHolds store.index.entries store.index.bounds v
  pub horizon : IsHorizon xacts v.horizon

-- the key map may still name a slot that waits: until the one step of its sweep
abbrev pub IsIndexed : Stage → Type 0
IsIndexed (Pruning page) = ⊤
IsIndexed (Sweeping from) = ⊤
IsIndexed (Reaping page at) = ⊥
IsIndexed Ended = ⊥

-- what holds of a relation of rows and a vacuum of it
pub record RowVacuumHolds (xacts : Xacts) (rel : Relation) (v : Vacuuming) : Type 0 where
  pub pages : PagesHold version_stamp xacts rel.pages v
  pub swept : (e : KeyEntry) → Contains rel.entries e → Contains (waiting v) e.tid → IsIndexed v.stage
  pub horizon : IsHorizon xacts v.horizon

-- a sweep has not passed the leaf that a session has pinned
abbrev pub IsUnpassed : Stage → Option Leaf → Type 0
IsUnpassed (Pruning page) pin = ⊤
IsUnpassed (Sweeping from) None = ⊥
IsUnpassed (Sweeping from) (Some leaf) = is_at_most from leaf ≡ true
IsUnpassed (Reaping page at) pin = ⊤
IsUnpassed Ended pin = ⊤

-- what holds of a session's batch in a store, by where the vacuum of the store stands; where none is under way it stands at its end
pub record BatchHolds (store : Store) (walk : Walking) (stage : Stage) : Type 0 where
  -- each entry still to be taken is of the walk's value and stands in the index
  pub held : IsBatchHeld store.index.entries walk
  -- the session has a leaf pinned that begins at or before it
  pub pinned : (e : Entry) → Contains (batch_left walk.stage) e → IsPinnedFrom (pin_of store.index.pins walk.session) e
  -- where its slot is dead, the sweep has not passed that leaf
  pub unpassed : (e : Entry) → Contains (batch_left walk.stage) e → IsDead (slot_of store.rel.pages e.tid) → IsUnpassed stage (pin_of store.index.pins walk.session)

-- transactions that had aborted or committed have done so still
pub record IsLater (first xacts : Xacts) : Type 0 where
  pub aborted : (xid : ℕ) → is_aborted first xid ≡ true → is_aborted xacts xid ≡ true
  pub committed : (xid : ℕ) → is_committed first xid ≡ true → is_committed xacts xid ≡ true

-- no item is left on a page that is made that was dead under the horizon by how the transactions stood at the start
pub record StartHolds {T : Type 0} (stamp_of : T → Stamp) (first : Xacts) (pages : List (List (LinePointer T))) (v : Vacuuming) : Type 0 where
  pub gone : (t : Tid) (item : T) → item_in pages t ≡ Some item → IsToMake v t ⊎ (is_dead first v.horizon (stamp_of item).inserter (stamp_of item).ender ≡ false)
