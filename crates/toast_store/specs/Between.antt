-- What others may do to a store between two steps of a job, each as the store before and after it.
use Rattle.std.specs.Prelude.{ℕ, ◌≡◌, true, false, None, List, Contains, ⊤}
use Rattle.slot_page.specs.declared.line.Tid.{Tid}
use Rattle.slot_page.specs.declared.line.LinePointer.TheVariants.{Unused}
use Rattle.slot_page.specs.Slots.{IsDead}
use Rattle.slot_page.specs.Pages.{slot_of, item_in, with_put_on, written}
use Rattle.xact_status.specs.Xacts.{Xacts}
use Rattle.chunk_relation.specs.declared.chunk.Chunk.{Chunk}
use Rattle.chunk_relation.specs.Chunks.{is_dead_chunk}
use Rattle.chunk_relation.specs.Relations.{with_ended, with_pruned}
use Rattle.chunk_index.specs.declared.entry.Entry.{Entry}
use Rattle.slot_page.specs.Tids.{is_listed}
use Rattle.chunk_index.specs.Entries.{with_entry}
use Rattle.chunk_index.specs.Leaves.{Leaf}
use Rattle.chunk_index.specs.Indexes.{unswept}
use Rattle.toast_store.specs.declared.piece_job.PieceStage.{PieceStage}
use Rattle.toast_store.specs.declared.piece_job.PieceStage.TheVariants.{Putting, Indexing, Over}
use Rattle.toast_store.specs.Stores.{Store, Names, IsUnnamed, NamesChunk, chunks_of, named_by}
use Rattle.toast_store.specs.Walks.{Walking, ahead, batch_left}
use Rattle.toast_store.specs.Saves.{Stage, Drawing, Laying}

-- the value with an id is as it was: the same chunks under it
abbrev pub LeavesValue : ℕ → Store → Store → Type 0
LeavesValue value_id old new = chunks_of new value_id ≡ chunks_of old value_id

-- a chunk that no entry names is as it was, and still none names it
pub record LeavesUnnamed (tid : Tid) (old new : Store) : Type 0 where
  pub chunk : item_in new.rel.pages tid ≡ item_in old.rel.pages tid
  pub unnamed : IsUnnamed old.index.entries tid → IsUnnamed new.index.entries tid

-- what a job of pieces relies on is as it was
abbrev pub LeavesPieces : ℕ → Store → Store → PieceStage → Type 0
LeavesPieces value_id old new (Putting seq) = LeavesValue value_id old new
LeavesPieces value_id old new (Indexing seq tid) = LeavesValue value_id old new × LeavesUnnamed tid old new
LeavesPieces value_id old new Over = LeavesValue value_id old new

-- what a save relies on is as it was
abbrev pub LeavesSave : Store → Store → Stage → Type 0
LeavesSave old new Drawing = ⊤
LeavesSave old new (Laying value_id at) = LeavesPieces value_id old new at

-- a chunk is put, of whatever value
pub record Puts (old new : Store) (size : ℕ) (chunk : Chunk) : Type 0 where
  pub pages : new.rel.pages ≡ with_put_on size chunk old.rel.pages
  pub entries : new.index.entries ≡ old.index.entries

-- an entry is added that names a chunk of its id and number
pub record Adds (old new : Store) (e : Entry) : Type 0 where
  pub names : NamesChunk old.rel.pages e
  pub pages : new.rel.pages ≡ old.rel.pages
  pub entries : new.index.entries ≡ with_entry old.index.entries e

-- a chunk is ended
pub record Ends (old new : Store) (tid : Tid) (xid : ℕ) : Type 0 where
  pub pages : new.rel.pages ≡ with_ended xid old.rel.pages tid
  pub entries : new.index.entries ≡ old.index.entries

-- a page is pruned under a horizon
pub record Prunes (old new : Store) (xacts : Xacts) (horizon page : ℕ) : Type 0 where
  pub pages : new.rel.pages ≡ with_pruned xacts horizon old.rel.pages page
  pub entries : new.index.entries ≡ old.index.entries

-- a leaf is swept of the entries of listed slots, each of which has no chunk
pub record Sweeps (old new : Store) (leaf : Leaf) (dead : List Tid) : Type 0 where
  pub gone : (tid : Tid) → is_listed dead tid ≡ true → item_in old.rel.pages tid ≡ None
  pub pages : new.rel.pages ≡ old.rel.pages
  pub entries : new.index.entries ≡ unswept old.index.bounds leaf dead old.index.entries

-- a dead slot is freed
pub record Reaps (old new : Store) (tid : Tid) : Type 0 where
  pub dead : IsDead (slot_of old.rel.pages tid)
  pub pages : new.rel.pages ≡ written old.rel.pages tid Unused
  pub entries : new.index.entries ≡ old.index.entries

-- a batch is asked for, or a pin dropped
pub record Pins (old new : Store) : Type 0 where
  pub pages : new.rel.pages ≡ old.rel.pages
  pub entries : new.index.entries ≡ old.index.entries

-- no chunk of a value is dead under a horizon
pub record IsSpared (store : Store) (value_id : ℕ) (xacts : Xacts) (horizon : ℕ) : Type 0 where
  pub each : (chunk : Chunk) → Contains (chunks_of store value_id) chunk → is_dead_chunk xacts horizon chunk ≡ false

-- each entry of its batch that a walk has still to take names a chunk of its id and number or a dead slot
pub record IsBatchNamed (store : Store) (walk : Walking) : Type 0 where
  pub each : (e : Entry) → Contains (batch_left walk.stage) e → Names e (slot_of store.rel.pages e.tid)

-- the chunks that a walk still comes to are as they were
abbrev pub LeavesAhead : Walking → Store → Store → Type 0
LeavesAhead walk old new = named_by new.rel.pages (ahead new.index.entries walk) ≡ named_by old.rel.pages (ahead old.index.entries walk)

-- none of them is dead under a horizon
pub record IsAheadSpared (store : Store) (walk : Walking) (xacts : Xacts) (horizon : ℕ) : Type 0 where
  pub each : (chunk : Chunk) → Contains (named_by store.rel.pages (ahead store.index.entries walk)) chunk → is_dead_chunk xacts horizon chunk ≡ false
