-- What is true of each chunk that a rewrite has put, and of the pointers to the new values.
use Rattle.std.specs.Prelude.{ℕ, ◌≡◌, ◌⊎◌, false, Option, Some, None, List, [], Contains, slice_get}
use Rattle.slot_page.specs.declared.line.Tid.{Tid}
use Rattle.slot_page.specs.Pages.{item_in, slot_of}
use Rattle.slot_page.specs.Slots.{IsDead}
use Rattle.external_pointer.specs.declared.external.Pointer.{Pointer}
use Rattle.tuple_layout.specs.declared.cell.Cell.{Cell}
use Rattle.tuple_layout.specs.declared.cell.Cell.TheVariants.{Out}
use Rattle.chunk_relation.specs.declared.chunk.Chunk.{Chunk}
use Rattle.chunk_index.specs.declared.entry.Entry.{Entry}
use Rattle.toast_store.specs.Stores.{Store, is_used}
use Rattle.toast_store.specs.PieceJobs.{Piecing}
use Rattle.toast_store.specs.declared.piece_job.PieceStage.{PieceStage}
use Rattle.toast_store.specs.declared.piece_job.PieceStage.TheVariants as pieces
use Rattle.rewrite_facts.specs.Copies.{Copied}
use Rattle.rewrite_facts.specs.Rewrites.{Rewriting, busy_at, restored}
use Rattle.rewrite_facts.specs.declared.stage.RowCopy.{RowCopy}
use Rattle.rewrite_facts.specs.declared.stage.RewriteStage.{RewriteStage}
use Rattle.rewrite_facts.specs.declared.stage.RewriteStage.TheVariants.{Visiting, Filling, Reading, Placing, Laying, Ready}

-- the cells of the version that is being copied, once its pointers are those of the new values
abbrev pub cells_at : RewriteStage → List Cell
cells_at Visiting = []
cells_at (Filling copy) = []
cells_at (Reading copy at fetch) = []
cells_at (Placing copy columns at) = copy.cells
cells_at (Laying copy columns at job) = RowCopy.cells (restored copy columns at (Piecing.value job))
cells_at Ready = []

-- a column has a pointer to a new value: of the copy of the version at a place, or of the one that is being copied there
pub data HasPointer (copies : List Copied) (r : Rewriting) (from : Tid) (n : ℕ) (pointer : Pointer) : Type 0 where
  Made : (copy : Copied) → Contains copies copy → copy.from ≡ from → slice_get copy.cells n ≡ Some (Out pointer) → HasPointer copies r from n pointer
  UnderWay : r.place ≡ from → slice_get (cells_at r.stage) n ≡ Some (Out pointer) → HasPointer copies r from n pointer

-- some column has a pointer with an id
pub record IsOwned (copies : List Copied) (r : Rewriting) (value_id : ℕ) : Type 0 where
  pub from : Tid
  pub column : ℕ
  pub pointer : Pointer
  pub has : HasPointer copies r from column pointer
  pub id : pointer.value_id ≡ value_id

-- an entry names a slot
pub record IsNamed (entries : List Entry) (tid : Tid) : Type 0 where
  pub entry : Entry
  pub there : Contains entries entry
  pub names : entry.tid ≡ tid

-- the slot of a piece whose entry is added next
abbrev pub put_by : PieceStage → Option Tid
put_by (pieces.Putting seq) = None
put_by (pieces.Indexing seq tid) = Some tid
put_by pieces.Over = None

abbrev pub put_at : RewriteStage → Option Tid
put_at Visiting = None
put_at (Filling copy) = None
put_at (Reading copy at fetch) = None
put_at (Placing copy columns at) = None
put_at (Laying copy columns at job) = put_by (Piecing.stage job)
put_at Ready = None

-- a chunk of the new store: the rewrite has put it and none has ended it, it is of a value that a column has or that is on its way, and it is in the index or its entry comes next
pub record IsNewChunk (copies : List Copied) (r : Rewriting) (tid : Tid) (chunk : Chunk) : Type 0 where
  pub inserter : chunk.inserter ≡ r.xid
  pub ender : chunk.ender ≡ None
  pub owned : (busy_at r.stage ≡ Some chunk.value_id) ⊎ IsOwned copies r chunk.value_id
  pub named : (put_at r.stage ≡ Some tid) ⊎ IsNamed r.toast.index.entries tid

-- no other chunk is there, no slot is dead, since chunks are only put, and an id that the old store does not use was drawn for one column alone
pub record AreChunks (old : Store) (copies : List Copied) (r : Rewriting) : Type 0 where
  pub each : (tid : Tid) (chunk : Chunk) → item_in r.toast.rel.pages tid ≡ Some chunk → IsNewChunk copies r tid chunk
  pub undead : (tid : Tid) → IsDead (slot_of r.toast.rel.pages tid) → ⊥
  pub once : (from other : Tid) (n k : ℕ) (p q : Pointer) → HasPointer copies r from n p → HasPointer copies r other k q → p.value_id ≡ q.value_id → is_used old p.value_id ≡ false → (from ≡ other) × (n ≡ k)
