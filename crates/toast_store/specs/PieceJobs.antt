-- Putting and indexing a value's pieces: each is put as a chunk under an id by a transaction, and then indexed.
use Rattle.std.specs.Prelude.{ℕ, ◌≡◌, ◌+◌, ◌-◌, ◌*◌, ◌<◌, ◌≤◌, Bool, true, false, nat_lt, if◌then◌else◌, Option, Some, None, List, length, map, ⊤}
use Rattle.std.specs.List.{range_with_len}
use Rattle.slot_page.specs.declared.line.Tid.{Tid}
use Rattle.slot_page.specs.Pages.{item_in, put_tid, with_put_on}
use Rattle.slice_fetch.specs.Spans.{piece}
use Rattle.external_pointer.specs.declared.external.Pointer.{Pointer}
use Rattle.chunk_relation.specs.declared.chunk.Chunk.{Chunk}
use Rattle.chunk_relation.specs.Chunks.{chunk_tuple_size, new_chunk}
use Rattle.chunk_relation.specs.Relations.{Relation}
use Rattle.chunk_index.specs.declared.entry.Entry.{Entry}
use Rattle.chunk_index.specs.Entries.{with_entry}
use Rattle.chunk_index.specs.Indexes.{Index, bounds_with}
use Rattle.toast_store.specs.Stores.{Store, IsUnnamed, chunks_of}
use Rattle.toast_store.specs.Values.{piece_count}
use Rattle.toast_store.specs.declared.piece_job.PieceStage.{PieceStage}
use Rattle.toast_store.specs.declared.piece_job.PieceStage.TheVariants.{Putting, Indexing, Over}

-- the pieces of a value on their way into a store: who puts them, under which id, the value, and how far they are
pub record Piecing : Type 0 where
  pub xid : ℕ
  pub value_id : ℕ
  pub value : List ℕ
  pub stage : PieceStage

-- the pieces of a value before the first is put
abbrev pub new_pieces : ℕ → ℕ → List ℕ → Piecing
new_pieces xid value_id value = record { xid = xid; value_id = value_id; value = value; stage = Putting 0 }

-- a piece that is still to be put or indexed is one of the value's
abbrev pub IsPieceStage : List ℕ → PieceStage → Type 0
IsPieceStage value (Putting seq) = seq < piece_count (length value)
IsPieceStage value (Indexing seq tid) = seq < piece_count (length value)
IsPieceStage value Over = ⊤

-- what is true of each job of pieces: its value has 1 to 65,536 bytes
pub record IsPieceJob (job : Piecing) : Type 0 where
  pub least : 1 ≤ length job.value
  pub most : length job.value ≤ 65536
  pub stage : IsPieceStage job.value job.stage

-- it has a step left
abbrev pub IsLaying : PieceStage → Type 0
IsLaying (Putting seq) = ⊤
IsLaying (Indexing seq tid) = ⊤
IsLaying Over = ⊥

-- whether it has none
abbrev pub is_laid : PieceStage → Bool
is_laid (Putting seq) = false
is_laid (Indexing seq tid) = false
is_laid Over = true

-- the number of the piece that the next step puts, if it puts one
abbrev pub seq_to_put : PieceStage → Option ℕ
seq_to_put (Putting seq) = Some seq
seq_to_put (Indexing seq tid) = None
seq_to_put Over = None

-- the first chunks of a value as a transaction puts them: each with its piece, and with no ender
abbrev pub chunks_put : ℕ → ℕ → List ℕ → ℕ → List Chunk
chunks_put xid value_id value n = map (λ seq. new_chunk value_id seq xid (piece value seq)) (range_with_len 0 n)

-- all of them
abbrev pub all_put : ℕ → ℕ → List ℕ → List Chunk
all_put xid value_id value = chunks_put xid value_id value (piece_count (length value))

-- so many pieces are indexed: the chunks under the id are these, as they were put
abbrev pub HasPieces : Store → Piecing → ℕ → Type 0
HasPieces store job n = chunks_of store job.value_id ≡ chunks_put job.xid job.value_id job.value n

-- a chunk is put and not yet indexed: it is in its slot as it was put, and no entry names that slot
pub record HasPut (store : Store) (chunk : Chunk) (tid : Tid) : Type 0 where
  pub there : item_in store.rel.pages tid ≡ Some chunk
  pub unnamed : IsUnnamed store.index.entries tid

-- the chunk of a piece as its job puts it
abbrev pub chunk_of : Piecing → ℕ → Chunk
chunk_of job seq = new_chunk job.value_id seq job.xid (piece job.value seq)

-- what a job of pieces relies on, by how far it is; at its end each piece is there
abbrev pub PiecesStandAt : Store → Piecing → PieceStage → Type 0
PiecesStandAt store job (Putting seq) = HasPieces store job seq
PiecesStandAt store job (Indexing seq tid) = HasPieces store job seq × HasPut store (chunk_of job seq) tid
PiecesStandAt store job Over = HasPieces store job (piece_count (length job.value))

-- what it relies on where it stands
abbrev pub PiecesStand : Store → Piecing → Type 0
PiecesStand store job = PiecesStandAt store job job.stage

-- the size of the tuple of a piece's chunk
abbrev pub tuple_size : List ℕ → ℕ → ℕ
tuple_size value seq = chunk_tuple_size (length (piece value seq))

-- how far the pieces are once one is indexed: at the next one, or at their end
abbrev pub stage_passed : List ℕ → ℕ → PieceStage
stage_passed value seq = if nat_lt (seq + 1) (piece_count (length value)) then Putting (seq + 1) else Over

-- how far they are after the next step
abbrev pub pieces_after : Relation → List ℕ → PieceStage → PieceStage
pieces_after rel value (Putting seq) = Indexing seq (put_tid (tuple_size value seq) rel.pages)
pieces_after rel value (Indexing seq tid) = stage_passed value seq
pieces_after rel value Over = Over

-- a put adds the piece's chunk to the relation, and nothing else changes that
abbrev pub rel_after : Relation → Piecing → PieceStage → Relation
rel_after rel job (Putting seq) = record rel { pages = with_put_on (tuple_size job.value seq) (chunk_of job seq) rel.pages }
rel_after rel job (Indexing seq tid) = rel
rel_after rel job Over = rel

-- an index with one entry more
pub record IsWithEntry (old new : Index) (e : Entry) : Type 0 where
  pub entries : new.entries ≡ with_entry old.entries e
  pub bounds : new.bounds ≡ bounds_with old.bounds old.entries e
  pub pins : new.pins ≡ old.pins

-- the step after a put adds the chunk's entry to the index, and nothing else changes that
abbrev pub IsIndexAfter : ℕ → PieceStage → Index → Index → Type 0
IsIndexAfter value_id (Putting seq) old new = new ≡ old
IsIndexAfter value_id (Indexing seq tid) old new = IsWithEntry old new (record { value_id = value_id; seq = seq; tid = tid })
IsIndexAfter value_id Over old new = new ≡ old

-- how many steps are left of so many pieces: two for each
abbrev pub steps_at : ℕ → PieceStage → ℕ
steps_at count (Putting seq) = 2 * (count - seq)
steps_at count (Indexing seq tid) = 2 * (count - seq) - 1
steps_at count Over = 0

-- how many steps a job of pieces has left
abbrev pub steps_left : Piecing → ℕ
steps_left job = steps_at (piece_count (length job.value)) job.stage

-- what a step does that finds memory
pub record PiecesStep (old : Store) (before : Piecing) (new : Store) (after : Piecing) : Type 0 where
  -- the job goes on, and the store has the piece's chunk or its entry more
  pub job : after ≡ record before { stage = pieces_after old.rel before.value before.stage }
  pub rel : new.rel ≡ rel_after old.rel before before.stage
  pub index : IsIndexAfter before.value_id before.stage old.index new.index
  -- what the next step relies on, and that one step fewer is left
  pub stands : PiecesStand new after
  pub left : steps_left before ≡ steps_left after + 1

-- the pointer of a value under an id, with a toast relation
abbrev pub pointer_to : Piecing → ℕ → Pointer
pointer_to job toast_rel = record { size = length job.value; value_id = job.value_id; toast_rel = toast_rel }
