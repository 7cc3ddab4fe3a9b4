-- A table's store of values out of line: its chunks and the index that names them (PostgreSQL, "TOAST, Out-of-Line, On-Disk TOAST Storage").
use Rattle.std.specs.Prelude.{ℕ, ◌≡◌, ◌≢◌, ◌≤◌, Bool, List, Some, Contains, length, is_some, ⊤}
use Rattle.std.specs.List.{filter_map, list_any}
use Rattle.slot_page.specs.declared.line.Tid.{Tid}
use Rattle.slot_page.specs.declared.line.LinePointer.{LinePointer}
use Rattle.slot_page.specs.declared.line.LinePointer.TheVariants.{Normal, Dead, Unused}
use Rattle.slot_page.specs.Pages.{slot_of, item_in}
use Rattle.chunk_relation.specs.declared.chunk.Chunk.{Chunk}
use Rattle.slice_fetch.specs.Spans.{chunk_size}
use Rattle.chunk_relation.specs.Relations.{Pages, Relation}
use Rattle.chunk_index.specs.declared.entry.Entry.{Entry}
use Rattle.chunk_index.specs.Entries.{of_id}
use Rattle.chunk_index.specs.Indexes.{Index, IsIndex}

-- a store: its relation of chunks, and its index
pub record Store : Type 0 where
  pub rel : Relation
  pub index : Index

-- what may stand in the slot that an entry names: a chunk of its id and number, or nothing any more
abbrev pub Names : Entry → LinePointer Chunk → Type 0
Names e (Normal size chunk) = (chunk.value_id ≡ e.value_id) × (chunk.seq ≡ e.seq)
Names e Dead = ⊤
Names e Unused = ⊥

-- each entry names a chunk of its id and number or a dead slot, and no two name one slot
pub record IndexNamesChunks (pages : Pages) (entries : List Entry) : Type 0 where
  pub named : (e : Entry) → Contains entries e → Names e (slot_of pages e.tid)
  pub apart : (e f : Entry) → Contains entries e → Contains entries f → e.tid ≡ f.tid → e ≡ f

-- a chunk, if there is one, has 1 to 1,996 bytes (TOAST_MAX_CHUNK_SIZE)
abbrev pub IsPieceSized : LinePointer Chunk → Type 0
IsPieceSized (Normal size chunk) = (1 ≤ length chunk.bytes) × (length chunk.bytes ≤ chunk_size)
IsPieceSized Dead = ⊤
IsPieceSized Unused = ⊤

-- what is true of each store
pub record IsStore (store : Store) : Type 0 where
  pub index : IsIndex store.index
  pub names : IndexNamesChunks store.rel.pages store.index.entries
  pub sized : (tid : Tid) → IsPieceSized (slot_of store.rel.pages tid)

-- an entry names a chunk that has its id and its number
abbrev pub NamesChunk : Pages → Entry → Type 0
NamesChunk pages e = (chunk : Chunk) × (item_in pages e.tid ≡ Some chunk) × (chunk.value_id ≡ e.value_id) × (chunk.seq ≡ e.seq)

-- no entry names a slot
pub record IsUnnamed (entries : List Entry) (tid : Tid) : Type 0 where
  pub by_none : (e : Entry) → Contains entries e → e.tid ≢ tid

-- the chunks that entries name, in the order of the entries; an entry whose slot has none is passed over
abbrev pub named_by : Pages → List Entry → List Chunk
named_by pages entries = filter_map (λ e. item_in pages e.tid) entries

-- the chunks of the value with an id
abbrev pub chunks_of : Store → ℕ → List Chunk
chunks_of store value_id = named_by store.rel.pages (of_id value_id store.index.entries)

-- whether an id is used: an entry of it names a chunk
abbrev pub is_used : Store → ℕ → Bool
is_used store value_id = list_any (λ e. is_some (item_in store.rel.pages e.tid)) (of_id value_id store.index.entries)
