-- Chunks and the slots that hold them (PostgreSQL, "TOAST, Out-of-Line, On-Disk TOAST Storage").
use Rattle.std.specs.Prelude.{ℕ, ◌+◌, Bool, Some, None, List}
use Rattle.slot_page.specs.declared.line.LinePointer.{LinePointer}
use Rattle.slot_page.specs.declared.line.LinePointer.TheVariants.{Normal, Dead, Unused}
use Rattle.xact_status.specs.declared.Stamp.{Stamp}
use Rattle.xact_status.specs.Versions.{IsStampAssigned}
use Rattle.xact_status.specs.Xacts.{Xacts}
use Rattle.heap_prune.specs.Lines as lines
use Rattle.heap_prune.specs.Lines.{is_dead_item}
use Rattle.chunk_relation.specs.declared.chunk.Chunk.{Chunk}
use Rattle.chunk_relation.specs.declared.chunk.ChunkView.{ChunkView}

-- a chunk with its bytes in place, as the chunk
abbrev pub chunk_shown : ChunkView → Chunk
chunk_shown view = record { value_id = view.value_id; seq = view.seq; inserter = view.inserter; ender = view.ender; bytes = view.bytes.now }

-- a chunk that was just put: nothing has ended it
abbrev pub new_chunk : ℕ → ℕ → ℕ → List ℕ → Chunk
new_chunk value_id seq inserter bytes = record { value_id = value_id; seq = seq; inserter = inserter; ender = None; bytes = bytes }

-- the size of a chunk's tuple, in bytes, by the number of its bytes
abbrev pub chunk_tuple_size : ℕ → ℕ
chunk_tuple_size n = n + 36

-- a slot whose chunk is ended by a transaction; one with no chunk stays
abbrev pub ended : ℕ → LinePointer Chunk → LinePointer Chunk
ended xid (Normal size chunk) = Normal size (record chunk { ender = Some xid })
ended xid Dead = Dead
ended xid Unused = Unused

-- the transactions that put and ended a chunk
abbrev pub chunk_stamp : Chunk → Stamp
chunk_stamp chunk = record { inserter = chunk.inserter; ender = chunk.ender }

-- whether no reader can see a chunk, by how the transactions stand and a horizon
abbrev pub is_dead_chunk : Xacts → ℕ → Chunk → Bool
is_dead_chunk xacts horizon chunk = is_dead_item chunk_stamp xacts horizon chunk

-- whether a slot has a chunk that no reader can see
abbrev pub is_newly_dead : Xacts → ℕ → LinePointer Chunk → Bool
is_newly_dead xacts horizon line = lines.is_newly_dead chunk_stamp xacts horizon line

-- the transactions that a chunk names were given their xids
abbrev pub IsChunkAssigned : Xacts → Chunk → Type 0
IsChunkAssigned xacts chunk = IsStampAssigned xacts (chunk_stamp chunk)
