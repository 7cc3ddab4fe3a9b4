-- Values, their pieces, and when a pointer's value is in a store (PostgreSQL, "TOAST, Out-of-Line, On-Disk TOAST Storage").
use Rattle.std.specs.Prelude.{ℕ, ◌≡◌, ◌+◌, ◌-◌, ◌*◌, ◌/◌, List, length, map, min}
use Rattle.std.specs.List.{flat_map, range_with_len}
use Rattle.external_pointer.specs.declared.external.Pointer.{Pointer}
use Rattle.slice_fetch.specs.Spans.{chunk_size, piece}
use Rattle.chunk_relation.specs.declared.chunk.Chunk.{Chunk}
use Rattle.toast_store.specs.Stores.{Store, chunks_of}

-- a piece of a value: its number and its bytes
pub record Piece : Type 0 where
  pub seq : ℕ
  pub bytes : List ℕ

-- the piece that a chunk holds, whoever put and ended it
abbrev pub piece_in : Chunk → Piece
piece_in chunk = record { seq = chunk.seq; bytes = chunk.bytes }

-- how many pieces a value of this many bytes has
abbrev pub piece_count : ℕ → ℕ
piece_count size = (size + (chunk_size - 1)) / chunk_size

-- how many bytes the piece with this number has in a value of this many bytes
abbrev pub piece_size : ℕ → ℕ → ℕ
piece_size size seq = min chunk_size (size - chunk_size * seq)

-- so many pieces of a value, from one on
abbrev pub pieces_of : List ℕ → ℕ → ℕ → List Piece
pieces_of value first n = map (λ seq. record { seq = seq; bytes = piece value seq }) (range_with_len first n)

-- a pointer's value is whole in a store: the chunks under its id are its pieces, each once and in order
pub record Whole (store : Store) (pointer : Pointer) (value : List ℕ) : Type 0 where
  pub chunks : map piece_in (chunks_of store pointer.value_id) ≡ pieces_of value 0 (piece_count (length value))
  pub size : pointer.size ≡ length value

-- the bytes of a pointer's value: those of the chunks under its id, in the order of their entries
abbrev pub value_in : Store → Pointer → List ℕ
value_in store pointer = flat_map (λ (chunk : Chunk). chunk.bytes) (chunks_of store pointer.value_id)
