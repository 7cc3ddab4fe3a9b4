-- The part of a value that a slice names, and the chunks that it lies in (PostgreSQL, "TOAST": out-of-line, on-disk storage).
use Rattle.std.specs.Prelude.{ℕ, ◌≡◌, ◌+◌, ◌-◌, ◌*◌, ℤ, List, length, take, drop}
use Rattle.std.specs.List.{slice_range, flat_map, range_with_len}
use Rattle.tuple_layout.specs.Slices.{slice}
use Rattle.slice_fetch.specs.declared.Span.{Span}
use Rattle.slice_fetch.specs.declared.TheConstants.{CHUNK_SIZE}

-- the bytes of a value that a span names
abbrev pub bytes_in : Span → List ℕ → List ℕ
bytes_in span bytes = slice_range bytes span.start span.end

-- a span that names the bytes of a slice, in every value of this size
abbrev pub IsSlice : ℕ → ℤ → ℤ → Span → Type 0
IsSlice size offset len span = (bytes : List ℕ) → length bytes ≡ size → bytes_in span bytes ≡ slice bytes offset len

-- the most bytes of a value that one chunk holds
abbrev pub chunk_size : ℕ
chunk_size = CHUNK_SIZE

-- the bytes of a value that its chunk with this number holds, counted from 0
abbrev pub piece : List ℕ → ℕ → List ℕ
piece bytes seq = take chunk_size (drop (chunk_size * seq) bytes)

-- the pieces from one number to another, both included, joined in order
abbrev pub pieces_joined : List ℕ → ℕ → ℕ → List ℕ
pieces_joined bytes first last = flat_map (piece bytes) (range_with_len first (last + 1 - first))

-- a span as the joined pieces from this number on see it
abbrev pub seen_from : ℕ → Span → Span
seen_from first span = record { start = span.start - chunk_size * first; end = span.end - chunk_size * first }
