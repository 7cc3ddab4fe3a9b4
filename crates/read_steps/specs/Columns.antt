-- The values of a row's columns, in hand or out of line.
use Rattle.std.specs.Prelude.{ℕ, ◌+◌, ◌≤◌, Bool, true, false, nat_lt, if◌then◌else◌, Option, Some, None, List, [], ◌∷◌, length, map, ⊤}
use Rattle.external_pointer.specs.declared.external.Pointer.{Pointer}
use Rattle.tuple_layout.specs.Places.{Row}
use Rattle.tuple_layout.specs.declared.cell.Cell.{Cell}
use Rattle.tuple_layout.specs.declared.cell.Cell.TheVariants.{Null, Inline, Out}
use Rattle.slice_fetch.specs.declared.Span.{Span}

-- the pointer of a value out of line that has bytes
abbrev pub pointer_in : Cell → Option Pointer
pointer_in Null = None
pointer_in (Inline value) = None
pointer_in (Out pointer) = if nat_lt 0 pointer.size then Some pointer else None

-- the value of a column that has no such pointer
abbrev pub value_in : Cell → Option (List ℕ)
value_in Null = None
value_in (Inline value) = Some value
value_in (Out pointer) = Some []

-- the row of columns that have none
abbrev pub row_in : List Cell → Row
row_in cells = map value_in cells

-- a place with its pointer, or what comes later
abbrev pub pointer_or : ℕ → Option Pointer → Option (ℕ × Pointer) → Option (ℕ × Pointer)
pointer_or at None later = later
pointer_or at (Some pointer) later = Some (at, pointer)

-- the first such pointer and its place, where the columns count from a number on
abbrev pub next_out_from : ℕ → List Cell → Option (ℕ × Pointer)
next_out_from at [] = None
next_out_from at (cell ∷ cells) = pointer_or at (pointer_in cell) (next_out_from (at + 1) cells)

-- the same of a row's columns, from 0
abbrev pub next_out : List Cell → Option (ℕ × Pointer)
next_out cells = next_out_from 0 cells

-- the span of a whole value
abbrev pub whole_span : Pointer → Span
whole_span pointer = record { start = 0; end = pointer.size }

-- a span lies in a value of this size
pub record IsWithin (span : Span) (size : ℕ) : Type 0 where
  pub ordered : span.start ≤ span.end
  pub within : span.end ≤ size

-- a span lies in a column's value, if that is not null
abbrev pub LiesIn : Span → Cell → Type 0
LiesIn span Null = ⊤
LiesIn span (Inline value) = IsWithin span (length value)
LiesIn span (Out pointer) = IsWithin span pointer.size

-- whether a value is out of line
abbrev pub is_out : Cell → Bool
is_out Null = false
is_out (Inline value) = false
is_out (Out pointer) = true
