-- What follows from the contracts.
use Rattle.std.specs.Prelude.{◌≡◌, ◌≢◌, ℕ, ◌<◌, ◌≤◌, List, length, slice_set}
use Rattle.cell_arena.specs.Cells.{CellMap, IsCounted, IsGivenBack, blocks_for, cell_at, used}

-- after blocks were given back, an arena with no bytes has no more blocks than keep cells need
abbrev pub EmptyArenasAreSmall : Type 0
EmptyArenasAreSmall = (old new : CellMap) (keep given : ℕ) → IsGivenBack old keep given new → IsCounted new → used new.cells ≡ 0 → new.blocks ≤ blocks_for keep

-- a write under a number of the arena changes what is under that number, and nothing else
abbrev pub WritesStayApart : Type 0
WritesStayApart = (cells : List (List ℕ)) (number other : ℕ) (bytes : List ℕ) → number < length cells → (cell_at (slice_set cells number bytes) number ≡ bytes) × (other ≢ number → cell_at (slice_set cells number bytes) other ≡ cell_at cells other)
