-- Cells by their numbers: a list of what each holds, where a free cell holds nothing.
use Rattle.std.specs.Prelude.{◌≡◌, ◌⊎◌, ℕ, zero, suc, ◌+◌, ◌-◌, ◌*◌, ◌/◌, ◌<◌, ◌≤◌, List, [], ◌∷◌, length, min, take, drop, slice_index_or}

-- what the map has under a cell number: no bytes where the number is not in the map
abbrev pub cell_at : List (List ℕ) → ℕ → List ℕ
cell_at cells number = slice_index_or cells number []

-- how many cells hold bytes
abbrev pub used : List (List ℕ) → ℕ
used [] = 0
used ([] ∷ cells) = used cells
used ((byte ∷ bytes) ∷ cells) = 1 + used cells

-- what contracts see of an arena: what it has under each cell number, how many of its cells are free,
-- and how many blocks it has
pub record CellMap : Type 0 where
  pub cells : List (List ℕ)
  pub spare : ℕ
  pub blocks : ℕ

-- the cells that hold bytes and the free ones are all cells of the blocks
abbrev pub IsCounted : CellMap → Type 0
IsCounted arena = used arena.cells + arena.spare ≡ 64 * arena.blocks

-- two maps have the same bytes under each number
abbrev pub IsSameMap : List (List ℕ) → List (List ℕ) → Type 0
IsSameMap old new = (number : ℕ) → cell_at new number ≡ cell_at old number

-- how many blocks are needed for so many cells
abbrev pub blocks_for : ℕ → ℕ
blocks_for cells = (cells + 63) / 64

-- how many of the first n blocks have a cell that holds bytes: a block is 64 cells
abbrev pub busy_among : ℕ → List (List ℕ) → ℕ
busy_among zero cells = 0
busy_among (suc n) cells = min 1 (used (take 64 cells)) + busy_among n (drop 64 cells)

-- how many blocks have a cell that holds bytes
abbrev pub busy_blocks : List (List ℕ) → ℕ
busy_blocks cells = busy_among (length cells / 64) cells

-- after a call of reserve for n free cells: as many blocks are added as these need and no more, each
-- has 64 free cells, and the map is the same
pub record IsReserved (old : CellMap) (n : ℕ) (new : CellMap) : Type 0 where
  pub enough : n ≤ new.spare
  pub blocks : new.blocks ≡ old.blocks + blocks_for (n - old.spare)
  pub spare : new.spare ≡ old.spare + 64 * blocks_for (n - old.spare)
  pub map : IsSameMap old.cells new.cells

-- after a call of give_back_blocks: so many blocks are gone, each with 64 free cells and no other; the
-- free cells are at least keep if one is gone; and either no further block could go without their
-- falling below that, or each block that is left holds bytes
pub record IsGivenBack (old : CellMap) (keep given : ℕ) (new : CellMap) : Type 0 where
  pub map : new.cells ≡ old.cells
  pub blocks : new.blocks + given ≡ old.blocks
  pub spare : new.spare + 64 * given ≡ old.spare
  pub kept : (given ≡ 0) ⊎ (keep ≤ new.spare)
  pub until : (new.spare < keep + 64) ⊎ (new.blocks ≡ busy_blocks new.cells)
