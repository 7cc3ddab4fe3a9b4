-- The free cells of a block, linked by pointers.
use Rattle.std.specs.Prelude.{◌≡◌, ℕ, ◌+◌, ◌*◌, List, [], ◌∷◌, length, map, take, ◌≤◌}
use denote.RawPtr.{Ptr, InBlock, block_ptr, null_ptr}
use lib.ListN.{get_elem?}
use mathlib.Core.Option.{some}
use Rattle.cell_arena.specs.Cells.{used}
use Rattle.cell_arena.specs.declared.cell.Cell.{Cell}

-- what a cell holds
abbrev pub content : Cell → List ℕ
content c = take c.len c.bytes

-- where the i-th cell lies: a cell takes 2,024 bytes
abbrev pub place_of : ℕ → Ptr → Ptr
place_of i (block_ptr b o) = block_ptr b (i * 2024 + o)
place_of i null_ptr = null_ptr

-- the cells with these numbers are free, each links to the next, and p points to the first
abbrev pub Linked : Ptr → List Cell → Ptr → List ℕ → Type 0
Linked base cells p [] = Unit {0}
Linked base cells p (i ∷ is) = (c : Cell) × (get_elem? cells i ≡ some c) × (p ≡ place_of i base) × (c.number ≡ i) × (c.len ≡ 0) × Linked base cells c.next is

-- no number stands twice
abbrev pub Apart : List ℕ → Type 0
Apart [] = Unit {0}
Apart (i ∷ is) = ((j : ℕ) (k : ℕ) → get_elem? is k ≡ some j → ¬ (j ≡ i)) × Apart is

-- a block: its free cells are linked, each once, and there are as many as hold nothing
pub record IsBlock (base : Ptr) (cells : List Cell) (free : Ptr) (used_cells : ℕ) : Type 0 where
  pub numbers : List ℕ
  pub lies : InBlock base
  pub size : length cells ≡ 64
  pub count : length numbers + used_cells ≡ 64
  pub linked : Linked base cells free numbers
  pub apart : Apart numbers
  pub used_is : used_cells ≡ used (map content cells)
  pub each : (i : ℕ) (c : Cell) → get_elem? cells i ≡ some c → (c.number ≡ i) × (c.len ≤ 1996)

-- the first n cells of a block that is being made: each is free, and links to the cell behind it
pub record IsBegun (base : Ptr) (cells : List Cell) (n : ℕ) : Type 0 where
  pub size : length cells ≡ n
  pub each : (i : ℕ) (c : Cell) → get_elem? cells i ≡ some c → (c.number ≡ i) × (c.len ≡ 0) × (c.next ≡ place_of (i + 1) base)
