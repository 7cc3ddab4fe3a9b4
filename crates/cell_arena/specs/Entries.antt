-- The blocks of an arena by their places, and how those with a free cell are linked.
use Rattle.std.specs.Prelude.{◌≡◌, ◌⊎◌, ℕ, ◌+◌, ◌-◌, ◌*◌, ◌<◌, List, [], ◌∷◌, ◌++◌, length, replicate, slice_set, Option, Some, None}
use lib.ListN.{get_elem?}
use mathlib.Core.Option.{some}
use Rattle.cell_arena.specs.Cells.{IsSameMap, cell_at, used}
use Rattle.cell_arena.specs.FreeCells.{Apart}
use Rattle.cell_arena.specs.declared.entry.Entry.{Entry}

-- the cells of a place: all are free where no block is
abbrev pub cells_here : Option (List (List ℕ)) → List (List ℕ)
cells_here (Some cells) = cells
cells_here None = replicate 64 []

-- all cells, in the order of their numbers
abbrev pub cells_of : List Entry → List (List ℕ)
cells_of [] = []
cells_of (e ∷ es) = cells_here e.block ++ cells_of es

-- the free cells of a place
abbrev pub free_here : Option (List (List ℕ)) → ℕ
free_here (Some cells) = 64 - used cells
free_here None = 0

-- the blocks of a place
abbrev pub blocks_here : Option (List (List ℕ)) → ℕ
blocks_here (Some cells) = 1
blocks_here None = 0

-- a sum over all places
abbrev pub total : (Option (List (List ℕ)) → ℕ) → List Entry → ℕ
total f [] = 0
total f (e ∷ es) = f e.block + total f es

-- a block with a free cell is here
abbrev pub IsOpen : Option (List (List ℕ)) → Type 0
IsOpen block = 0 < free_here block

-- the blocks at these places have a free cell, each links to the next, and first is the first
abbrev pub Follows : List Entry → ℕ → List ℕ → Type 0
Follows entries first [] = Unit {0}
Follows entries first (i ∷ is) = (e : Entry) × (get_elem? entries i ≡ some e) × (first ≡ i) × IsOpen e.block × Follows entries e.next is

-- from first on, each block below n that has a free cell is reached once, and no other
pub record AreLinked (entries : List Entry) (n first : ℕ) : Type 0 where
  pub places : List ℕ
  pub follows : Follows entries first places
  pub apart : Apart places
  pub below : (k i : ℕ) → get_elem? places k ≡ some i → i < n
  pub all : (i : ℕ) (e : Entry) → get_elem? entries i ≡ some e → i < n → IsOpen e.block → (k : ℕ) × (get_elem? places k ≡ some i)

-- each place has 64 cells
abbrev pub HasBlocks : List Entry → Type 0
HasBlocks entries = (i : ℕ) (e : Entry) → get_elem? entries i ≡ some e → length (cells_here e.block) ≡ 64

-- the blocks are whole, and those with a free cell are linked from first on
pub record IsTable (entries : List Entry) (first : ℕ) : Type 0 where
  pub whole : HasBlocks entries
  pub linked : AreLinked entries (length entries) first

-- the parts of an arena belong together
pub record IsArena (entries : List Entry) (first spare blocks : ℕ) : Type 0 where
  pub table : IsTable entries first
  pub spare_is : spare ≡ total free_here entries
  pub blocks_is : blocks ≡ total blocks_here entries

-- the entry after cell i of its block got these bytes
abbrev pub with_cell : Entry → ℕ → List ℕ → Entry
with_cell e i bytes = record { block = Some (slice_set (cells_here e.block) i bytes); next = e.next }

-- no block is at this place
abbrev pub IsVacant : List Entry → ℕ → Type 0
IsVacant entries place = (e : Entry) × (get_elem? entries place ≡ some e) × (e.block ≡ None)

-- a block with all cells free was put at a place where none was, or behind the last
abbrev pub IsAdded : List Entry → ℕ → Entry → List Entry → Type 0
IsAdded old at entry new =
    (IsVacant old at × (new ≡ slice_set old at entry))
    ⊎ ((at ≡ length old) × (new ≡ old ++ entry ∷ []))

-- all cells of these blocks are free
abbrev pub AreFree : List (List (List ℕ)) → Type 0
AreFree blocks = (i : ℕ) (cells : List (List ℕ)) → get_elem? blocks i ≡ some cells → cells ≡ replicate 64 []

-- count blocks with all cells free were added, and first is the first of the blocks with a free cell
pub record AreAdded (old : List Entry) (count : ℕ) (new : List Entry) (first : ℕ) : Type 0 where
  pub table : IsTable new first
  pub free : total free_here new ≡ total free_here old + 64 * count
  pub blocks : total blocks_here new ≡ total blocks_here old + count
  pub map : IsSameMap (cells_of old) (cells_of new)

-- a free cell of the first block got these bytes
pub record IsFilled (old : List Entry) (place : ℕ) (bytes : List ℕ) (cell : ℕ) (new : List Entry) (first : ℕ) : Type 0 where
  pub table : IsTable new first
  pub there : (place < length old) × (cell < 64)
  pub was_free : cell_at (cells_of old) (place * 64 + cell) ≡ []
  pub cells : cells_of new ≡ slice_set (cells_of old) (place * 64 + cell) bytes
  pub free : total free_here new + 1 ≡ total free_here old
  pub blocks : total blocks_here new ≡ total blocks_here old

-- the cell with this number was emptied
pub record IsReleased (old : List Entry) (number : ℕ) (new : List Entry) (first : ℕ) : Type 0 where
  pub table : IsTable new first
  pub size : length new ≡ length old
  pub cells : cells_of new ≡ slice_set (cells_of old) number []
  pub free : total free_here new ≡ total free_here old + 1
  pub blocks : total blocks_here new ≡ total blocks_here old
