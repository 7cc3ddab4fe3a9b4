-- How far blocks without a used cell have been taken away.
use Rattle.std.specs.Prelude.{◌≡◌, ◌⊎◌, ℕ, ◌+◌, ◌*◌, ◌<◌, ◌≤◌, List, length}
use lib.ListN.{get_elem?}
use mathlib.Core.Option.{some}
use Rattle.cell_arena.specs.Cells.{used}
use Rattle.cell_arena.specs.Entries.{AreLinked, HasBlocks, blocks_here, cells_here, cells_of, free_here, total}
use Rattle.cell_arena.specs.declared.entry.Entry.{Entry}
use Rattle.cell_arena.specs.declared.entry.Swept.{Swept}

-- each of the first n blocks holds bytes
abbrev pub AreBusy : List Entry → ℕ → Type 0
AreBusy entries n = (i : ℕ) (e : Entry) → get_elem? entries i ≡ some e → i < n → blocks_here e.block ≡ 1 → 0 < used (cells_here e.block)

-- the first n places have been swept: no cell that holds bytes is gone, keep free cells are left if any
-- is gone, and no further block of these places could go
pub record AreSwept (old : List Entry) (keep n : ℕ) (swept : Swept) (new : List Entry) : Type 0 where
  pub size : length new ≡ length old
  pub whole : HasBlocks new
  pub linked : AreLinked new n swept.first
  pub cells : cells_of new ≡ cells_of old
  pub spare_is : swept.spare ≡ total free_here new
  pub fewer : total blocks_here new ≤ total blocks_here old
  pub gone : total free_here new + 64 * total blocks_here old ≡ total free_here old + 64 * total blocks_here new
  pub kept : (swept.spare ≡ total free_here old) ⊎ (keep ≤ swept.spare)
  pub until : (swept.spare < keep + 64) ⊎ AreBusy new n
