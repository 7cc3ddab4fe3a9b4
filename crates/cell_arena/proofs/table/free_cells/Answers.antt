use Rattle.std.proofs.Common.{length, ap, arith}
use Rattle.cell_arena.specs.Entries.{cells_here}
use Rattle.cell_arena.proofs.Entries.{Cells}
use Rattle.cell_arena.proofs.UsedCells.{used_length}
use Rattle.cell_arena.proofs.table.free_cells.Goals as goal

pub overflow_sub-result : goal.overflow_sub-result
overflow_sub-result c =
    let is = ap (λ (b : Cells). length (cells_here b)) c.in-Some.is in
    let all = c.requires in
    let used_is = c.used.ensures in
    let small = used_length c.in-Some.block in
    omega (arith, is, all, used_is, small)
