use Rattle.std.proofs.Common.{subst, arith}
use Rattle.cell_arena.specs.Cells.{IsCounted}
use Rattle.cell_arena.proofs.Entries.{counted}
use Rattle.cell_arena.proofs.arena.CellArena.spare.Goals as goal

pub returns-clause-counted : goal.returns-clause-counted
returns-clause-counted c =
    let all = counted c.self.inside.entries.items c.self.invariant.table.whole in
    let spare = c.self.invariant.spare_is in
    let blocks = c.self.invariant.blocks_is in
    subst IsCounted c.self.view_is (omega (arith, all, spare, blocks))
