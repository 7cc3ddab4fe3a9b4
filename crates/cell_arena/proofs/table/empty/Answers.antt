use Rattle.cell_arena.proofs.Entries.{vacant_cell}
use Rattle.cell_arena.proofs.table.empty.Goals as goal

pub unreachable-requires : goal.unreachable-requires
unreachable-requires c = c.requires.1 (vacant_cell _ _ c.in-None.is)
