use Rattle.cell_arena.proofs.FreeCells.{fits_of}
use Rattle.cell_arena.proofs.block.Block.get.Goals as goal

pub shared_ref_as_front-result : goal.shared_ref_as_front-result
shared_ref_as_front-result c = fits_of _ _ _ _ _ c.self.invariant c.requires _ c.index-cell.ensures
