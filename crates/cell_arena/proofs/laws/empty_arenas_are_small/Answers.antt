use Rattle.cell_arena.proofs.Consequences.{empty_arenas_are_small}
use Rattle.cell_arena.proofs.laws.empty_arenas_are_small.Goals as goal

pub returns : goal.returns
returns c = empty_arenas_are_small
