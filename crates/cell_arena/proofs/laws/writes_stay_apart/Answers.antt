use Rattle.cell_arena.proofs.Consequences.{writes_stay_apart}
use Rattle.cell_arena.proofs.laws.writes_stay_apart.Goals as goal

pub returns : goal.returns
returns c = writes_stay_apart
