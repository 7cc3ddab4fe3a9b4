use Rattle.core_saves.proofs.Proved.{saves_keep}
use Rattle.core_saves.proofs.laws.saves_keep.Goals as goal

pub returns : goal.returns
returns c = saves_keep
