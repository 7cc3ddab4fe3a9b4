use Rattle.core_saves.proofs.Proved.{saves_fall}
use Rattle.core_saves.proofs.laws.saves_fall.Goals as goal

pub returns : goal.returns
returns c = saves_fall
