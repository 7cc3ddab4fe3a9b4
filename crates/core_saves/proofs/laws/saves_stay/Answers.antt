use Rattle.core_saves.proofs.Proved.{saves_stay}
use Rattle.core_saves.proofs.laws.saves_stay.Goals as goal

pub returns : goal.returns
returns c = saves_stay
