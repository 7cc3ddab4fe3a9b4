use Rattle.core_saves.proofs.Proved.{marks_stay}
use Rattle.core_saves.proofs.laws.marks_stay.Goals as goal

pub returns : goal.returns
returns c = marks_stay
