use Rattle.core_saves.proofs.Proved.{marks_fall}
use Rattle.core_saves.proofs.laws.marks_fall.Goals as goal

pub returns : goal.returns
returns c = marks_fall
