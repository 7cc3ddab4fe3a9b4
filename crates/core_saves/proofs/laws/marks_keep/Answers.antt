use Rattle.core_saves.proofs.Proved.{marks_keep}
use Rattle.core_saves.proofs.laws.marks_keep.Goals as goal

pub returns : goal.returns
returns c = marks_keep
