use Rattle.core_versions.proofs.Proved.{versions_move}
use Rattle.core_versions.proofs.laws.versions_move.Goals as goal

pub returns : goal.returns
returns c = versions_move
