use Rattle.core_versions.proofs.Proved.{versions_fall}
use Rattle.core_versions.proofs.laws.versions_fall.Goals as goal

pub returns : goal.returns
returns c = versions_fall
