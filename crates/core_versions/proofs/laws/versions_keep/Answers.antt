use Rattle.core_versions.proofs.Proved.{versions_keep}
use Rattle.core_versions.proofs.laws.versions_keep.Goals as goal

pub returns : goal.returns
returns c = versions_keep
