use Rattle.core_looks.proofs.Proved.{commits_run}
use Rattle.core_looks.proofs.laws.commits_run.Goals as goal

pub returns : goal.returns
returns c = commits_run
