use Rattle.value_holders.proofs.VersionSteps.{version_step_tells}
use Rattle.value_holders.proofs.laws.version_step_tells.Goals as goal

pub returns : goal.returns
returns g c = version_step_tells
