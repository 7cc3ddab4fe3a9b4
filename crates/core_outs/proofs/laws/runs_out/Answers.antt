use Rattle.core_outs.proofs.Proved.{runs_out}
use Rattle.core_outs.proofs.laws.runs_out.Goals as goal

pub returns : goal.returns
returns c = runs_out
