use Rattle.core_looks.proofs.Proved.{refused_moments}
use Rattle.core_looks.proofs.laws.refused_moments.Goals as goal

pub returns : goal.returns
returns c = refused_moments
