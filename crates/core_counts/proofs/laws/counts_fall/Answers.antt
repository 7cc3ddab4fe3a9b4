use Rattle.core_counts.proofs.Falling.{counts_fall}
use Rattle.core_counts.proofs.laws.counts_fall.Goals as goal

pub returns : goal.returns
returns c = counts_fall
