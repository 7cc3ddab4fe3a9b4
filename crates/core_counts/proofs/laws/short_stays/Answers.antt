use Rattle.core_counts.proofs.Shorts.{short_stays}
use Rattle.core_counts.proofs.laws.short_stays.Goals as goal

pub returns : goal.returns
returns c = short_stays
