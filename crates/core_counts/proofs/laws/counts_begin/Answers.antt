use Rattle.core_counts.proofs.Beginning.{counts_begin}
use Rattle.core_counts.proofs.laws.counts_begin.Goals as goal

pub returns : goal.returns
returns c = counts_begin
