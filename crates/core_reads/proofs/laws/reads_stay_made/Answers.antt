use Rattle.core_reads.proofs.Proved.{reads_stay_made}
use Rattle.core_reads.proofs.laws.reads_stay_made.Goals as goal

pub returns : goal.returns
returns c = reads_stay_made
