use Rattle.core_reads.proofs.Proved.{reads_begin}
use Rattle.core_reads.proofs.laws.reads_begin.Goals as goal

pub returns : goal.returns
returns c = reads_begin
