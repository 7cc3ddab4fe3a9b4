use Rattle.core_reads.proofs.Proved.{handles_begin}
use Rattle.core_reads.proofs.laws.handles_begin.Goals as goal

pub returns : goal.returns
returns c = handles_begin
