use Rattle.core_reads.proofs.Proved.{read_steps_keep}
use Rattle.core_reads.proofs.laws.read_steps_keep.Goals as goal

pub returns : goal.returns
returns c = read_steps_keep
