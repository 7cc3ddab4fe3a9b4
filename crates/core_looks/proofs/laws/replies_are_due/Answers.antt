use Rattle.core_looks.proofs.Proved.{replies_are_due}
use Rattle.core_looks.proofs.laws.replies_are_due.Goals as goal

pub returns : goal.returns
returns c = replies_are_due
