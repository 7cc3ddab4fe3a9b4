use Rattle.tuple_toaster.proofs.Least.{least}
use Rattle.tuple_toaster.proofs.law.least_size.Goals as goal

pub returns : goal.returns
returns c = least
