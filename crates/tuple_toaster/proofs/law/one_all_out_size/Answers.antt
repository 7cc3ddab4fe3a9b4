use Rattle.tuple_toaster.proofs.AllOut.{one_size}
use Rattle.tuple_toaster.proofs.law.one_all_out_size.Goals as goal

pub returns : goal.returns
returns c = one_size
