use Rattle.tuple_layout.proofs.StoredRowLemmas.{stored_read}
use Rattle.tuple_layout.proofs.law.stored_in_tuple.Goals as goal

pub returns : goal.returns
returns c = stored_read
