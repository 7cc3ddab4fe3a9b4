use Rattle.change_stream.proofs.Telling.{replica_is_latest}
use Rattle.change_stream.proofs.laws.replica_is_the_store.Goals as goal

pub returns : goal.returns
returns c = replica_is_latest
