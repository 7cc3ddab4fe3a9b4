-- A session that has ended stays so.
use Rattle.shared_store.proofs.Moves.{complete_later}
use Rattle.shared_store.proofs.laws.complete_stays.Goals as goal

pub returns : goal.returns
returns c = complete_later
