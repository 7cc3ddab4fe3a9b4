use Rattle.xact_status.proofs.Numbers.{kept_abort}
use Rattle.xact_status.proofs.XactTable.abort.Goals as goal

-- the abort is no commit, and the list of those that run is that of the new transactions
pub invariant_of-self : goal.invariant_of-self
invariant_of-self c = kept_abort _ _ _ _ _ _ (rw c.self.view_is c.requires) c.self.invariant c.end.ensures.ended c.end.ensures.kept

pub returns-clause-numbered : goal.returns-clause-numbered
returns-clause-numbered c = (kept_abort _ _ _ _ _ _ (rw c.self.view_is c.requires) c.self.invariant c.end.ensures.ended c.end.ensures.kept).numbered
