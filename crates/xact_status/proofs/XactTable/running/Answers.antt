use Rattle.xact_status.proofs.Ascending.{IsStrictlyIncreasing_ascending}
use Rattle.xact_status.specs.Xacts.{first_xid, running_xids}
use Rattle.xact_status.proofs.RunningLists.{running_ascends, running_members}
use Rattle.xact_status.proofs.XactTable.running.Goals as goal

-- the slice is the list of the running xids
pub returns-clause-ascending : goal.returns-clause-ascending
returns-clause-ascending c = rw (c.deref.ensures.value, c.self.invariant.running_is) (IsStrictlyIncreasing_ascending first_xid (running_xids c.self.inside.xacts.items) (running_ascends first_xid c.self.inside.xacts.items))

pub returns-clause-members : goal.returns-clause-members
returns-clause-members c = rw (c.deref.ensures.value, c.self.invariant.running_is, ← c.self.view_is) (running_members c.self.inside.xacts.items)
