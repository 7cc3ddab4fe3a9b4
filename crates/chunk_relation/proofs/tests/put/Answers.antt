use Rattle.std.proofs.Common.{arith}
use Rattle.xact_status.specs.Xacts.{IsAssigned}
use Rattle.chunk_relation.proofs.Events.{assigned_put, new_assigned}
use Rattle.chunk_relation.proofs.tests.put.Goals as goal

pub returns : goal.returns
returns g c =
    let given : IsAssigned c.args.xacts.now c.args.xid = record { from_first = omega arith; below_next = omega arith } in
    rw c.in_ok-tid.ensures.put (assigned_put c.args.xacts.now _ _ c.args.rel.now.pages c.requires (new_assigned c.args.xacts.now 16384 0 c.args.xid c.deref.result.now given))
