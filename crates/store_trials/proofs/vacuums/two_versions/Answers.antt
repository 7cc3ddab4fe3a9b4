use Rattle.std.proofs.Common.{arith}
use Rattle.xact_status.specs.Xacts.{IsAssigned}
use Rattle.heap_prune.proofs.Events.{new_stamp_assigned}
use Rattle.row_versions.proofs.Events.{assigned_put}
use Rattle.store_trials.proofs.vacuums.two_versions.Goals as goal

pub loop-xid-preserved : goal.loop-xid-preserved
loop-xid-preserved c =
    let given : IsAssigned c.args.xacts.now c.loop-xid.xid = record { from_first = omega arith; below_next = omega arith } in
    rw c.in_ok-put_version.ensures.put (assigned_put c.args.xacts.now _ _ c.loop-xid.rel.pages c.loop-xid.invariant (new_stamp_assigned c.args.xacts.now c.loop-xid.xid given))
