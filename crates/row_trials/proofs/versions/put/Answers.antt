use Rattle.std.proofs.Common.{arith}
use Rattle.xact_status.specs.Xacts.{IsAssigned}
use Rattle.heap_prune.proofs.Events.{new_stamp_assigned}
use Rattle.row_versions.proofs.Events.{assigned_put}
use Rattle.row_trials.proofs.versions.put.Goals as goal

pub returns : goal.returns
returns g c =
    let given : IsAssigned c.args.xacts.now c.args.xid = record { from_first = omega arith; below_next = omega arith } in
    rw c.in_ok-tid.ensures.put (assigned_put c.args.xacts.now _ _ c.args.rel.now.pages c.requires (new_stamp_assigned c.args.xacts.now c.args.xid given))
