use Rattle.std.proofs.Common.{None, arith}
use Rattle.xact_status.specs.declared.Stamp.{Stamp}
use Rattle.xact_status.specs.Xacts.{IsAssigned}
use Rattle.heap_prune.specs.declared.tests.Mark.{Mark}
use Rattle.heap_prune.proofs.Events.{assigned_put, ended_stamp_assigned, new_stamp_assigned}
use Rattle.heap_prune.proofs.tests.put.Goals as goal

pub returns : goal.returns
returns g c =
    let inserted : IsAssigned c.args.xacts.now c.args.inserter = record { from_first = omega arith; below_next = omega arith } in
    let ended : IsAssigned c.args.xacts.now c.args.ender = record { from_first = omega arith; below_next = omega arith } in
    let fresh : Stamp = record { inserter = c.args.inserter; ender = None } in
    rw c.in_ok-_tid.ensures.put (assigned_put (λ (mark : Mark). mark.stamp) c.args.xacts.now 24 _ c.args.pages.now c.requires (ended_stamp_assigned c.args.xacts.now fresh c.args.ender ended (new_stamp_assigned c.args.xacts.now c.args.inserter inserted)))
