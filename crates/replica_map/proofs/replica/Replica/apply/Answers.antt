-- Each row still has at most 8 columns.
use Rattle.replica_map.proofs.Widths.{applied_narrow}
use Rattle.replica_map.proofs.replica.Replica.apply.Goals as goal

pub invariant_of-self-2 : goal.invariant_of-self-2
invariant_of-self-2 c = applied_narrow _ _ c.args.m.now c.requires c.self.invariant c.in_ok-apply_to.ensures
