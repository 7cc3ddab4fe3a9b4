use Rattle.std.proofs.Common.{ap, arith, sym, ◌∙◌}
use Rattle.core_state.specs.State.{snapshot_of}
use Rattle.core_parts.proofs.Taking.{shares_copied}
use Rattle.core_parts.proofs.takes.take_for_handle.Goals as goal

pub share-requires : goal.share-requires
share-requires c =
    let is = ap snapshot_of (sym c.in_ok-take_copy.ensures.state) ∙ sym c.snapshot_of.ensures ∙ c.in-Some.is in
    let can = shares_copied c.args.state.now c.args.snaps.now c.args.xacts.now _ (omega arith) (λ id e. record { registered = (c.requires id e).0; few = (c.requires id e).1 }) c.in-Some.snapshot is in
    rw c.in_ok-take_copy.ensures.snaps (record { registered = can.registered; countable = can.few })
