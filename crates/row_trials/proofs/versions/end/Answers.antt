use Rattle.std.proofs.Common.{arith}
use Rattle.slot_page.specs.Pages.{slot_of}
use Rattle.xact_status.specs.Xacts.{IsAssigned}
use Rattle.row_versions.proofs.Events.{assigned_ended, shown_normal}
use Rattle.row_trials.proofs.versions.end.Goals as goal

pub set_ender-requires : goal.set_ender-requires
set_ender-requires g c = shown_normal (slot_of c.args.rel.now.pages c.args.tid) c.version_at.result c.version_at.ensures.version (cc c.is_some.ensures)

pub returns : goal.returns
returns g c =
    let given : IsAssigned c.args.xacts.now c.args.xid = record { from_first = omega arith; below_next = omega arith } in
    rw c.set_ender.ensures.ended (assigned_ended c.args.xacts.now c.args.xid c.args.rel.now.pages c.args.tid c.requires given)
