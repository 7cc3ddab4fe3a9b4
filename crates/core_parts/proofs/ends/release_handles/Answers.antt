use Rattle.std.proofs.Common.{sym, ◌∙◌}
use Rattle.core_parts.proofs.Uses.{release_step}
use Rattle.core_parts.proofs.ends.release_handles.Goals as goal

pub release-requires : goal.release-requires
release-requires c = (release_step c.loop-handle.snaps c.args.handles.now c.loop-handle.handle-index c.handle-item.result c.loop-handle-test.true c.handle-item.is c.loop-handle.invariant.can).0

pub loop-handle-preserved : goal.loop-handle-preserved
loop-handle-preserved c =
    let step = release_step c.loop-handle.snaps c.args.handles.now c.loop-handle.handle-index c.handle-item.result c.loop-handle-test.true c.handle-item.is c.loop-handle.invariant.can in
    record { can = rw c.release.ensures step.1; same = rw c.release.ensures (sym step.2 ∙ c.loop-handle.invariant.same) }
